-- All parts of the node's requests of one kind are over exactly where the items that they are were taken.
use Rattle.std.proofs.Common.{◌≡◌, ℕ, zero, suc, ◌<◌, List, [], ◌∷◌, length, Some, None, Bool, true, false, ◌==◌, ◌&&◌, refl, sym, ap, ◌∙◌, subst, arith, eqb-true}
use Rattle.std.proofs.lemmas.List.{length-map}
use Rattle.std.specs.Prelude.{if◌then◌else◌, IsSome, slice_get}
use Rattle.std.specs.Option.{option_map_or}
use Rattle.std.proofs.lemmas.Bool.{both_ways, not-true, or_left, or_right}
use Rattle.sc_base.specs.declared.value.Place.{Place}
use Rattle.sc_base.specs.declared.value.Value.{Value}
use Rattle.effect_order.specs.Lists.{In}
use Rattle.sc_meaning.specs.declared.request.Request.{Request}
use Rattle.sc_meaning.specs.declared.event.SourceEvent.{SourceEvent}
use Rattle.sc_meaning.specs.declared.event.SourceEvent.TheVariants.{Effect}
use Rattle.effect_order.specs.Transfer.{part_place, part_value}
use Rattle.sc_meaning.specs.Parts.{transfer_of, is_blocking_copy, is_split as asks_split, is_one_way, is_issued}
use Rattle.sc_meaning.specs.Past.{Processes, made}
use Rattle.sc_meaning.specs.History.{AllDone}
use Rattle.sc_isa.specs.declared.access.Access.{Access}
use Rattle.sc_isa.specs.declared.access.Track.{Track}
use Rattle.sc_isa.specs.declared.journal.Entry.{Entry}
use Rattle.sc_isa.specs.declared.journal.Entry.TheVariants.{Issued, Delivered, Waited, Arrived, Passed, Finished}
use Rattle.fabric.specs.Access.{transfer_of as moved_by, track_of, is_store}
use Rattle.source_order.specs.Steps.{request_by, requested, track_at}
use Rattle.sc_meaning.specs.OfAccess.{is_blocking, is_split, request_in, is_done_at_once, unlined}
use Rattle.source_order.specs.Needs.{is_on}
use Rattle.source_order.proofs.Stands.{Stands, asked, own_length, own_at}
use Rattle.source_order.proofs.Numbers.{issued_is, access_is}
use Rattle.source_order.proofs.Occurs.{as_part, some_from, some_is, part_of, found}
use Rattle.source_order.proofs.Standing.{own_running}
use Rattle.source_order.proofs.Character.{IsAccess, an_effect}
use Rattle.source_order.proofs.Matches.{Known, asked_for, same_transfer, Unlined, blocking_unlined, split_unlined, one_way_unlined, issued_unlined, Sane, fits, track_is}
use Rattle.source_order.proofs.Taken.{It, E, Took, has_place}
use Rattle.source_order.proofs.Parted.{Full, Begun, part_taken, taken_part, made_request, request_made}
use Rattle.source_order.proofs.Stands.{Asked}

pub get_below : {A : Type 0} (xs : List A) (k : ℕ) (x : A) → slice_get xs k ≡ Some x → k < length xs
get_below [] k x h = absurd cc
get_below (y ∷ xs) zero x h = omega arith
get_below (y ∷ xs) (suc k) x h = let u = get_below xs k x h in omega arith

-- what is issued is an access
pub issue_of : (p : ℕ) (e : Entry) (r : Request) → request_by p e ≡ Some r → is_issued r ≡ true → (n : ℕ) × (access : Access) × (e ≡ Issued p n access) × (r ≡ request_in access)
issue_of p (Issued q n access) r h i = by (q == p) refl h
  where
    by : (b : Bool) → (q == p) ≡ b → (if b then Some (request_in access) else None) ≡ Some r → (m : ℕ) × (a : Access) × (Issued q n access ≡ Issued p m a) × (r ≡ request_in a)
    by true t g = (n, access, ap (λ u. Issued u n access) (eqb-true q p t), cc)
    by false t g = absurd cc
issue_of p (Waited q c) r h i = by ((q == p) && (c == 0)) h
  where
    by : (b : Bool) → (if b then Some (Rattle.sc_meaning.specs.declared.request.Request.TheVariants.Sync 0) else None) ≡ Some r → (m : ℕ) × (a : Access) × (Waited q c ≡ Issued p m a) × (r ≡ request_in a)
    by true g = absurd (let z : Rattle.sc_meaning.specs.declared.request.Request.TheVariants.Sync 0 ≡ r = cc in both_ways (is_issued r) (ap is_issued (sym z)) i)
    by false g = absurd cc
issue_of p (Arrived q s) r h i = by (q == p) s h
  where
    by : (b s : Bool) → (if b then Some (Rattle.sc_meaning.specs.History.barrier_of s 0) else None) ≡ Some r → (m : ℕ) × (a : Access) × (Arrived q s ≡ Issued p m a) × (r ≡ request_in a)
    by true true g = absurd (let z : Rattle.sc_meaning.specs.declared.request.Request.TheVariants.AllStoreSync 0 ≡ r = cc in both_ways (is_issued r) (ap is_issued (sym z)) i)
    by true false g = absurd (let z : Rattle.sc_meaning.specs.declared.request.Request.TheVariants.Barrier 0 ≡ r = cc in both_ways (is_issued r) (ap is_issued (sym z)) i)
    by false s g = absurd cc
issue_of p (Delivered _ _ _ _) r h i = absurd cc
issue_of p (Passed _) r h i = absurd cc
issue_of p (Finished _ _) r h i = absurd cc

-- a kind of request, and its tracks
pub record Kind (kind : Request → Bool) (on : Track → Bool) : Type 0 where
  pub unlined : Unlined kind
  pub issued : (r : Request) → kind r ≡ true → is_issued r ≡ true
  pub fits : (access : Access) → Sane access → is_done_at_once access ≡ false → kind (request_in access) ≡ on (track_of access)

pub blocking_kind : Kind is_blocking_copy is_blocking
blocking_kind = record { unlined = blocking_unlined; issued = λ r h. or_left _ _ (or_left _ _ h); fits = λ a s h. (fits a s).4 h }

pub split_kind : Kind asks_split is_split
split_kind = record { unlined = split_unlined; issued = λ r h. or_left _ _ (or_right _ _ h); fits = λ a s h. (fits a s).2 h }

pub store_kind : Kind is_one_way is_store
store_kind = record { unlined = one_way_unlined; issued = λ r h. or_right _ _ h; fits = λ a s h. (fits a s).3 h }

module _ (processes : Processes) (whole : List Entry) (known : Known processes whole) where
  pub sane : (p n : ℕ) (past : List Entry) (access : Access) → p < processes.nodes → Stands past (Issued p n access) whole → Sane access
  sane p n past access lt s place e =
      known.no_stored_read p lt n place ((access_is processes.start processes.nodes p n access past whole known.wired s).0 ∙ ap (λ u. Some u) e)

  -- the processes's request behind an access
  pub record Behind (p k : ℕ) (access : Access) : Type 0 where
    pub node_within : p < processes.nodes
    pub request : Request
    pub its : slice_get (Full processes whole known p).events k ≡ Some request
    pub is : unlined request ≡ request_in access
    pub moves : transfer_of request ≡ moved_by access
    pub sane : Sane access

  pub behind : (p k : ℕ) (once : Bool) (a : IsAccess whole p k once) → Behind p k a.access
  behind p k once a =
      let n = (own_running processes.start processes.nodes p (Issued p a.n a.access) a.past (Rattle.source_order.proofs.Stands.wired_at processes.start processes.nodes a.past (Issued p a.n a.access) whole known.wired a.stands).0 (request_in a.access) (issued_is p a.n a.access)).2 in
      let r = asked_for processes whole known p n a.past (Issued p a.n a.access) (request_in a.access) a.stands (issued_is p a.n a.access) in
      let s = sane p a.n a.past a.access n a.stands in
      record {
        node_within = n;
        request = r.0;
        its = subst (λ u. slice_get (Full processes whole known p).events u ≡ Some r.0) a.numbered r.1;
        is = r.2;
        moves = sym (same_transfer r.0) ∙ ap transfer_of r.2 ∙ (fits a.access s).0;
        sane = s;
      }

  pub on_is : (on : Track → Bool) (p k : ℕ) (once : Bool) (a : IsAccess whole p k once) → is_on whole on p k ≡ on (track_of a.access)
  on_is on p k once a = ap (λ o. option_map_or on o false) (subst (λ u. track_at p u whole ≡ Some (track_of a.access)) a.numbered (track_is p a.n a.access a.past whole a.stands))

  module _ (kind : Request → Bool) (on : Track → Bool) (kinded : Kind kind on) where
    -- the parts on these tracks of the requests made
    abbrev pub PartsIn : ℕ → List SourceEvent → Type 0
    PartsIn p past = (k c : ℕ) (wrote : Bool) (place : Place) (value : Value) → k < made p past → It processes whole known (Effect p k c wrote place value) → is_on whole on p k ≡ true → In (Effect p k c wrote place value) past

    pub parts_in : (p : ℕ) (past : List SourceEvent) → Took processes whole known past → Begun processes whole known p past → AllDone processes kind p past → PartsIn p past
    parts_in p past t b d k c wrote place value lt h o =
        let r = behind p k false h.0 in
        let is_kind : kind r.request ≡ true = sym (kinded.unlined r.request) ∙ ap kind r.is ∙ kinded.fits h.0.access r.sane h.0.kind ∙ sym (on_is on p k false h.0) ∙ o in
        let pl = has_place processes whole known p k c false wrote place value h.0 h.1 in
        part_taken processes whole known past t p k c wrote place value h
        (d k r.request (made_request processes whole known p past b k r.request lt r.its) is_kind c wrote (some_from _ place (ap (λ u. part_place u c wrote) r.moves ∙ pl)))

    pub all_done : (p : ℕ) (past : List SourceEvent) → p < processes.nodes → Begun processes whole known p past → PartsIn p past → AllDone processes kind p past
    all_done p past n b f k r h is_kind c wrote some =
        let m = request_made processes whole known p past b k r h in
        let lt : k < requested p whole = (let u = get_below (Full processes whole known p).events k r m.1 in let v = ap length (known.requests p n) in let w = own_length p whole in let x = length-map (Full processes whole known p).events unlined in omega arith) in
        let a = asked p k whole lt in
        let g = asked_for processes whole known p n a.past a.entry a.request a.stands a.by in
        let same : g.0 ≡ r = (let z = subst (λ u. slice_get (Full processes whole known p).events u ≡ Some g.0) a.numbered g.1 in let y = m.1 in cc) in
        let ur : unlined r ≡ a.request = ap unlined (sym same) ∙ g.2 in
        let i = issue_of p a.entry a.request a.by (ap is_issued (sym ur) ∙ issued_unlined r ∙ kinded.issued r is_kind) in
        let at_once : is_done_at_once i.1 ≡ false = not_once i.1 (sane p i.0 a.past i.1 n (subst (λ u. Stands a.past u whole) i.2 a.stands)) (ap is_issued (sym i.3 ∙ sym ur) ∙ issued_unlined r ∙ kinded.issued r is_kind) in
        let acc : IsAccess whole p k false = record { past = a.past; n = i.0; access = i.1; stands = subst (λ u. Stands a.past u whole) i.2 a.stands; numbered = a.numbered; kind = at_once } in
        let mv : transfer_of r ≡ moved_by i.1 = sym (same_transfer r) ∙ ap transfer_of (ur ∙ i.3) ∙ (fits i.1 (sane p i.0 a.past i.1 n acc.stands)).0 in
        let occ = known.all_occurred p n i.0 i.1 (access_is processes.start processes.nodes p i.0 i.1 a.past whole known.wired acc.stands).0 refl c wrote (subst (λ u. IsSome (part_place u c wrote)) mv some) in
        let v = some_is (part_value p i.0 c wrote (E processes whole known)) occ in
        let e = found p i.0 c wrote (E processes whole known) v.0 v.1 in
        let q = part_of p i.0 c wrote e.0 e.2 in
        let it : In (an_effect p i.0 c wrote e.0.place e.0.value) (E processes whole known) =
        as_part p i.0 c wrote e.0 (E processes whole known) e.1 e.2 in
        taken_part processes whole known past p k c wrote e.0.place e.0.value
        (f k c wrote e.0.place e.0.value m.0 (acc, it) (on_is on p k false acc ∙ sym (kinded.fits i.1 (sane p i.0 a.past i.1 n acc.stands) at_once) ∙ ap kind (sym i.3 ∙ sym ur) ∙ kinded.unlined r ∙ is_kind))
      where
        not_once : (access : Access) → Sane access → is_issued (request_in access) ≡ true → is_done_at_once access ≡ false
        not_once access s h = not-true (is_done_at_once access) (sym (fits access s).1 ∙ h)
