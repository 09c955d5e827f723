-- The source allows a node's own step exactly where all that it needs was taken, and it shows what its place holds.
use Rattle.std.proofs.Common.{◌≡◌, ℕ, ◌+◌, ◌<◌, List, [], ◌∷◌, Some, Bool, true, false, ◌==◌, ◌&&◌, refl, sym, ap, ◌∙◌, subst, ⊎_elim, arith, eqb-true, ltb-true, lt-ltb}
use Rattle.std.specs.Prelude.{if◌then◌else◌, slice_get, nat_lt, not}
use Rattle.std.proofs.lemmas.Bool.{and_parts, and_from, or_cases, or_left, or_right}
use Rattle.sc_base.specs.declared.value.Place.{Place}
use Rattle.sc_base.specs.declared.value.Value.{Value}
use Rattle.effect_order.specs.Effect.{held, IsShown}
use Rattle.effect_order.specs.Items.{effects_of, memory_of}
use Rattle.effect_order.specs.Lists.{In}
use Rattle.effect_order.proofs.Exchange.{one_memory}
use Rattle.sc_meaning.specs.declared.request.Request.{Request}
use Rattle.sc_meaning.specs.declared.request.Request.TheVariants as ask
use Rattle.sc_meaning.specs.declared.event.SourceEvent.{SourceEvent}
use Rattle.sc_meaning.specs.declared.event.SourceEvent.TheVariants.{Do, Issue, Effect, Sync, Arrive, Release, End as Over}
use Rattle.effect_order.specs.Transfer.{part_place, further, or_read, written}
use Rattle.sc_meaning.specs.Parts.{is_issued, is_split as asks_split}
use Rattle.sc_meaning.specs.Past.{Processes, effects as source_effects}
use Rattle.sc_meaning.specs.History.{Allowed, IsNext, barrier_of}
use Rattle.sc_isa.specs.declared.access.Access.{Access}
use Rattle.sc_isa.specs.declared.access.Access.TheVariants.{Read, Write, Copy}
use Rattle.sc_isa.specs.declared.access.Track.{Track}
use Rattle.sc_isa.specs.declared.access.Track.TheVariants.{Counter, Store, Covered}
use Rattle.sc_isa.specs.declared.journal.Entry.{Entry}
use Rattle.sc_isa.specs.declared.journal.Entry.TheVariants.{Waited, Arrived}
use Rattle.fabric.specs.Access.{transfer_of as moved_by}
use Rattle.sc_meaning.specs.OfAccess.{is_blocking, is_split, is_done_at_once, request_in, unlined}
use Rattle.source_order.specs.Moments.{does}
use Rattle.source_order.specs.Needs.{is_on, step_needs, sync_needs, needs}
use Rattle.source_order.proofs.Numbers.{eq_self, if_true, both_self, access_is}
use Rattle.source_order.proofs.Effected.{Writes, run_writes}
use Rattle.effect_order.proofs.Members.{each-in}
use Rattle.source_order.proofs.Character.{IsAccess, an_effect}
use Rattle.source_order.proofs.Matches.{Known, asked_for, fits, issued_unlined}
use Rattle.source_order.proofs.Taken.{It, E, Took, is_own, has_place}
use Rattle.source_order.proofs.Parted.{Full}
use Rattle.source_order.proofs.Over.{behind, split_kind, parts_in, all_done}
use Rattle.source_order.proofs.NextOnes.{Next, start_of, next_met, met_next}

-- ---- what the places hold

effects_same : (past : List SourceEvent) → effects_of does past ≡ source_effects past
effects_same [] = refl
effects_same (Do p k wrote place value ∷ past) = ap (λ u. an_effect p k 0 wrote place value ∷ u) (effects_same past)
effects_same (Effect p k c wrote place value ∷ past) = ap (λ u. an_effect p k c wrote place value ∷ u) (effects_same past)
effects_same (Issue _ _ ∷ past) = effects_same past
effects_same (Sync _ _ ∷ past) = effects_same past
effects_same (Arrive _ _ _ ∷ past) = effects_same past
effects_same (Release _ ∷ past) = effects_same past
effects_same (Over _ _ ∷ past) = effects_same past

pub holds : (start : Place → Value) (place : Place) (past : List SourceEvent) → memory_of does start past place ≡ held start place (source_effects past)
holds start place past = one_memory does start place past ∙ ap (held start place) (effects_same past)

-- ---- requests with a line

read_line : (place : Place) (r : Request) → unlined r ≡ ask.Read place 0 → (line : ℕ) × (r ≡ ask.Read place line)
read_line place (ask.Read p line) h = (line, let e : p ≡ place = cc in ap (λ u. ask.Read u line) e)
read_line place (ask.Write _ _ _) h = absurd cc
read_line place (ask.Get _ _) h = absurd cc
read_line place (ask.Put _ _ _) h = absurd cc
read_line place (ask.Store _ _ _) h = absurd cc
read_line place (ask.Copy _ _ _ _ _) h = absurd cc
read_line place (ask.Sync _) h = absurd cc
read_line place (ask.Barrier _) h = absurd cc
read_line place (ask.AllStoreSync _) h = absurd cc

write_line : (place : Place) (value : Value) (r : Request) → unlined r ≡ ask.Write place value 0 → (line : ℕ) × (r ≡ ask.Write place value line)
write_line place value (ask.Write p v line) h = (line, let e : p ≡ place = cc in let f : v ≡ value = cc in ap (λ u. ask.Write u v line) e ∙ ap (λ u. ask.Write place u line) f)
write_line place value (ask.Read _ _) h = absurd cc
write_line place value (ask.Get _ _) h = absurd cc
write_line place value (ask.Put _ _ _) h = absurd cc
write_line place value (ask.Store _ _ _) h = absurd cc
write_line place value (ask.Copy _ _ _ _ _) h = absurd cc
write_line place value (ask.Sync _) h = absurd cc
write_line place value (ask.Barrier _) h = absurd cc
write_line place value (ask.AllStoreSync _) h = absurd cc

sync_line : (r : Request) → unlined r ≡ ask.Sync 0 → (line : ℕ) × (r ≡ ask.Sync line)
sync_line (ask.Sync line) h = (line, refl)
sync_line (ask.Read _ _) h = absurd cc
sync_line (ask.Write _ _ _) h = absurd cc
sync_line (ask.Get _ _) h = absurd cc
sync_line (ask.Put _ _ _) h = absurd cc
sync_line (ask.Store _ _ _) h = absurd cc
sync_line (ask.Copy _ _ _ _ _) h = absurd cc
sync_line (ask.Barrier _) h = absurd cc
sync_line (ask.AllStoreSync _) h = absurd cc

barrier_line : (s : Bool) (r : Request) → unlined r ≡ barrier_of s 0 → (line : ℕ) × (r ≡ barrier_of s line)
barrier_line true (ask.AllStoreSync line) h = (line, refl)
barrier_line false (ask.Barrier line) h = (line, refl)
barrier_line false (ask.AllStoreSync line) h = absurd cc
barrier_line true (ask.Barrier line) h = absurd cc
barrier_line true (ask.Read _ _) h = absurd cc
barrier_line true (ask.Write _ _ _) h = absurd cc
barrier_line true (ask.Get _ _) h = absurd cc
barrier_line true (ask.Put _ _ _) h = absurd cc
barrier_line true (ask.Store _ _ _) h = absurd cc
barrier_line true (ask.Copy _ _ _ _ _) h = absurd cc
barrier_line true (ask.Sync _) h = absurd cc
barrier_line false (ask.Read _ _) h = absurd cc
barrier_line false (ask.Write _ _ _) h = absurd cc
barrier_line false (ask.Get _ _) h = absurd cc
barrier_line false (ask.Put _ _ _) h = absurd cc
barrier_line false (ask.Store _ _ _) h = absurd cc
barrier_line false (ask.Copy _ _ _ _ _) h = absurd cc
barrier_line false (ask.Sync _) h = absurd cc

-- what is read at once is read by a blocking read, and likewise what is written
read_is : (access : Access) (place : Place) → is_done_at_once access ≡ true → part_place (moved_by access) 0 false ≡ Some place → request_in access ≡ ask.Read place 0
read_is (Read pl track) place h i =
    let z : pl.offset + 0 ≡ pl.offset = omega arith in
    let e : further 0 pl ≡ pl = ap (λ u. record pl { offset = u }) z in
    let f : further 0 pl ≡ place = cc in
    if_true (is_blocking track) _ _ h ∙ ap (λ u. ask.Read u 0) (sym e ∙ f)
read_is (Write _ _ _) place h i = absurd cc
read_is (Copy _ _ _ _) place h i = absurd cc

written_is : (access : Access) (place : Place) (v : Value) → is_done_at_once access ≡ true → part_place (moved_by access) 0 true ≡ Some place → (moved_by access).value ≡ Some v → request_in access ≡ ask.Write place v 0
written_is (Write pl value track) place v h i j =
    let z : pl.offset + 0 ≡ pl.offset = omega arith in
    let e : further 0 pl ≡ pl = ap (λ u. record pl { offset = u }) z in
    let f : further 0 pl ≡ place = cc in
    let g : value ≡ v = cc in
    by track h ∙ ap (λ u. ask.Write u value 0) (sym e ∙ f) ∙ ap (λ u. ask.Write place u 0) g
  where
    by : (track : Track) → is_blocking track ≡ true → request_in (Write pl value track) ≡ ask.Write pl value 0
    by Covered h = refl
    by Store h = absurd cc
    by (Counter c) h = on (c == 0) h
      where
        on : (b : Bool) → not b ≡ true → (if b then ask.Put pl value 0 else ask.Write pl value 0) ≡ ask.Write pl value 0
        on true h = absurd cc
        on false h = refl
written_is (Read _ _) place v h i j = absurd cc
written_is (Copy _ _ _ _) place v h i j = absurd cc

at_once_value : (access : Access) (place : Place) → is_done_at_once access ≡ true → part_place (moved_by access) 0 true ≡ Some place → (v : Value) × ((moved_by access).value ≡ Some v)
at_once_value (Write pl value track) place h i = (value, refl)
at_once_value (Read _ _) place h i = absurd cc
at_once_value (Copy _ _ _ _) place h i = absurd cc

module _ (processes : Processes) (whole : List Entry) (known : Known processes whole) (past : List SourceEvent) (t : Took processes whole known past) where
  abbrev pub Met : SourceEvent → Type 0
  Met x = (a : SourceEvent) → It processes whole known a → needs whole a x ≡ true → In a past

  abbrev pub Shown : SourceEvent → Type 0
  Shown x = IsShown (memory_of does processes.start past) (does x)

  next_is : (p k : ℕ) (r : Request) → Next processes whole known past t p k → slice_get (Full processes whole known p).events k ≡ Some r → IsNext processes past p k r
  next_is p k r n e = record { goes_on = n.goes_on; numbered = n.numbered; next = n.next r e }

  -- what an access of its own value writes
  pub written_by : (p k c : ℕ) (once : Bool) (place : Place) (value : Value) (a : IsAccess whole p k once) → In (an_effect p a.n c true place value) (E processes whole known) → written (moved_by a.access) p a.n c (E processes whole known) ≡ Some value
  written_by p k c once place value a i =
      let w = each-in (Writes processes.start whole (E processes whole known)) (E processes whole known) (an_effect p a.n c true place value) (run_writes processes.start whole).1 i refl in
      let x = (access_is processes.start processes.nodes p a.n a.access a.past whole known.wired a.stands).0 in
      let y = (access_is processes.start processes.nodes p a.n w.1 w.0 whole known.wired w.2).0 in
      let e : w.1 ≡ a.access = (let z = sym y ∙ x in cc) in
      subst (λ u. written (moved_by u) p a.n c (E processes whole known) ≡ Some value) e w.3

  value_written : (p k c : ℕ) (once : Bool) (place : Place) (value : Value) (a : IsAccess whole p k once) → In (an_effect p a.n c true place value) (E processes whole known) → (v : Value) → (moved_by a.access).value ≡ Some v → v ≡ value
  value_written p k c once place value a i v h =
      let w = written_by p k c once place value a i in
      let z : or_read (Some v) p a.n c (E processes whole known) ≡ Some value = subst (λ u. or_read u p a.n c (E processes whole known) ≡ Some value) h w in cc

  -- ---- from the source

  pub own_to : (x : SourceEvent) → is_own x ≡ true → Allowed processes past x → Met x × Shown x
  own_to (Do p k false place value) o h = (next_met processes whole known past t p k _ h.is_next, ((λ e. h.shows ∙ sym (holds processes.start place past)), tt))
  own_to (Do p k true place value) o h = (next_met processes whole known past t p k _ h.is_next, ((λ e. absurd cc), tt))
  own_to (Issue p k) o h = (next_met processes whole known past t p k _ h.is_next, tt)
  own_to (Arrive p k s) o h = (next_met processes whole known past t p k _ h.is_next, tt)
  own_to (Sync p k) o h = (met, tt)
    where
      sync : (a : SourceEvent) → It processes whole known a → sync_needs whole a p k ≡ true → In a past
      sync (Effect q j c wrote place value) i s =
          let z = and_parts (q == p) (nat_lt j k && is_on whole is_split p j) s in
          let y = and_parts (nat_lt j k) (is_on whole is_split p j) z.1 in
          let e : q ≡ p = eqb-true q p z.0 in
          let n = h.is_next.goes_on.node_within in
          subst (λ u. In (Effect u j c wrote place value) past) (sym e)
          (parts_in processes whole known asks_split is_split split_kind p past t (start_of processes whole known past t p n) h.all_done j c wrote place value (let l : j < k = ltb-true j k y.0 in omega (arith, l, h.is_next.numbered)) (subst (λ u. It processes whole known (Effect u j c wrote place value)) e i) y.1)
      sync (Do _ _ _ _ _) i s = absurd cc
      sync (Issue _ _) i s = absurd cc
      sync (Sync _ _) i s = absurd cc
      sync (Arrive _ _ _) i s = absurd cc
      sync (Release _) i s = absurd cc
      sync (Over _ _) i s = absurd cc

      met : Met (Sync p k)
      met a i s = ⊎_elim (λ y. next_met processes whole known past t p k _ h.is_next a i y) (λ y. sync a i y) (or_cases (step_needs whole a p k) (sync_needs whole a p k) s)
  own_to (Effect _ _ _ _ _ _) o h = absurd cc
  own_to (Release _) o h = absurd cc
  own_to (Over _ _) o h = absurd cc

  -- ---- to the source

  pub own_from : (x : SourceEvent) → is_own x ≡ true → It processes whole known x → (In x past → ⊥) → Met x → Shown x → Allowed processes past x
  own_from (Do p k false place value) o h out met s =
      let n = met_next processes whole known past t (Do p k false place value) h refl out met in
      let b = behind processes whole known p k true h.0 in
      let r = read_line place b.request (b.is ∙ read_is h.0.access place h.0.kind (has_place processes whole known p k 0 true false place value h.0 h.1)) in
      record { line = r.0; is_next = next_is p k (ask.Read place r.0) n (b.its ∙ ap (λ u. Some u) r.1); shows = s.0 refl ∙ holds processes.start place past }
  own_from (Do p k true place value) o h out met s =
      let n = met_next processes whole known past t (Do p k true place value) h refl out met in
      let b = behind processes whole known p k true h.0 in
      let hp = has_place processes whole known p k 0 true true place value h.0 h.1 in
      let v = at_once_value h.0.access place h.0.kind hp in
      let wv = value_written p k 0 true place value h.0 h.1 v.0 v.1 in
      let r = write_line place value b.request (b.is ∙ written_is h.0.access place value h.0.kind hp (v.1 ∙ ap (λ u. Some u) wv)) in
      record { line = r.0; is_next = next_is p k (ask.Write place value r.0) n (b.its ∙ ap (λ u. Some u) r.1) }
  own_from (Issue p k) o h out met s =
      let n = met_next processes whole known past t (Issue p k) h refl out met in
      let b = behind processes whole known p k false h in
      record { request = b.request; is_next = next_is p k b.request n b.its; issued = sym (issued_unlined b.request) ∙ ap is_issued b.is ∙ (fits h.access b.sane).1 ∙ ap (λ u. not u) h.kind }
  own_from (Sync p k) o h out met s =
      let n = met_next processes whole known past t (Sync p k) h refl out (λ a i z. met a i (or_left _ _ z)) in
      let a = asked_for processes whole known p n.within h.0 (Waited p 0) (ask.Sync 0) h.1 (if_true ((p == p) && (0 == 0)) _ _ (both_self p 0)) in
      let r = sync_line a.0 a.2 in
      record {
        line = r.0;
        is_next = next_is p k (ask.Sync r.0) n (subst (λ u. slice_get (Full processes whole known p).events u ≡ Some a.0) h.2 a.1 ∙ ap (λ u. Some u) r.1);
        all_done = all_done processes whole known asks_split is_split split_kind p past n.within (start_of processes whole known past t p n.within)
            (λ j c wrote place value lt i z. met (Effect p j c wrote place value) i (or_right _ _ (and_from (p == p) (nat_lt j k && is_on whole is_split p j) (eq_self p) (and_from (nat_lt j k) (is_on whole is_split p j) (lt-ltb j k (omega (arith, lt, n.numbered))) z))));
      }
  own_from (Arrive p k st) o h out met s =
      let n = met_next processes whole known past t (Arrive p k st) h refl out met in
      let a = asked_for processes whole known p n.within h.0 (Arrived p st) (barrier_of st 0) h.1 (if_true (p == p) _ _ (eq_self p)) in
      let r = barrier_line st a.0 a.2 in
      record { line = r.0; is_next = next_is p k (barrier_of st r.0) n (subst (λ u. slice_get (Full processes whole known p).events u ≡ Some a.0) h.2 a.1 ∙ ap (λ u. Some u) r.1) }
  own_from (Effect _ _ _ _ _ _) o h out met s = absurd cc
  own_from (Release _) o h out met s = absurd cc
  own_from (Over _ _) o h out met s = absurd cc
