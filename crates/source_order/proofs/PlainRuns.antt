-- Where blocking accesses are over before their node's next step, what must come before what rises in time, and so has no cycle.
use Rattle.std.proofs.Common.{◌≡◌, ℕ, suc, ◌+◌, ◌<◌, ◌≤◌, List, [], ◌∷◌, Some, None, Bool, true, false, ◌==◌, ◌&&◌, refl, sym, ap, ◌∙◌, subst, inl, inr, arith, eqb-true, ltb-true}
use Rattle.std.specs.Prelude.{IsSome, nat_lt}
use Rattle.std.specs.Option.{option_map_or}
use Rattle.std.proofs.lemmas.Bool.{and_parts}
use Rattle.sc_base.specs.declared.value.Place.{Place}
use Rattle.sc_base.specs.declared.value.Value.{Value}
use Rattle.effect_order.specs.Effect.{Effect as CellEffect}
use Rattle.effect_order.specs.Lists.{In}
use Rattle.effect_order.proofs.Members.{each-in}
use Rattle.sc_meaning.specs.declared.request.Request.{Request}
use Rattle.sc_meaning.specs.declared.event.SourceEvent.{SourceEvent}
use Rattle.sc_meaning.specs.declared.event.SourceEvent.TheVariants.{Do, Issue, Effect, Sync, Arrive, Release, End as Over}
use Rattle.sc_meaning.specs.History.{barrier_of}
use Rattle.effect_order.specs.Transfer.{part_place, part_value}
use Rattle.sc_isa.specs.declared.access.Access.{Access}
use Rattle.sc_isa.specs.declared.access.Track.{Track}
use Rattle.sc_isa.specs.declared.journal.Entry.{Entry}
use Rattle.sc_isa.specs.declared.journal.Entry.TheVariants.{Issued, Waited, Arrived, Passed}
use Rattle.fabric.specs.Access.{transfer_of, track_of, is_store, is_counter}
use Rattle.fabric.specs.Effects.{effects}
use Rattle.fabric.specs.Barriers.{arrivals, passes, released, stores_at}
use Rattle.fabric.specs.Wired.{EntryWired, Wired, AllDone}
use Rattle.source_order.proofs.Once.{AtMostOnce, each_part_once}
use Rattle.source_order.specs.Steps.{request_by, requested, track_at, arrivals_among}
use Rattle.sc_meaning.specs.OfAccess.{is_blocking, is_split, request_in}
use Rattle.source_order.specs.Moments.{time, occurred_in}
use Rattle.source_order.specs.Needs.{is_on, step_needs, sync_needs, part_needs, release_needs}
use Rattle.source_order.specs.Law.{IsPlain}
use Rattle.source_order.proofs.Stands.{Stands, wired_at, same_stand}
use Rattle.source_order.proofs.Numbers.{eq_self, if_true, both_self, issued_is, access_is, among_before}
use Rattle.source_order.proofs.Occurs.{some_from, some_is, found}
use Rattle.source_order.proofs.Effected.{Origin, origins, same_effect, ReadFirst, reads_first}
use Rattle.source_order.proofs.Standing.{own_running, level}
use Rattle.source_order.proofs.Times.{ev, Behind, occurs_in_order, grown_past}
use Rattle.source_order.proofs.Character.{IsAccess, an_effect, Is, event_at}
use Rattle.source_order.proofs.Matches.{track_is}
use Rattle.source_order.proofs.NextOnes.{le_is}
use Rattle.source_order.proofs.MetRelease.{stores_exist, exist_stores}
use Rattle.source_order.proofs.Blocks.{plain_at, at_once_blocks, split_waited}
use Rattle.source_order.proofs.Instants.{stands_trans, earlier, requested_more, arrivals_more, T, T_rises, begun_at, first_pass, released_at, over_before, after_issue}

module _ (start : Place → Value) (nodes : ℕ) (whole : List Entry) (w : Wired start nodes whole) (plain : IsPlain start nodes whole) where
  abbrev pub It : SourceEvent → Type 0
  It x = Is start nodes whole x

  abbrev pub E : List CellEffect
  E = effects start whole

  abbrev pub Tm : List Entry → ℕ
  Tm past = T start nodes whole w past

  abbrev pub When : SourceEvent → ℕ
  When x = time start whole x

  -- where an own step stands
  pub record Spot (p k : ℕ) : Type 0 where
    pub past : List Entry
    pub entry : Entry
    pub request : Request
    pub stands : Stands past entry whole
    pub by : request_by p entry ≡ Some request
    pub numbered : requested p past ≡ k

  abbrev pub access_spot : (p k : ℕ) (once : Bool) → IsAccess whole p k once → Spot p k
  access_spot p k once a = record { past = a.past; entry = Issued p a.n a.access; request = request_in a.access; stands = a.stands; by = issued_is p a.n a.access; numbered = a.numbered }

  abbrev pub sync_spot : (p k : ℕ) → It (Sync p k) → Spot p k
  sync_spot p k h = record { past = h.0; entry = Waited p 0; request = _; stands = h.1; by = if_true ((p == p) && (0 == 0)) _ _ (both_self p 0); numbered = h.2 }

  abbrev pub arrive_spot : (p k : ℕ) (s : Bool) → It (Arrive p k s) → Spot p k
  arrive_spot p k s h = record { past = h.0; entry = Arrived p s; request = _; stands = h.1; by = if_true (p == p) (Some (barrier_of s 0)) None (eq_self p); numbered = h.2 }

  -- moments
  pub do_when : (p k : ℕ) (wrote : Bool) (place : Place) (value : Value) (h : It (Do p k wrote place value)) → When (Do p k wrote place value) ≡ occurred_in start whole whole (ev start nodes whole w (an_effect p h.0.n 0 wrote place value))
  do_when p k wrote place value h = ap (occurred_in start whole whole) (sym (event_at start nodes whole w p k 0 wrote place value true h.0 h.1))

  part_when : (p k c : ℕ) (wrote : Bool) (place : Place) (value : Value) (h : It (Effect p k c wrote place value)) → When (Effect p k c wrote place value) ≡ occurred_in start whole whole (ev start nodes whole w (an_effect p h.0.n c wrote place value))
  part_when p k c wrote place value h = ap (occurred_in start whole whole) (sym (event_at start nodes whole w p k c wrote place value false h.0 h.1))

  pub issue_when : (p k : ℕ) (s : Spot p k) → When (Issue p k) ≡ Tm s.past
  issue_when p k s = begun_at start nodes whole w p k (Issue p k) (λ past e. refl) s.past s.entry s.request whole s.stands s.by s.numbered

  pub sync_when : (p k : ℕ) (s : Spot p k) → When (Sync p k) ≡ Tm s.past
  sync_when p k s = begun_at start nodes whole w p k (Sync p k) (λ past e. refl) s.past s.entry s.request whole s.stands s.by s.numbered

  pub arrive_when : (p k : ℕ) (st : Bool) (s : Spot p k) → When (Arrive p k st) ≡ Tm s.past
  arrive_when p k st s = begun_at start nodes whole w p k (Arrive p k st) (λ past e. refl) s.past s.entry s.request whole s.stands s.by s.numbered

  release_when : (r : ℕ) (old : List Entry) (q : ℕ) → Stands old (Passed q) whole → passes q old ≡ r → released old ≤ r → When (Release (suc r)) ≡ Tm old
  release_when r old q s e le = released_at start nodes whole w r old q whole s e le

  -- a part that is over before an entry
  over_in : (on : Track → Bool) (p n c : ℕ) (wrote : Bool) (place : Place) (value : Value) (access : Access) (old past : List Entry) (entry : Entry) → Stands past entry whole → Stands old (Issued p n access) past
      → AllDone start past on p → on (track_of access) ≡ true → In (an_effect p n c wrote place value) E → In (an_effect p n c wrote place value) (effects start past)
  over_in on p n c wrote place value access old past entry s i d t e =
      let o = each-in (Origin whole) E (an_effect p n c wrote place value) (origins start whole) e in
      let x = (access_is start nodes p n access old whole w (stands_trans old (Issued p n access) past entry whole s i)).0 in
      let y = (access_is start nodes p n o.access o.past whole w o.stands).0 in
      let ea : o.access ≡ access = (let z = sym y ∙ x in cc) in
      let hp : part_place (transfer_of access) c wrote ≡ Some place = subst (λ u. part_place (transfer_of u) c wrote ≡ Some place) ea o.has in
      let wp = (wired_at start nodes past entry whole w s).1 in
      let v = some_is (part_value p n c wrote (effects start past)) (d n access (access_is start nodes p n access old past wp i).0 t c wrote (some_from _ place hp)) in
      let f = found p n c wrote (effects start past) v.0 v.1 in
      let same = same_effect E (an_effect p n c wrote place value) f.0 (each_part_once start whole) e (grown_past start past entry whole s f.0 f.1) f.2 in
      subst (λ u. In u (effects start past)) (sym same) f.1

  earlier_step : (p j k : ℕ) (a : Spot p j) (b : Spot p k) → j < k → Stands a.past a.entry b.past
  earlier_step p j k a b lt = earlier (requested p) (requested_more p) a.past a.entry b.past b.entry whole a.stands b.stands (let x = a.numbered in let y = b.numbered in omega arith)

  -- a blocking part is over before its node's next steps
  blocked : (p j k c : ℕ) (once wrote : Bool) (place : Place) (value : Value) (a : IsAccess whole p j once) (b : Spot p k) → j < k → is_blocking (track_of a.access) ≡ true → In (an_effect p a.n c wrote place value) E
      → occurred_in start whole whole (ev start nodes whole w (an_effect p a.n c wrote place value)) < Tm b.past
  blocked p j k c once wrote place value a b lt t e =
      over_before start nodes whole w (an_effect p a.n c wrote place value) b.past b.entry b.stands
      (over_in is_blocking p a.n c wrote place value a.access a.past b.past b.entry b.stands (earlier_step p j k (access_spot p j once a) b lt) (plain_at start nodes b.past b.entry whole plain b.stands p (some_from _ b.request b.by)) t e)

  on_track : (on : Track → Bool) (p k : ℕ) (once : Bool) (a : IsAccess whole p k once) → is_on whole on p k ≡ true → on (track_of a.access) ≡ true
  on_track on p k once a h = sym (ap (λ o. option_map_or on o false) (subst (λ u. track_at p u whole ≡ Some (track_of a.access)) a.numbered (track_is p a.n a.access a.past whole a.stands))) ∙ h

  -- what a step needs is sooner than the step begins
  pub step_sooner : (a : SourceEvent) → It a → (p k : ℕ) (b : Spot p k) → step_needs whole a p k ≡ true → When a < Tm b.past
  step_sooner (Do q j wrote place value) h p k b s =
      let z = and_parts (q == p) (nat_lt j k) s in let e = eqb-true q p z.0 in
      let i = subst (λ u. It (Do u j wrote place value)) e h in
      let r = blocked p j k 0 true wrote place value i.0 b (ltb-true j k z.1) (at_once_blocks i.0.access i.0.kind) i.1 in
      let m = ap (λ u. When (Do u j wrote place value)) e ∙ do_when p j wrote place value i in omega arith
  step_sooner (Effect q j c wrote place value) h p k b s =
      let z = and_parts (q == p) (nat_lt j k && is_on whole is_blocking p j) s in let e = eqb-true q p z.0 in
      let y = and_parts (nat_lt j k) (is_on whole is_blocking p j) z.1 in
      let i = subst (λ u. It (Effect u j c wrote place value)) e h in
      let r = blocked p j k c false wrote place value i.0 b (ltb-true j k y.0) (on_track is_blocking p j false i.0 y.1) i.1 in
      let m = ap (λ u. When (Effect u j c wrote place value)) e ∙ part_when p j c wrote place value i in omega arith
  step_sooner (Issue q j) h p k b s =
      let z = and_parts (q == p) (nat_lt j k) s in let e = eqb-true q p z.0 in
      let a = access_spot p j false (subst (λ u. It (Issue u j)) e h) in
      let r = T_rises start nodes whole w a.past a.entry b.past (earlier_step p j k a b (ltb-true j k z.1)) in
      let m = ap (λ u. When (Issue u j)) e ∙ issue_when p j a in omega arith
  step_sooner (Sync q j) h p k b s =
      let z = and_parts (q == p) (nat_lt j k) s in let e = eqb-true q p z.0 in
      let a = sync_spot p j (subst (λ u. It (Sync u j)) e h) in
      let r = T_rises start nodes whole w a.past a.entry b.past (earlier_step p j k a b (ltb-true j k z.1)) in
      let m = ap (λ u. When (Sync u j)) e ∙ sync_when p j a in omega arith
  step_sooner (Arrive q j st) h p k b s =
      let z = and_parts (q == p) (nat_lt j k) s in let e = eqb-true q p z.0 in
      let a = arrive_spot p j st (subst (λ u. It (Arrive u j st)) e h) in
      let r = T_rises start nodes whole w a.past a.entry b.past (earlier_step p j k a b (ltb-true j k z.1)) in
      let m = ap (λ u. When (Arrive u j st)) e ∙ arrive_when p j st a in omega arith
  step_sooner (Release m) h p k b s =
      let v = wired_at start nodes b.past b.entry whole w b.stands in
      let ru = own_running start nodes p b.entry b.past v.0 b.request b.by in
      let lv = (level start nodes p b.past v.1).below in
      let am = among_before p b.past b.entry whole b.request b.stands b.by in
      let am2 = ap (λ u. arrivals_among p u whole) b.numbered in
      let le : m ≤ arrivals_among p k whole = le_is m (arrivals_among p k whole) s in
      let eq = ru.1 in let hr = h.1 in
      let f = first_pass start nodes whole w h.0 b.past v.1 (omega arith) in
      let r = T_rises start nodes whole w f.0 (Passed f.1) b.past f.2 in
      let t = ap When (ap (λ u. Release u) h.1) ∙ release_when h.0 f.0 f.1 (stands_trans f.0 (Passed f.1) b.past b.entry whole b.stands f.2) f.3 f.4 in omega arith
  step_sooner (Over q end) h p k b s = absurd cc

  pub sync_sooner : (a : SourceEvent) → It a → (p k : ℕ) (b : It (Sync p k)) → sync_needs whole a p k ≡ true → When a < Tm b.0
  sync_sooner (Effect q j c wrote place value) h p k b s =
      let z = and_parts (q == p) (nat_lt j k && is_on whole is_split p j) s in let e = eqb-true q p z.0 in
      let y = and_parts (nat_lt j k) (is_on whole is_split p j) z.1 in
      let i = subst (λ u. It (Effect u j c wrote place value)) e h in
      let v = (wired_at start nodes b.0 (Waited p 0) whole w b.1).0 in
      let st = earlier_step p j k (access_spot p j false i.0) (sync_spot p k b) (ltb-true j k y.0) in
      let o = over_in (is_counter 0) p i.0.n c wrote place value i.0.access i.0.past b.0 (Waited p 0) b.1 st v.all_done (split_waited (track_of i.0.access) (on_track is_split p j false i.0 y.1)) i.1 in
      let r = over_before start nodes whole w (an_effect p i.0.n c wrote place value) b.0 (Waited p 0) b.1 o in
      let m = ap (λ u. When (Effect u j c wrote place value)) e ∙ part_when p j c wrote place value i in omega arith
  sync_sooner (Do _ _ _ _ _) h p k b s = absurd cc
  sync_sooner (Issue _ _) h p k b s = absurd cc
  sync_sooner (Sync _ _) h p k b s = absurd cc
  sync_sooner (Arrive _ _ _) h p k b s = absurd cc
  sync_sooner (Release _) h p k b s = absurd cc
  sync_sooner (Over _ _) h p k b s = absurd cc

  one_number : (p k : ℕ) (a b : IsAccess whole p k false) → a.n ≡ b.n
  one_number p k a b =
      let s = same_stand p a.past b.past (Issued p a.n a.access) (Issued p b.n b.access) (request_in a.access) (request_in b.access) whole a.stands b.stands (issued_is p a.n a.access) (issued_is p b.n b.access) (a.numbered ∙ sym b.numbered) in
      let g = s.1 in cc

  behind_read : (p n c : ℕ) (pl place : Place) (vl value : Value) → In (an_effect p n c false pl vl) E → In (an_effect p n c true place value) E → (es : List CellEffect) → ReadFirst start whole es → AtMostOnce es → ((f : CellEffect) → In f es → In f E)
      → In (an_effect p n c true place value) es → Behind (an_effect p n c false pl vl) (an_effect p n c true place value) es
  behind_read p n c pl place vl value ra rb [] rf once sub i = absurd i
  behind_read p n c pl place vl value ra rb (x ∷ es) rf once sub (inr i) = inr (behind_read p n c pl place vl value ra rb es rf.1 once.1 (λ f j. sub f (inr j)) i)
  behind_read p n c pl place vl value ra rb (x ∷ es) rf once sub (inl q) =
      let r = (subst (λ (x : CellEffect). x.wrote ≡ true → (past : List Entry) × (access : Access) × Stands past (Issued x.node x.number access) whole × (IsSome (part_place (transfer_of access) x.cell false) → IsSome (part_value x.node x.number x.cell false es))) (sym q) rf.0) refl in
      let o = each-in (Origin whole) E (an_effect p n c false pl vl) (origins start whole) ra in
      let x1 = (access_is start nodes p n o.access o.past whole w o.stands).0 in
      let x2 = (access_is start nodes p n r.1 r.0 whole w r.2).0 in
      let ea : o.access ≡ r.1 = (let z = sym x1 ∙ x2 in cc) in
      let v = some_is (part_value p n c false es) (r.3 (some_from _ pl (subst (λ u. part_place (transfer_of u) c false ≡ Some pl) ea o.has))) in
      let f = found p n c false es v.0 v.1 in
      let same = same_effect E (an_effect p n c false pl vl) f.0 (each_part_once start whole) ra (sub f.0 (inr f.1)) f.2 in
      inl (q, subst (λ u. In u es) (sym same) f.1)

  -- what a part needs is sooner
  pub part_sooner : (a : SourceEvent) → It a → (p k c : ℕ) (wrote : Bool) (place : Place) (value : Value) (b : It (Effect p k c wrote place value)) → part_needs whole a p k c wrote ≡ true → When a < When (Effect p k c wrote place value)
  part_sooner (Issue q j) h p k c wrote place value b s =
      let z = and_parts (q == p) (j == k) s in let e = eqb-true q p z.0 in let f = eqb-true j k z.1 in
      let sp = access_spot p k false b.0 in
      let r = after_issue start nodes whole w (an_effect p b.0.n c wrote place value) b.0.past b.0.access b.0.stands b.1 in
      let m = ap (λ u. When (Issue u j)) e ∙ ap (λ u. When (Issue p u)) f ∙ issue_when p k sp in
      let n = part_when p k c wrote place value b in omega arith
  part_sooner (Effect q j d v pl vl) h p k c wrote place value b s = by v wrote refl refl s
    where
      by : (x y : Bool) → v ≡ x → wrote ≡ y → part_needs whole (Effect q j d x pl vl) p k c y ≡ true → When (Effect q j d v pl vl) < When (Effect p k c wrote place value)
      by false true ev_is ew s =
          let z = and_parts (q == p) ((j == k) && (d == c)) s in
          let y = and_parts (j == k) (d == c) z.1 in
          let e = eqb-true q p z.0 in let f = eqb-true j k y.0 in let g = eqb-true d c y.1 in
          let same_event : Effect q j d v pl vl ≡ Effect p k c false pl vl = ap (λ u. Effect u j d v pl vl) e ∙ ap (λ u. Effect p u d v pl vl) f ∙ ap (λ u. Effect p k u v pl vl) g ∙ ap (λ u. Effect p k c u pl vl) ev_is in
          let i = subst It same_event h in
          let same_b : Effect p k c wrote place value ≡ Effect p k c true place value = ap (λ u. Effect p k c u place value) ew in
          let i2 = subst It same_b b in
          let n : i.0.n ≡ i2.0.n = one_number p k i.0 i2.0 in
          let bh = behind_read p i2.0.n c pl place vl value (subst (λ u. In (an_effect p u c false pl vl) E) n i.1) i2.1 E (reads_first start whole) (each_part_once start whole) (λ f j. j) i2.1 in
          let r = occurs_in_order start nodes whole w (an_effect p i2.0.n c false pl vl) (an_effect p i2.0.n c true place value) whole (λ f j. j) bh in
          let ma = ap When same_event ∙ part_when p k c false pl vl i ∙ ap (λ u. occurred_in start whole whole (ev start nodes whole w (an_effect p u c false pl vl))) n in
          let mb = ap When same_b ∙ part_when p k c true place value i2 in omega arith
      by false false ev_is ew s = absurd cc
      by true true ev_is ew s = absurd cc
      by true false ev_is ew s = absurd cc
  part_sooner (Do _ _ _ _ _) h p k c wrote place value b s = absurd cc
  part_sooner (Sync _ _) h p k c wrote place value b s = absurd cc
  part_sooner (Arrive _ _ _) h p k c wrote place value b s = absurd cc
  part_sooner (Release _) h p k c wrote place value b s = absurd cc
  part_sooner (Over _ _) h p k c wrote place value b s = absurd cc

  arrival_count : (p k : ℕ) (b : Spot p k) → arrivals_among p k whole ≡ arrivals p b.past
  arrival_count p k b = subst (λ u. arrivals_among p u whole ≡ arrivals p b.past) b.numbered (among_before p b.past b.entry whole b.request b.stands b.by)

  spot_within : (p k : ℕ) → Spot p k → p < nodes
  spot_within p k b = (own_running start nodes p b.entry b.past (wired_at start nodes b.past b.entry whole w b.stands).0 b.request b.by).2

  -- what a release needs is sooner
  pub release_sooner : (a : SourceEvent) → It a → (r : ℕ) → r < released whole → release_needs whole a (suc r) ≡ true → When a < When (Release (suc r))
  release_sooner a h r lt s = by a h s
    where
      f : (old : List Entry) × (q : ℕ) × Stands old (Passed q) whole × (passes q old ≡ r) × (released old ≤ r)
      f = first_pass start nodes whole w r whole w lt

      here : When (Release (suc r)) ≡ Tm f.0
      here = release_when r f.0 f.1 f.2 f.3 f.4

      v : EntryWired start nodes f.0 (Passed f.1) × Wired start nodes f.0
      v = wired_at start nodes f.0 (Passed f.1) whole w f.2

      arrived_all : (p : ℕ) → p < nodes → suc r ≤ arrivals p f.0
      arrived_all p n = let a = v.0.all_arrived p n in let e = f.3 in omega arith

      before_it : (p : ℕ) (old : List Entry) (e : Entry) → p < nodes → Stands old e whole → arrivals p old < suc r → Stands old e f.0
      before_it p old e n st l = earlier (arrivals p) (arrivals_more p) old e f.0 (Passed f.1) whole st f.2 (let a = arrived_all p n in omega arith)

      by : (a : SourceEvent) → It a → release_needs whole a (suc r) ≡ true → When a < When (Release (suc r))
      by (Release m) h s =
          let e = eqb-true (suc m) (suc r) s in
          let hm = h.1 in let lv = (level start nodes f.1 f.0 v.1).below in let fp = f.3 in
          let g = first_pass start nodes whole w h.0 f.0 v.1 (omega arith) in
          let t = T_rises start nodes whole w g.0 (Passed g.1) f.0 g.2 in
          let m1 = ap When (ap (λ u. Release u) h.1) ∙ release_when h.0 g.0 g.1 (stands_trans g.0 (Passed g.1) f.0 (Passed f.1) whole f.2 g.2) g.3 g.4 in
          let hr = here in omega arith
      by (Arrive p j st) h s =
          let e = eqb-true (suc (arrivals_among p j whole)) (suc r) s in
          let sp = arrive_spot p j st h in
          let c = arrival_count p j sp in
          let t = T_rises start nodes whole w h.0 (Arrived p st) f.0 (before_it p h.0 (Arrived p st) (spot_within p j sp) h.1 (omega arith)) in
          let m = arrive_when p j st sp in let hr = here in omega arith
      by (Effect p j c wrote place value) h s =
          let z = and_parts (is_on whole is_store p j) (stores_at (suc r) whole && nat_lt (arrivals_among p j whole) (suc r)) s in
          let y = and_parts (stores_at (suc r) whole) (nat_lt (arrivals_among p j whole) (suc r)) z.1 in
          let sp = access_spot p j false h.0 in
          let l : arrivals_among p j whole < suc r = ltb-true _ _ y.1 in
          let cnt = arrival_count p j sp in
          let st = before_it p h.0.past (Issued p h.0.n h.0.access) (spot_within p j sp) h.0.stands (omega arith) in
          let x = stores_exist (suc r) whole y.0 in
          let xn = spot_within x.0 (requested x.0 x.1) (arrive_spot x.0 (requested x.0 x.1) true (x.1, x.2, refl)) in
          let xe = x.3 in
          let xs = before_it x.0 x.1 (Arrived x.0 true) xn x.2 (omega arith) in
          let at = exist_stores (suc r) x.0 x.1 f.0 xs x.3 in
          let fp = f.3 in let rl = f.4 in
          let d = v.0.stores_done (omega arith) (subst (λ u. stores_at u f.0 ≡ true) (let k : suc r ≡ passes f.1 f.0 + 1 = omega arith in k) at) p (spot_within p j sp) in
          let o = over_in is_store p h.0.n c wrote place value h.0.access h.0.past f.0 (Passed f.1) f.2 st d (on_track is_store p j false h.0 z.0) h.1 in
          let t = over_before start nodes whole w (an_effect p h.0.n c wrote place value) f.0 (Passed f.1) f.2 o in
          let m = part_when p j c wrote place value h in let hr = here in omega arith
      by (Do _ _ _ _ _) h s = absurd cc
      by (Issue _ _) h s = absurd cc
      by (Sync _ _) h s = absurd cc
      by (Over _ _) h s = absurd cc
