-- The code of the smallest run with a barrier: its walks, its waits and the passing of its barrier.
use Rattle.std.proofs.Common.{◌≡◌, ℕ, suc, ◌+◌, ◌<◌, ◌≤◌, List, [], ◌∷◌, leb, ltb, eqb-true, eq-eqb, ltb-true, lt-ltb, refl, sym, ap, ◌∙◌, subst, inl, inr, arith, Bool, true, false, not, ◌==◌, ◌&&◌, ◌||◌}
use Rattle.std.proofs.lemmas.Bool.{both_ways, and_parts, or_parts, not-true, not_from_false, leb-true, le-leb}
use Rattle.effect_order.specs.Levels.{count}
use Rattle.effect_order.specs.Lists.{In}
use Rattle.effect_order.specs.Flow.{PathBy}
use Rattle.effect_order.specs.Plan.{GoesOneWay, Placed, Walked, Waited, Counted, CodeFacts}
use Rattle.effect_order.specs.Meeting.{Row, rows, has_effect, line, meeting, line_code, is_placed, arrives}
use Rattle.effect_order.specs.Needed.{row_at}
use Rattle.effect_order.proofs.Tables.{each_row, each_two, every_below, below, implies, holds, in_at, some_from, some_of}
use Rattle.effect_order.proofs.Meeting.{both, earlier, together, is_earlier, is_together, is_sync, sync_is}

abbrev further_test : Row → Row → Bool
further_test e f = implies (earlier e f && (is_placed e && is_placed f)) (ltb e.point f.point)

abbrev same_test : Row → Row → Bool
same_test e f = implies (together e f && (is_placed e && is_placed f)) (e.point == f.point)

abbrev placed_test : Row → Bool
placed_test e = implies (has_effect e.does || is_sync e) (is_placed e)

abbrev barrier_test : Row → Bool
barrier_test e = implies (has_effect e.does) (not (e.point == 5))

abbrev arrival : Bool → Row
arrival true = row_at rows 10
arrival false = row_at rows 11

abbrev arrival_of : Row → Row
arrival_of e = arrival (e.node == 0)

abbrev arrived_test : Row → Bool
arrived_test e =
    implies (is_placed e && ltb 5 e.point) (((arrival_of e).node == e.node) && ltb (arrival_of e).step e.step)

arrival_placed : (b : Bool) → Placed meeting line_code (arrival b) × (arrives (arrival b) ≡ true) × ((arrival b).point ≡ 5)
arrival_placed true = ((in_at rows 10 (omega arith), refl, refl), refl, refl)
arrival_placed false = ((in_at rows 11 (omega arith), refl, refl), refl, refl)

walked : Walked meeting line_code
walked = record {
  on_way = λ e p. refl;
  goes = λ e i p t. refl;
  further = λ e f p q n t. ltb-true _ _ (holds _ _ (each_two further_test refl e f p.0 q.0) (both _ _ (is_earlier e f n t) (both _ _ p.2 q.2)));
  same_at = λ e f p q n t. eqb-true _ _ (holds _ _ (each_two same_test refl e f p.0 q.0) (both _ _ (is_together e f n t) (both _ _ p.2 q.2)));
  effect_placed = λ e i h. holds _ _ (each_row placed_test refl e i) (either_left (has_effect e.does) (is_sync e) h);
  sync_placed = λ s i h. holds _ _ (each_row placed_test refl s i) (either_right (has_effect s.does) (is_sync s) (sync_is s h));
  arrives_at = arrived;
  arrival_barrier = λ a p h. (and_parts (is_placed a) (a.point == 5) h).1;
  effect_no_barrier = λ e p h. not-true _ (holds _ _ (each_row barrier_test refl e p.0) h);
}
  where
    either_left : (a b : Bool) → a ≡ true → (a || b) ≡ true
    either_left true b h = refl
    either_left false b h = absurd (cc)

    either_right : (a b : Bool) → b ≡ true → (a || b) ≡ true
    either_right true b h = refl
    either_right false b h = h

    arrived : (e : Row) (i : ℕ) → Placed meeting line_code e → i < e.point → (i == 5) ≡ true →
        (a : Row) × Placed meeting line_code a × (arrives a ≡ true) × (a.node ≡ e.node) × (a.step < e.step) × (a.point ≡ i)
    arrived e i p t h =
        let at = eqb-true i 5 h in
        let a = arrival_placed (e.node == 0) in
        let l : 5 < e.point = omega arith in
        let q = and_parts _ _ (holds _ _ (each_row arrived_test refl e p.0) (both _ _ p.2 (lt-ltb _ _ l))) in
        (arrival_of e, a.0, a.1, eqb-true _ _ q.0, ltb-true _ _ q.1, a.2 ∙ sym at)

abbrev enter_test : Row → Bool
enter_test e =
    leb e.point 7 && every_below 8 (λ i. implies (is_placed e && leb i e.point) (leb (line_code.enters e.node i) e.issue))

abbrev wait_test : Row → Row → Bool
wait_test e f =
    implies (has_effect e.does && (line.is_blocking e.point && ((e.node == f.node) && not (e.point == 4))))
    (every_below 8 (λ i. implies (ltb e.point i && leb i f.point) (ltb e.time (line_code.enters f.node i))))

abbrev covered_test : Row → Row → Bool
covered_test m e = implies (m.is_release && (has_effect e.does && ((e.point == 4) && ltb e.issue m.time))) (ltb e.time m.time)

waited : Waited meeting line_code
waited = record {
  demand_barrier = λ a t b h. inl h;
  demand_delay = λ a b d. inr d;
  enters_first = enters;
  one_way = one_way;
  waits = λ e f i p q a b n t u h w. waits e f i p.0 q.0 a b n t u w;
  covered = λ m e i h p a w t. ltb-true _ _ (holds _ _ (each_two covered_test refl m e i p.0) (both _ _ h (both _ _ a (both _ _ w (lt-ltb _ _ t)))));
}
  where
    within : (e : Row) → In e rows → e.point ≤ 7
    within e i = leb-true _ _ (and_parts _ _ (each_row enter_test refl e i)).0

    enters : (e : Row) (i : ℕ) → Placed meeting line_code e → i ≤ e.point → line_code.enters e.node i ≤ e.issue
    enters e i p t =
        let l = within e p.0 in
        let h = below 8 (λ i. implies (is_placed e && leb i e.point) (leb (line_code.enters e.node i) e.issue)) (and_parts (leb e.point 7) (every_below 8 (λ i. implies (is_placed e && leb i e.point) (leb (line_code.enters e.node i) e.issue))) (each_row enter_test refl e p.0)).1 i (omega arith) in
        leb-true _ _ (holds _ _ h (both _ _ p.2 (le-leb _ _ t)))

    waits : (e f : Row) (i : ℕ) → In e rows → In f rows → has_effect e.does ≡ true → line.is_blocking e.point ≡ true → e.node ≡ f.node → e.point < i → i ≤ f.point → (e.point == 4) ≡ false → e.time < line_code.enters f.node i
    waits e f i p q a b n t u w =
        let l = within f q in
        let h = holds _ _ (each_two wait_test refl e f p q) (both _ _ a (both _ _ b (both _ _ (eq-eqb _ _ n) (not_from_false _ w)))) in
        let g = below 8 (λ i. implies (ltb e.point i && leb i f.point) (ltb e.time (line_code.enters f.node i))) h i (omega arith) in
        ltb-true _ _ (holds _ _ g (both _ _ (lt-ltb _ _ t) (le-leb _ _ u)))

    -- the barrier is the only first demand of the write
    first : (a t : ℕ) → a ≡ 4 → (zs : List ℕ) → PathBy line.Goes (λ z. line_code.Demand a z → ⊥) a zs t → (t == 5) ≡ true
    first a t e [] p = eq-eqb t 5 (p ∙ ap suc e)
    first a t e (z ∷ zs) p = absurd (p.1 (inl (eq-eqb z 5 (p.0 ∙ ap suc e))))

    one_way : (a : ℕ) → (a == 4) ≡ true → GoesOneWay line_code a
    one_way a h = (h, λ t f. first a t (eqb-true a 4 h) f.1.0 f.1.1)

abbrev pass_test : ℕ → Bool
pass_test p =
    ltb (count (line_code.passes p) (18 + p)) (count meeting.releases (suc (18 + p))) &&
    ltb (count meeting.releases 18) (count (line_code.arrives p) 18)

abbrev issue_test : Row → Bool
issue_test e = implies (is_placed e) (ltb e.node 2 && (count (line_code.passes e.node) e.issue == count (line_code.arrives e.node) e.issue))

abbrev stored_test : Row → Row → Bool
stored_test m e =
    implies (m.is_release && (has_effect e.does && (not (line.is_blocking e.point) && (not (line.is_split e.point) && ltb e.issue m.time))))
    (ltb e.time m.time)

abbrev apart_test : Row → Row → Bool
apart_test m e = implies (m.is_release && is_placed e) (not (m.time == e.time) && not (m.time == e.issue))

counted : Counted meeting line_code
counted = record {
  pass_after = passed;
  release_after = λ p t l h. subst (λ u. count meeting.releases u < count (line_code.arrives p) u) (sym (eqb-true t 18 h)) (ltb-true _ _ (and_parts _ _ (below 2 pass_test refl p l)).1);
  issue_after = issued;
  node_within = λ e p. ltb-true _ _ (and_parts _ _ (holds _ _ (each_row issue_test refl e p.0) p.2)).0;
  placed_issues = λ e p. some_from (λ x. is_placed x && ((x.node == e.node) && (x.issue == e.issue))) rows e p.0 (both _ _ p.2 (here e));
  arrival_moment = λ a p h. some_from (λ x. arrives x && ((x.node == a.node) && (x.issue == a.issue))) rows a p.0 (both _ _ h (here a));
  moment_arrival = arrived;
  stored = λ m e i h a p b t. ltb-true _ _ (holds _ _ (each_two stored_test refl m e i p.0) (both _ _ h (both _ _ b.0 (both _ _ (not_from_false _ b.1) (both _ _ (not_from_false _ b.2) (lt-ltb _ _ t))))));
  alone = alone;
}
  where
    here : (e : Row) → ((e.node == e.node) && (e.issue == e.issue)) ≡ true
    here e = both _ _ (eq-eqb e.node e.node refl) (eq-eqb e.issue e.issue refl)

    passed : (p t : ℕ) → line_code.passes p t ≡ true → count (line_code.passes p) t < count meeting.releases (suc t)
    passed p t h =
        let q = and_parts (ltb p 2) (t == 18 + p) h in
        subst (λ u. count (line_code.passes p) u < count meeting.releases (suc u)) (sym (eqb-true t (18 + p) q.1)) (ltb-true _ _ (and_parts _ _ (below 2 pass_test refl p (ltb-true p 2 q.0))).0)

    issued : (p t : ℕ) → line_code.issues p t ≡ true → count (line_code.passes p) t ≡ count (line_code.arrives p) t
    issued p t h =
        let s = some_of (λ x. is_placed x && ((x.node == p) && (x.issue == t))) rows h in
        let q = and_parts (is_placed s.0) ((s.0.node == p) && (s.0.issue == t)) s.2 in
        let m = and_parts (s.0.node == p) (s.0.issue == t) q.1 in
        let w = and_parts (ltb s.0.node 2) (count (line_code.passes s.0.node) s.0.issue == count (line_code.arrives s.0.node) s.0.issue) (holds (is_placed s.0) (ltb s.0.node 2 && (count (line_code.passes s.0.node) s.0.issue == count (line_code.arrives s.0.node) s.0.issue)) (each_row issue_test refl s.0 s.1) q.0) in
        let g = eqb-true (count (line_code.passes s.0.node) s.0.issue) (count (line_code.arrives s.0.node) s.0.issue) w.1 in
        subst (λ u. count (line_code.passes u) t ≡ count (line_code.arrives u) t) (eqb-true s.0.node p m.0) (subst (λ u. count (line_code.passes s.0.node) u ≡ count (line_code.arrives s.0.node) u) (eqb-true s.0.issue t m.1) g)

    is_own : (a : Row) → is_placed a ≡ true → a.is_release ≡ false
    is_own a h = (or_parts a.is_release a.is_end (not-true (a.is_release || a.is_end) h)).0

    arrived : (p t : ℕ) → line_code.arrives p t ≡ true → (a : Row) × Placed meeting line_code a × (arrives a ≡ true) × (a.node ≡ p) × (a.issue ≡ t)
    arrived p t h =
        let s = some_of (λ x. arrives x && ((x.node == p) && (x.issue == t))) rows h in
        let q = and_parts (arrives s.0) ((s.0.node == p) && (s.0.issue == t)) s.2 in
        let m = and_parts (s.0.node == p) (s.0.issue == t) q.1 in
        let b = (and_parts (is_placed s.0) (s.0.point == 5) q.0).0 in
        (s.0, (s.1, is_own s.0 b, b), q.0, eqb-true s.0.node p m.0, eqb-true s.0.issue t m.1)

    alone : (m e : Row) → In m rows → m.is_release ≡ true → Placed meeting line_code e → ((m.time ≡ e.time) → ⊥) × ((m.time ≡ e.issue) → ⊥)
    alone m e i h p =
        let q = and_parts _ _ (holds _ _ (each_two apart_test refl m e i p.0) (both _ _ h p.2)) in
        (λ t. both_ways (m.time == e.time) (not-true _ q.0) (eq-eqb _ _ t), λ t. both_ways (m.time == e.issue) (not-true _ q.1) (eq-eqb _ _ t))

pub code : CodeFacts meeting line_code
code = record { walked = walked; waited = waited; counted = counted }
