-- What an effect must precede it comes before by a walk of what must come before what: through an arrival and a release.
use Rattle.std.proofs.Common.{◌≡◌, ◌⊎◌, suc, ◌<◌, [], ◌∷◌, ◌++◌, refl, ◌∙◌, subst, inl, inr, ⊎_elim, arith, true, false}
use Rattle.std.proofs.lemmas.Bool.{cases_lt, both_ways, false_from_ne_true}
use Rattle.effect_order.specs.Levels.{count}
use Rattle.effect_order.specs.Order.{Before}
use Rattle.effect_order.specs.Order.Edge.{ByBlocking, ByDone, ByWithin, ByRelease, ByConflict}
use Rattle.effect_order.specs.Run.{Run, IsStore, story}
use Rattle.effect_order.specs.RunFacts.{Timed, Analysed}
use Rattle.effect_order.specs.Plan.{Code, CodeFacts, Placed, ArrivesFor, AwaitsStores}
use Rattle.effect_order.specs.MustPrecede.{OverBefore, PrecedesRelease, LiesBefore, EffectEdge, EffectBefore, EffectsHaveNoCycle}
use Rattle.effect_order.specs.MustPrecede.EffectEdge.{Precedes, Copied, Conflicts}
use Rattle.effect_order.proofs.Levels.{count_grows}
use Rattle.effect_order.proofs.Counts as Counts
use Rattle.effect_order.proofs.Walks.{Steps, walk-append, no_cycle-steps}
use Rattle.effect_order.proofs.Moments.{blocking_of, effect_kind}
use Rattle.effect_order.proofs.Supplied.{acyclic_code}

module _ {E S : Type 0} (r : Run E S) (c : Code r) (q : Timed r) (k : CodeFacts r c) where
  -- an arrival is before the release of its barrier
  arrival_sooner : (a m : E) → r.Member m → r.is_release m ≡ true → ArrivesFor r c a m → r.issue a < r.time m
  arrival_sooner a m mm km h =
      let t = k.counted.release_after (r.node a) (r.time m) (k.counted.node_within a h.0) (q.release_moment m mm km) in
      ⊎_elim
      (λ x. x)
      (λ x. absurd (omega (arith, h.2, count_grows (c.arrives (r.node a)) (r.time m) (r.issue a) x)))
      (cases_lt (r.issue a) (r.time m))

  -- the own steps of a node that follow its arrival are after the release
  release_sooner : (m f : E) → r.Member m → r.is_release m ≡ true → Placed r c f → LiesBefore r c m f → r.time m < r.time f
  release_sooner m f mm km pf h =
      let a = h.0 in
      let n = h.2.0 in
      let before = q.in_order a f (h.1.0.0, h.1.0.1) (pf.0, pf.1) n h.2.1 in
      let here = subst (λ p. c.arrives p (r.issue a) ≡ true) n (k.counted.arrival_moment a h.1.0 h.1.1) in
      let number = subst (λ p. count (c.arrives p) (r.issue a) ≡ count r.releases (r.time m)) n h.1.2 in
      let goes_on = k.counted.issue_after (r.node f) (r.issue f) (k.counted.placed_issues f pf) in
      ⊎_elim
      (λ x. omega (arith, q.issued f pf.0))
      (λ x. absurd (omega (arith, Counts.more (c.arrives (r.node f)) (r.issue a) here, count_grows (c.arrives (r.node f)) (suc (r.issue a)) (r.issue f) before, Counts.passed r c q k.walked k.counted (r.node f) (r.issue f), count_grows r.releases (r.issue f) (r.time m) x)))
      (cases_lt (r.time m) (r.issue f))

  -- an arrival is no effect
  arrival_quiet : (a : E) → Placed r c a → c.is_arrival a ≡ true → r.is_effect a ≡ false
  arrival_quiet a p h = false_from_ne_true _ (λ e. both_ways _ (k.walked.effect_no_barrier a p e) (k.walked.arrival_barrier a p h))

  to_release : (a m : E) → r.Member m → r.is_release m ≡ true → ArrivesFor r c a m → Before (story r) a m
  to_release a m mm km h =
      let t = arrival_sooner a m mm km h in
      (h.0.0, mm, ByRelease (inr km, omega (arith, q.at_once a h.0.0 (arrival_quiet a h.0 h.1))))

  over : (e f : E) → r.Member e → r.Member f → r.is_release f ≡ false → OverBefore r e f → Before (story r) e f
  over e f me mf own (inl h) = (me, mf, ByBlocking (blocking_of _ _ h.0.0 ∙ h.0.1, h.1.0, h.1.1))
  over e f me mf own (inr h) = (
    me,
    mf,
    ByDone (inr (record {
      effect = h.1.2.0;
      splits = h.1.2.1;
      sync = h.0;
      member = h.1.0;
      is_sync = h.1.1;
      node = h.1.3.0;
      step = h.1.3.1;
      node_to = h.2.0;
      step_to = omega (arith, h.2.1);
      no_release_to = own;
    })),
  )

  -- what precedes a release
  before_release : (e m : E) → Placed r c e → r.Member m → r.is_release m ≡ true → PrecedesRelease r c e m → Steps (Before (story r)) e m
  before_release e m pe mm km p = by p.over
    where
      by : OverBefore r e p.arrival ⊎ (IsStore r e × AwaitsStores r c m) → Steps (Before (story r)) e m
      by (inl h) = (p.arrival, m ∷ [], (over e p.arrival pe.0 p.arrives.0.0 p.arrives.0.1 h, (to_release p.arrival m mm km p.arrives, refl)))
      by (inr h) =
          let s = q.in_order e p.arrival (pe.0, pe.1) (p.arrives.0.0, p.arrives.0.1) p.after.0 p.after.1 in
          let t = arrival_sooner p.arrival m mm km p.arrives in
          (m, [], ((pe.0, mm, ByRelease (inr km, k.counted.stored m e mm km h.1 pe h.0 (omega arith))), refl))

  effect_placed : (e : E) → r.Member e → r.is_effect e ≡ true → Placed r c e
  effect_placed e m h = (m, effect_kind r q e m h, k.walked.effect_placed e m h)

  one : {e f : E} → Before (story r) e f → Steps (Before (story r)) e f
  one {e} {f} b = (f, [], (b, refl))

  steps : (e f : E) → EffectBefore r c e f → Steps (Before (story r)) e f
  steps e f b = by b.4
    where
      own : r.is_release f ≡ false
      own = effect_kind r q f b.1 b.3

      by : EffectEdge r c e f → Steps (Before (story r)) e f
      by (Precedes (inl h)) = one (over e f b.0 b.1 own h)
      by (Precedes (inr h)) =
          let w = before_release e h.0 (effect_placed e b.0 b.2) h.1 h.2 h.3 in
          let t = release_sooner h.0 f h.1 h.2 (effect_placed f b.1 b.3) h.4 in
          (w.0, w.1 ++ f ∷ [], walk-append (Before (story r)) (w.0 ∷ w.1) (f ∷ []) e h.0 f w.2 ((h.1, b.1, ByRelease (inl h.2, t)), refl))
      by (Copied h) = one (b.0, b.1, ByWithin (b.3, effect_kind r q e b.0 b.2, h.0, h.1, q.copied e f b.0 b.1 h))
      by (Conflicts h t) = one (b.0, b.1, ByConflict h t)

  pub effects_have_none : Analysed r → EffectsHaveNoCycle r c
  effects_have_none a = no_cycle-steps (EffectBefore r c) (Before (story r)) steps (acyclic_code r c q k a)
