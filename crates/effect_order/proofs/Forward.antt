-- Where each blocking access is over before its node's next own step, what must come before an item was sooner.
use Rattle.std.proofs.Common.{◌≡◌, ◌⊎◌, ◌<◌, List, [], ◌∷◌, sym, ap, subst, inl, inr, ⊎_elim, arith, Bool, true, false}
use Rattle.std.proofs.lemmas.Bool.{both_ways, cases_Bool}
use Rattle.effect_order.specs.Walk.{Walk}
use Rattle.effect_order.specs.Order.{Edge, Before, Acyclic}
use Rattle.effect_order.specs.Order.Edge.{ByBlocking, ByDone, ByWithin, ByRelease, ByConflict}
use Rattle.effect_order.specs.Run.{Run, OwnStep, Synced, story}
use Rattle.effect_order.specs.RunFacts.{Timed}
use Rattle.effect_order.specs.Directly.{WaitsDirectly, GoesForward}
use Rattle.effect_order.proofs.Moments.{blocking_true, after, effect_kind, effect_left, done_time}

module _ {E S : Type 0} (r : Run E S) (q : Timed r) (is_end : E → Bool) (w : WaitsDirectly r is_end) where
  pub forward : GoesForward r is_end
  forward e f me mf open_ (ByBlocking l) =
      let a = after r q e f me mf l in
      omega (arith, w.over e f me (mf, a.own_to) (a.effect, a.blocks) a.node a.step open_, q.issued f mf)
  forward e f me mf open_ (ByDone d) = done_time r q e f me mf d
  forward e f me mf open_ (ByWithin h) = h.4
  forward e f me mf open_ (ByRelease h) = h.1
  forward e f me mf open_ (ByConflict c t) = t

  -- nothing comes after an end
  after_end : (e f : E) → r.Member e → r.Member f → is_end e ≡ true → Edge (story r) e f → ⊥
  after_end e f me mf h (ByBlocking l) = both_ways _ (w.end_quiet e me h) (blocking_true _ _ l.0).0
  after_end e f me mf h (ByDone d) = by d
    where
      by : OwnStep r e f ⊎ Synced r e f → ⊥
      by (inl p) = let same = w.end_last e f (me, p.1) (mf, p.2) h p.3 (omega (arith, p.4)) in omega (arith, p.4, ap r.step same)
      by (inr p) = both_ways _ (w.end_quiet e me h) p.effect
  after_end e f me mf h (ByWithin p) =
      let same = w.end_last e f (me, p.1) (mf, effect_kind r q f mf p.0) h p.2 (omega (arith, p.3)) in omega (arith, p.4, ap r.time same)
  after_end e f me mf h (ByRelease p) = by p.0
    where
      by : (r.is_release e ≡ true) ⊎ (r.is_release f ≡ true) → ⊥
      by (inl k) = both_ways _ (w.end_step e me h) k
      by (inr k) = w.no_release e f me mf h k p.1
  after_end e f me mf h (ByConflict c t) = both_ways _ (w.end_quiet e me h) (effect_left r q e f me mf c)

  no_end : (e f : E) → Before (story r) e f → is_end e ≡ false
  no_end e f b = ⊎_elim (λ h. absurd (after_end e f b.0 b.1 h b.2)) (λ h. h) (cases_Bool (is_end e))

  rises : (x z : E) (zs : List E) (y : E) → is_end y ≡ false → Walk (Before (story r)) x (z ∷ zs) y → r.time x < r.time y
  rises x z [] y open_ p =
      subst (λ u. r.time x < r.time u) p.1 (forward x z p.0.0 p.0.1 (subst (λ u. is_end u ≡ false) (sym p.1) open_) p.0.2)
  rises x z (v ∷ zs) y open_ p =
      let one = forward x z p.0.0 p.0.1 (no_end z v p.1.0) p.0.2 in
      let rest = rises z v zs y open_ p.1 in
      omega arith

  pub acyclic_directly : Acyclic (story r)
  acyclic_directly x z zs p = let t = rises x z zs x (no_end x z p.0) p in omega arith
