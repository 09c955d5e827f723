-- What a run supplies gives the facts from which there is no cycle.
use Rattle.std.proofs.Common.{◌≡◌, ◌≢◌, ◌⊎◌, ◌<◌, ◌≤◌, inl, inr, ⊎_elim, arith, true}
use Rattle.std.proofs.lemmas.Bool.{cases_Bool, cases_lt, both_ways}
use Rattle.effect_order.specs.Flow.{Precedes, Link, Delay}
use Rattle.effect_order.specs.Order.{Later, Edge, Facts, Acyclic}
use Rattle.effect_order.specs.Order.Edge.{ByBlocking, ByDone, ByWithin, ByRelease, ByConflict}
use Rattle.effect_order.specs.Run.{Run, OwnStep, Synced, Released, Conflict, level, story}
use Rattle.effect_order.specs.RunFacts.{RunFacts}
use Rattle.effect_order.proofs.Exchange.{items-back}
use Rattle.effect_order.proofs.Cycles.{acyclic}
use Rattle.effect_order.proofs.Moments.{After, after, blocking_true, blocking_of, effect_left, effect_right, sync_times, done_time, done_node, done_step, done_on}
use Rattle.effect_order.proofs.Levels.{level_grows, to_release, from_release}

module _ {E S : Type 0} (r : Run E S) (k : RunFacts r) where
  time_level : (e f : E) → r.time e < r.time f → level r (r.time e) ≤ level r (r.time f)
  time_level e f t = level_grows r.releases _ _ (omega arith)

  levels : (e f : E) → r.Member e → r.Member f → After r k.timed e f → (level r (r.time e) ≤ level r (r.issue e)) × (level r (r.issue e) ≤ level r (r.issue f)) × (level r (r.issue f) ≤ level r (r.time f)) × (level r (r.issue e) ≤ level r (r.time e))
  levels e f me mf a =
      let before = k.timed.in_order e f (me, a.own) (mf, a.own_to) a.node a.step in
      (k.kept.in_its_level e me a.effect a.blocks, level_grows r.releases _ _ (omega arith), level_grows r.releases _ _ (k.timed.issued f mf), level_grows r.releases _ _ (k.timed.issued e me))

  never_falls : (e f : E) → r.Member e → r.Member f → Edge (story r) e f → level r (r.time e) ≤ level r (r.time f)
  never_falls e f me mf (ByBlocking l) = let t = levels e f me mf (after r k.timed e f me mf l) in omega arith
  never_falls e f me mf (ByDone d) = time_level e f (done_time r k.timed e f me mf d)
  never_falls e f me mf (ByWithin w) = time_level e f w.4
  never_falls e f me mf (ByRelease q) = time_level e f q.1
  never_falls e f me mf (ByConflict c t) = time_level e f t

  rises : (e f : E) → r.Member e → r.Member f → Released r e f → level r (r.time e) < level r (r.time f)
  rises e f me mf q = ⊎_elim (λ a. from_release r.releases (r.time e) (r.time f) (k.timed.release_moment e me a) q.1) (λ a. to_release r.releases (r.time e) (r.time f) (k.timed.release_moment f mf a) q.1) q.0

  -- within one level both were issued in it
  one_level : (e f : E) → r.Member e → r.Member f → (a : After r k.timed e f) → level r (r.time e) ≡ level r (r.time f) → level r (r.issue e) ≡ level r (r.issue f)
  one_level e f me mf a v = let t = levels e f me mf a in omega arith

  clear_blocking : (e f : E) → r.Member e → r.Member f → Later (story r) e f → r.is_effect f ≡ true → level r (r.time e) ≡ level r (r.time f) → Precedes r.flow (r.point e) (r.point f)
  clear_blocking e f me mf l b v =
      let a = after r k.timed e f me mf l in
      inl (a.blocks, k.kept.clear e f me mf b (inl a.effect) a.node a.step (one_level e f me mf a v))

  -- not within one step of the sync itself, where f is an effect
  sync_before : (e f : E) → r.Member f → r.is_effect f ≡ true → (q : Synced r e f) → r.step q.sync < r.step f ⊎ (r.step q.sync ≡ r.step f) → r.step q.sync < r.step f
  sync_before e f mf b q (inl t) = t
  sync_before e f mf b q (inr t) = absurd (k.timed.sync_alone q.sync f q.member mf q.is_sync b q.node_to t)

  clear_done : (e f : E) → r.Member e → r.Member f → OwnStep r e f ⊎ Synced r e f → r.is_effect e ≡ true → r.is_effect f ≡ true → level r (r.time e) ≡ level r (r.time f) → Precedes r.flow (r.point e) (r.point f)
  clear_done e f me mf (inl q) be bf v = absurd (both_ways _ q.0 be)
  clear_done e f me mf (inr q) be bf v =
      let t = sync_times r k.timed e f me mf q in
      let x = level_grows r.releases (r.time e) (r.issue q.sync) (omega arith) in
      let y = level_grows r.releases (r.issue q.sync) (r.issue f) t.2 in
      let z = level_grows r.releases (r.issue f) (r.time f) t.3 in
      let step = sync_before e f mf bf q (⊎_elim (λ a. inl a) (λ a. inr (omega (arith, q.step_to))) (cases_lt (r.step q.sync) (r.step f))) in
      inr (q.splits, r.point q.sync, q.is_sync.2, k.kept.leads e q.sync me q.member be q.is_sync q.node q.step, k.kept.clear q.sync f q.member mf bf (inr q.is_sync) q.node_to step (omega arith))

  cross : (e f : E) → r.Member e → r.Member f → Conflict r e f → r.node e ≢ r.node f → level r (r.time e) ≡ level r (r.time f) → Link r.flow (r.point e) (r.point f)
  cross e f me mf c n v =
      inl (
        k.analysed.across e f me mf c n,
        ⊎_elim
            (λ a. ⊎_elim (λ b. k.analysed.meet e f me mf c n a b (at_issue a b)) (λ b. k.analysed.meet_explicit _ _ (inr b)) (cases_Bool (r.flow.is_blocking (r.point f))))
            (λ a. k.analysed.meet_explicit _ _ (inl a))
            (cases_Bool (r.flow.is_blocking (r.point e))),
      )
    where
      at_issue : r.flow.is_blocking (r.point e) ≡ true → r.flow.is_blocking (r.point f) ≡ true → level r (r.issue e) ≡ level r (r.issue f)
      at_issue a b =
          let p = k.kept.in_its_level e me (effect_left r k.timed e f me mf c) a in
          let q = k.kept.in_its_level f mf (effect_right r k.timed e f me mf c) b in
          let x = level_grows r.releases _ _ (k.timed.issued e me) in
          let y = level_grows r.releases _ _ (k.timed.issued f mf) in
          omega arith

  waited : (e f : E) → r.Member e → r.Member f → Later (story r) e f → r.is_effect f ≡ true → level r (r.time e) ≡ level r (r.time f) → Delay r.flow (r.point e) (r.point f) → r.time e < r.time f
  waited e f me mf l b v d =
      let a = after r k.timed e f me mf l in
      let w = k.kept.waited e f me mf a.effect b a.node a.step (one_level e f me mf a v) d in
      omega (arith, k.timed.issued f mf)

  pub facts : Facts (story r)
  facts = record {
    never_falls = never_falls;
    rises = rises;
    done_node = λ e f me mf d. done_node r k.timed e f d;
    done_step = λ e f me mf d. done_step r k.timed e f d;
    done_on = done_on r k.timed;
    done_time = done_time r k.timed;
    within_node = λ e f me mf w. w.2;
    within_step = λ e f me mf w. w.3;
    within_time = λ e f me mf w. w.4;
    within_effect = λ e f me mf w. w.0;
    conflict_left = effect_left r k.timed;
    conflict_right = effect_right r k.timed;
    conflict_back = λ e f c. items-back r.does e f c;
    blocking_effect = λ e me b. (blocking_true _ _ b).0;
    blocking_site = λ e me b. blocking_of _ _ b;
    same_site = λ e f me mf be bf n t. k.timed.one_point e f me mf be bf n t;
    clear_blocking = clear_blocking;
    clear_done = clear_done;
    cross = cross;
    own = k.analysed.own;
    own_back = k.analysed.own_back;
    waited = waited;
  }

  pub acyclic_run : Acyclic (story r)
  acyclic_run = acyclic (story r) facts
