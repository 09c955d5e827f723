-- How all nodes pass a barrier, and what they print.
use Rattle.std.proofs.Common.{◌≡◌, ⊎_elim, ℕ, ◌+◌, ◌<◌, ◌≤◌, List, [], ◌∷◌, ◌++◌, true, false, ◌==◌, refl, sym, ◌∙◌, subst, arith}
use Rattle.std.proofs.lemmas.Bool.Decides.{eqb_tells}
use Rattle.sc_meaning.specs.declared.request.Request.{Request}
use Rattle.sc_meaning.specs.Asking.{Answer, Passed, SourceDoing}
use Rattle.core_run.specs.declared.runner.Runner.{Runner}
use Rattle.replay_laws.proofs.Others.{when, unless}
use Rattle.replay_stages.specs.Courses.{Course}
use Rattle.replay_stages.specs.Stage.{Front}
use Rattle.replay_stages.specs.Laws.{with_front}
use Rattle.history_replay.specs.Fronts.{GoesTo, WaitsAt, AllWait, Passing}

module _ (count : ℕ) (start : ℕ → SourceDoing) (given : ℕ → List Answer) (all : ℕ → List Request) (fronts : ℕ → Front) where
  pub begin_passing : (runners : List Runner) → AllWait count start given all runners fronts → Passing count start given all 0 runners fronts
  begin_passing runners w = record {
    now = fronts;
    at = w.at;
    passed = λ n lt. absurd (omega arith);
    left = λ n le. refl;
  }

  -- the node waits still, as it did at first
  pub still_waits : (node : ℕ) (runners old : List Runner) (p : Passing count start given all node runners fronts) → AllWait count start given all old fronts
      → node < count → WaitsAt (start node) (given node) (all node) (p.now node)
  still_waits node runners old p w lt = subst (WaitsAt (start node) (given node) (all node)) (sym (p.left node (omega arith))) (w.waits node lt)

  pub pass_one : (node : ℕ) (runners new : List Runner) (p : Passing count start given all node runners fronts)
      → (w : WaitsAt (start node) (given node) (all node) (p.now node))
      → GoesTo new p.now node (start node) (given node ++ Passed ∷ []) (w.before ++ w.last ∷ [])
      → Passing count start given all (node + 1) new fronts
  pass_one node runners new p w go = record {
    now = with_front p.now node go.front;
    at = go.all;
    passed = λ n lt. ⊎_elim
        (λ q. subst (λ m. Course (start m) (given m ++ Passed ∷ []) (all m) (with_front p.now node go.front m).text (with_front p.now node go.front m).rest) q.1
        (subst (λ f. Course (start node) (given node ++ Passed ∷ []) (all node) f.text f.rest)
        (sym (when (node == node) go.front (p.now node) (same node)))
        (subst (λ rs. Course (start node) (given node ++ Passed ∷ []) rs go.front.text go.front.rest) (sym w.whole) go.course)))
        (λ q. subst (λ f. Course (start n) (given n ++ Passed ∷ []) (all n) f.text f.rest)
        (sym (unless (node == n) go.front (p.now n) q.0)) (p.passed n (let ne = q.1 in omega arith)))
        (eqb_tells node n);
    left = λ n le. unless (node == n) go.front (p.now n) (other n le) ∙ p.left n (omega arith);
  }
    where
      same : (n : ℕ) → (n == n) ≡ true
      same n = ⊎_elim (λ q. q.0) (λ q. absurd (q.1 refl)) (eqb_tells n n)

      other : (n : ℕ) → node + 1 ≤ n → (node == n) ≡ false
      other n le = ⊎_elim (λ q. let e = q.1 in absurd (omega arith)) (λ q. q.0) (eqb_tells node n)
