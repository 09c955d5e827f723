use Rattle.std.proofs.Common.{◌≡◌, ℕ, ◌+◌, ◌++◌, ◌∷◌, [], List, sym, ap, ◌∙◌, subst, length, length-append}
use Rattle.std.specs.Prelude.{slice_get}
use Rattle.code_sim.specs.declared.node.Runner.{Runner}
use Rattle.code_sim.specs.Asking.{IsRunner}
use Rattle.code_sim.proofs.Ready.{each_with}
use Rattle.code_sim.proofs.run.start_nodes.Goals as goal

pub loop-number-preserved : goal.loop-number-preserved
loop-number-preserved c =
    let nodes = c.loop-number.nodes.items in
    let runner = c.in_ok-runner.runner in
    let P : ℕ → Runner → Type 0 = IsRunner c.args.code.now c.args.layout.now c.args.budget [] in
    let is : c.push.new.self.items ≡ nodes ++ runner ∷ [] = c.in-Ok.ensures.items in
    record {
      count = ap (λ (l : List Runner). length l) is ∙ length-append nodes (runner ∷ []) ∙ ap (λ n. n + 1) c.loop-number.invariant.count;
      each = λ p n e. each_with P nodes runner c.loop-number.invariant.each (subst (λ k. P k runner) (sym c.loop-number.invariant.count) c.in_ok-runner.ensures) p n
          (ap (λ (l : List Runner). slice_get l p) (sym is) ∙ e);
    }
