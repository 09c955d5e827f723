use Rattle.std.proofs.Common.{◌≡◌, ◌+◌, ◌++◌, ◌∷◌, [], List, sym, ap, ◌∙◌, length, length-append}
use Rattle.std.specs.Prelude.{slice_get}
use Rattle.sc_isa.specs.declared.results.NodeResult.{NodeResult}
use Rattle.code_sim.specs.declared.node.Runner.{Runner}
use Rattle.code_sim.specs.Asking.{IsLeft}
use Rattle.code_sim.proofs.Ready.{pairs_with, given_front}
use Rattle.code_sim.proofs.run.results_of.Goals as goal

pub loop-runner-preserved : goal.loop-runner-preserved
loop-runner-preserved c =
    let before = c.loop-runner.yielded in
    let runner = c.in-Some.runner in
    let rest = c.next.new.self.rest.items in
    let results = c.loop-runner.results.items in
    let one = c.into_result.result in
    let given : c.into_iter-runner-iterator.result.rest.items ≡ c.args.nodes.items = c.into_iter-runner-iterator.ensures.into_iter_gives.0 in
    let all : c.args.nodes.items ≡ before ++ runner ∷ rest =
    sym given ∙ given_front c.into_iter-runner-iterator.result before c.loop-runner.runner-iterator c.loop-runner.yielded_by
    ∙ ap (λ (l : List Runner). before ++ l) c.in-Some.ensures.steps.0 in
    let is : c.push.new.self.items ≡ results ++ one ∷ [] = c.in-Ok.ensures.items in
    record {
      count = ap (λ (l : List NodeResult). length l) is ∙ length-append results (one ∷ []) ∙ ap (λ n. n + 1) c.loop-runner.invariant.count ∙ sym (length-append before (runner ∷ []));
      each = λ p r x e f. pairs_with IsLeft before rest results runner one c.loop-runner.invariant.count
          (λ i u v g h. c.loop-runner.invariant.each i u v (ap (λ (l : List Runner). slice_get l i) all ∙ g) h) c.into_result.ensures p r x
          (ap (λ (l : List Runner). slice_get l p) (sym all) ∙ e) (ap (λ (l : List NodeResult). slice_get l p) (sym is) ∙ f);
    }
