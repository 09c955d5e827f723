use Rattle.std.proofs.Common.{◌≡◌, List, Some, ap, ◌∙◌, subst, length}
use Rattle.std.specs.Prelude.{slice_get}
use Rattle.sc_isa.specs.declared.results.NodeResult.{NodeResult}
use Rattle.code_sim.proofs.run.Simulation.end.Goals as goal

pub returns : goal.returns
returns c =
    let is : c.into_run.result.nodes ≡ c.in_ok-results.results.items = c.into_run.ensures.nodes ∙ c.from_vec.ensures in
    record {
      journal = c.into_run.ensures.journal;
      memory = c.into_run.ensures.memory;
      of_journal = c.into_run.ensures.of_journal;
      count = ap (λ (l : List NodeResult). length l) is ∙ c.in_ok-results.ensures.count;
      each = λ number runner result r q. c.in_ok-results.ensures.each number runner result r (subst (λ (l : List NodeResult). slice_get l number ≡ Some result) is q);
    }
