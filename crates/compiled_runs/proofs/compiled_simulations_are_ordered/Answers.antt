use Rattle.compiled_runs.proofs.Compiled.{compiled_simulations_are_ordered}
use Rattle.compiled_runs.proofs.compiled_simulations_are_ordered.Goals as goal

pub returns : goal.returns
returns c = compiled_simulations_are_ordered
