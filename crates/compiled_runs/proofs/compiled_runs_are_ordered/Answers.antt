use Rattle.compiled_runs.proofs.Compiled.{compiled_runs_are_ordered}
use Rattle.compiled_runs.proofs.compiled_runs_are_ordered.Goals as goal

pub returns : goal.returns
returns c = compiled_runs_are_ordered
