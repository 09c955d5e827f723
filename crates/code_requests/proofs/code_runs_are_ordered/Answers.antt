use Rattle.code_requests.proofs.Waiting.{code_runs_are_ordered}
use Rattle.code_requests.proofs.code_runs_are_ordered.Goals as goal

pub returns : goal.returns
returns c = code_runs_are_ordered
