use Rattle.run_moves.proofs.Calm.{code_is_orderly}
use Rattle.run_moves.proofs.code_is_orderly.Goals as goal

pub returns : goal.returns
returns c = code_is_orderly
