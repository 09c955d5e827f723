use Rattle.run_moves.proofs.Allowed.{moves_are_allowed}
use Rattle.run_moves.proofs.moves_are_allowed.Goals as goal

pub returns : goal.returns
returns c = moves_are_allowed
