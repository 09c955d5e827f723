use Rattle.fabric.proofs.Counting.{outstanding_flies}
use Rattle.fabric.proofs.laws.open_cells_fly.Goals as goal

pub returns : goal.returns
returns c = outstanding_flies
