use Rattle.run_laws.proofs.Settled.{simulations_settle}
use Rattle.run_laws.proofs.laws.simulations_settle.Goals as goal

pub returns : goal.returns
returns c = simulations_settle
