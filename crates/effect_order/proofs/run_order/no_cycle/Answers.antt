use Rattle.effect_order.proofs.Cycles.{acyclic}
use Rattle.effect_order.proofs.run_order.no_cycle.Goals as goal

pub returns : goal.returns
returns g c k = acyclic g.T.Storied.story k
