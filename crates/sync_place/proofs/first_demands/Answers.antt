use Rattle.sync_place.proofs.Demands.{first_of}
use Rattle.sync_place.proofs.first_demands.Goals as goal

pub returns : goal.returns
returns c = first_of c.args.flow.now c.args.delays.now c.in_ok-demand.demand c.in_ok-first.first c.in_ok-demand.ensures c.in_ok-first.ensures
