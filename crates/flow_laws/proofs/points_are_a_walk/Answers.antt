use Rattle.flow_laws.proofs.Walks.{points_are_a_walk}
use Rattle.flow_laws.proofs.points_are_a_walk.Goals as goal

pub returns : goal.returns
returns c = points_are_a_walk
