use Rattle.flow_laws.proofs.Walks.{requests_are_of_their_points}
use Rattle.flow_laws.proofs.requests_are_of_their_points.Goals as goal

pub returns : goal.returns
returns c = requests_are_of_their_points
