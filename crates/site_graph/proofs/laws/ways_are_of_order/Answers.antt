use Rattle.site_graph.proofs.Ways.{ways_of_order}
use Rattle.site_graph.proofs.laws.ways_are_of_order.Goals as goal

pub returns : goal.returns
returns c = ways_of_order
