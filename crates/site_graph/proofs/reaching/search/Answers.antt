use Rattle.site_graph.proofs.Searching.{from_one}
use Rattle.site_graph.proofs.reaching.search.Goals as goal

pub returns : goal.returns
returns c = from_one c.args.flow.now c.args.stops.now c.args.stop_row c.args.start c.search_any.result c.search_any.ensures
