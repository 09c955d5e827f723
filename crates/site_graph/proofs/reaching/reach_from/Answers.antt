use Rattle.std.proofs.Common.{get_or, refl}
use Rattle.site_graph.proofs.Starts.{more_reached, all_reached}
use Rattle.site_graph.proofs.reaching.reach_from.Goals as goal

pub loop-row-preserved : goal.loop-row-preserved
loop-row-preserved c =
    more_reached c.args.flow.now c.args.starts.now c.args.stops.now c.in_ok-stop_row.stop_row c.in_ok-found.found c.loop-row.rows c.add_common.new.self c.loop-row.row
    (get_or c.args.starts.now (c.loop-row.row) 0) c.in_ok-stop_row.ensures c.loop-row.invariant c.loop-row-test.true refl c.in_ok-found.ensures c.add_common.ensures

pub returns : goal.returns
returns c = all_reached c.args.flow.now c.args.starts.now c.args.stops.now c.loop-row.rows c.loop-row.row c.loop-row.invariant c.loop-row-test.false
