use Rattle.std.proofs.Common.{subst}
use Rattle.site_graph.specs.Kept.{IsFlow}
use Rattle.delay_sets.proofs.ClearWays.{closed_ways}
use Rattle.delay_sets.proofs.clear.clear_ways.Goals as goal

pub returns : goal.returns
returns c =
    closed_ways c.args.flow.now c.in_ok-rows.rows c.close.new.rows (subst IsFlow c.flow.view_is c.flow.invariant) c.in_ok-rows.ensures c.close.ensures
