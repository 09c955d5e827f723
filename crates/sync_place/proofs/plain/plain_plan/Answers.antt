use Rattle.std.proofs.Common.{Bool, List, length, subst}
use Rattle.site_graph.specs.Kept.{IsFlow}
use Rattle.sync_place.specs.Waiting.{AreWaitRows}
use Rattle.sync_place.proofs.Behind.{plain_is, edges_lead}
use Rattle.sync_place.proofs.plain.plain_plan.Goals as goal

pub returns : goal.returns
returns c =
    plain_is c.args.flow.now c.in_ok-behind.behind _ c.in-Ok.marks.items c.in_ok-waits.waits c.new.result c.requires c.in_ok-behind.ensures
    (c.in-Ok.ensures.items_if_clones_equal (λ y e. e))
    (edges_lead c.args.flow.now (subst IsFlow c.flow.view_is c.flow.invariant))
    (subst (λ (ms : List Bool). AreWaitRows c.in_ok-behind.behind ms (length c.args.flow.now.points) c.in_ok-waits.waits) c.deref.ensures.value c.in_ok-waits.ensures)
    c.new.ensures
