use Rattle.std.proofs.Common.{Bool, List, length, subst}
use Rattle.sync_place.specs.Waiting.{AreWaitRows}
use Rattle.sync_place.proofs.Placing.{placed_early}
use Rattle.sync_place.proofs.place_early.Goals as goal

pub returns : goal.returns
returns c =
    placed_early c.args.flow.now c.args.delays.now c.in_ok-first.first _ c.in-Ok.marks.items c.in_ok-waits.waits c.new.result c.in_ok-first.ensures
    (c.in-Ok.ensures.items_if_clones_equal (λ y e. e))
    (subst (λ (ms : List Bool). AreWaitRows c.in_ok-first.first ms (length c.args.flow.now.points) c.in_ok-waits.waits) c.deref.ensures.value c.in_ok-waits.ensures)
    c.new.ensures
