use Rattle.std.proofs.Common.{Bool, List, length, subst}
use Rattle.sync_place.specs.Waiting.{AreMarked, AreWaitRows}
use Rattle.sync_place.proofs.Placing.{placed}
use Rattle.sync_place.proofs.place.Goals as goal

pub returns : goal.returns
returns c =
    placed c.args.flow.now c.args.delays.now c.in_ok-first.first c.in_ok-marks.marks.items c.in_ok-waits.waits c.in_ok-oneway.oneway c.in_ok-first.ensures
    c.in_ok-marks.ensures
    (subst (λ (ms : List Bool). AreWaitRows c.in_ok-first.first ms (length c.args.flow.now.points) c.in_ok-waits.waits) c.deref.ensures.value c.in_ok-waits.ensures)
    (subst (λ (ms : List Bool). AreMarked ms (length ms) c.in_ok-oneway.oneway) c.deref-2.ensures.value c.in_ok-oneway.ensures)
