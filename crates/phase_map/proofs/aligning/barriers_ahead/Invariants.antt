use Rattle.std.proofs.Common.{◌≡◌, length}
use Rattle.phase_map.specs.Aligning.{AreSound, room}
use Rattle.phase_map.proofs.aligning.barriers_ahead.Given as goal

abbrev pub invariant-loop : goal.invariant-loop
invariant-loop l = (length l.ahead.items ≡ length l.flow.points) × AreSound l.flow l.ahead.items

abbrev pub decreases-loop : goal.decreases-loop
decreases-loop l = room l.ahead.items
