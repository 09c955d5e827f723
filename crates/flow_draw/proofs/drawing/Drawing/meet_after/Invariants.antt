use Rattle.std.proofs.Common.{◌≡◌, vec_len}
use Rattle.flow_draw.specs.Drawings.{met_after}
use Rattle.flow_draw.proofs.drawing.Drawing.meet_after.Given as goal

abbrev pub invariant-loop-from : goal.invariant-loop-from
invariant-loop-from l = met_after l.ways.items l.self ≡ met_after l.fn.ways.items l.fn.self

abbrev pub decreases-loop-from : goal.decreases-loop-from
decreases-loop-from l = vec_len l.ways
