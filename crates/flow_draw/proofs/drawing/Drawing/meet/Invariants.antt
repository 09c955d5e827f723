use Rattle.std.proofs.Common.{◌≡◌, ◌++◌, take}
use Rattle.flow_draw.proofs.drawing.Drawing.meet.Given as goal

abbrev pub invariant-loop-from : goal.invariant-loop-from
invariant-loop-from l = l.froms ≡ l.fn.ways ++ take l.from-index l.fn.self.froms
