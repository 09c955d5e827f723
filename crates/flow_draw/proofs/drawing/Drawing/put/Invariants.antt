use Rattle.std.proofs.Common.{◌≡◌, ◌++◌, take}
use Rattle.flow_draw.proofs.drawing.Drawing.put.Given as goal

abbrev pub invariant-loop-site : goal.invariant-loop-site
invariant-loop-site l = l.takes ≡ l.fn.takes ++ take l.site-index l.fn.self.takes
