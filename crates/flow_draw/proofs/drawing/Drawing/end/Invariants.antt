use Rattle.std.proofs.Common.{◌≡◌, ◌++◌, take}
use Rattle.flow_draw.proofs.drawing.Drawing.end.Given as goal

abbrev pub invariant-loop-site : goal.invariant-loop-site
invariant-loop-site l = l.takes ≡ l.fn.outer.takes ++ take l.site-index l.fn.self.takes
