use Rattle.std.proofs.Common.{◌≡◌, ◌++◌, map, take}
use Rattle.flow_form.specs.FlowOf.{edge}
use Rattle.flow_draw.proofs.drawing.enter.Given as goal

abbrev pub invariant-loop-from : goal.invariant-loop-from
invariant-loop-from l = l.edges ≡ l.fn.edges ++ map (λ from. edge from l.to) (take l.from-index l.froms)
