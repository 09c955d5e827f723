use Rattle.std.proofs.Common.{◌≡◌, ◌-◌, ◌≤◌, ◌++◌, length}
use Rattle.node_values.specs.Printing.{left_to_print, GoesOn}
use Rattle.node_values.proofs.printing.print_operands.Given as goal

abbrev pub invariant-loop-reached : goal.invariant-loop-reached
invariant-loop-reached l =
    (l.text.items ++ left_to_print l.format l.operands l.reached.at l.reached.used
    ≡ l.initial.text.items ++ left_to_print l.format l.operands 0 0)
    × (l.reached.at ≤ length l.format) × GoesOn l.initial.text.items l.text.items

abbrev pub decreases-loop-reached : goal.decreases-loop-reached
decreases-loop-reached l = length l.format - l.reached.at
