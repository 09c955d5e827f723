use Rattle.std.proofs.Common.{◌≡◌, [], reverse, drop}
use Rattle.sc_layout.specs.Bound.{stack_at_end}
use Rattle.sc_layout.proofs.bounds.value_of_steps.Given as goal

-- the steps left give on this stack what all give on the empty one
abbrev pub invariant-loop-step : goal.invariant-loop-step
invariant-loop-step l = stack_at_end l.nodes (drop l.step-index l.steps) (reverse l.stack.items) ≡ stack_at_end l.nodes l.steps []
