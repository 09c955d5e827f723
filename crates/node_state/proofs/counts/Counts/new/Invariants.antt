use Rattle.std.proofs.Common.{◌≡◌, replicate}
use Rattle.node_state.proofs.counts.Counts.new.Given as goal

abbrev pub invariant-loop : goal.invariant-loop
invariant-loop l = l.numbers.items ≡ replicate l.counter 0
