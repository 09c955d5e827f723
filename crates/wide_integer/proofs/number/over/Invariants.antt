use Rattle.std.proofs.Common.{◌≡◌, unsigned_abs}
use Rattle.wide_integer.specs.Value.{value_over}
use Rattle.wide_integer.proofs.number.over.Given as goal

abbrev pub invariant-loop-rest : goal.invariant-loop-rest
invariant-loop-rest l = value_over l.digits.items l.rest ≡ value_over l.initial.digits.items l.initial.rest

abbrev pub decreases-loop-rest : goal.decreases-loop-rest
decreases-loop-rest l = unsigned_abs l.rest
