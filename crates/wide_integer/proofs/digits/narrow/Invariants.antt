use Rattle.std.proofs.Common.{◌≡◌, ◌≤◌, drop, length}
use Rattle.wide_integer.specs.Value.{value_over, sign, in_64_bits}
use Rattle.wide_integer.proofs.digits.narrow.Given as goal

abbrev pub invariant-loop-i : goal.invariant-loop-i
invariant-loop-i l = record {
  within : l.i ≤ length l.digits;
  value : l.number ≡ in_64_bits (value_over (drop l.i l.digits) (sign l.negative));
}

abbrev pub decreases-loop-i : goal.decreases-loop-i
decreases-loop-i l = l.i
