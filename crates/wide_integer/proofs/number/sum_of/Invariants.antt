use Rattle.std.proofs.Common.{◌≡◌, ◌^◌, drop, pos, negsuc, ◌+ℤ◌, ◌*ℤ◌, ◌≤ℤ◌}
use Rattle.wide_integer.specs.Value.{value_over, sign}
use Rattle.wide_integer.proofs.number.sum_of.Given as goal

abbrev pub invariant-loop-i : goal.invariant-loop-i
invariant-loop-i l = record {
  low : negsuc (2 ^ 64) ≤ℤ l.carry;
  high : l.carry ≤ℤ pos (2 ^ 64);
  value : value_over l.digits.items
      (l.carry +ℤ value_over (drop l.i l.ones) (sign l.a-inside.negative)
      +ℤ l.factor *ℤ value_over (drop l.i l.others) (sign l.b-inside.negative))
      ≡ value_over l.ones (sign l.a-inside.negative) +ℤ l.factor *ℤ value_over l.others (sign l.b-inside.negative);
}
