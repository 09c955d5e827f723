-- The quotient of a shift to the right: its product by the divisor is at most the dividend, and by less than the divisor.
use Rattle.std.proofs.Common.{ℕ, ◌<◌, pos, negsuc, ◌+ℤ◌, ◌*ℤ◌, arith}
use lib.IntN.{ℤ}
use lib.Signed.{◌<ℤ◌, ◌≤ℤ◌}
use Rattle.std.proofs.lemmas.Int.{ints}
use Rattle.sc_base.specs.Arithmetic.{floor_div}

pub floor_div_is : (a : ℤ) (d : ℕ) → 0 < d → ((floor_div a d *ℤ pos d) ≤ℤ a) × (a <ℤ ((floor_div a d *ℤ pos d) +ℤ pos d))
floor_div_is (pos a) d h = (omega (arith, ints), omega (arith, ints))
floor_div_is (negsuc a) d h = (omega (arith, ints), omega (arith, ints))
