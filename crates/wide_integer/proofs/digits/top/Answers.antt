use Rattle.std.proofs.Common.{arith, w64, SFits, to_z-of_z}
use Rattle.std.proofs.lemmas.Int.{ints}
use Rattle.wide_integer.proofs.digits.top.Goals as goal

pub returns : goal.returns
returns c =
    let fits : SFits w64 c.args.factor = c.ranges.factor in
    let one = c.above_all-one.ensures.value in
    let other = simp to_z-of_z at c.above_all.ensures.value in
    omega (arith, ints)
