use Rattle.std.proofs.Common.{arith, w64, SFits, to_z-of_z}
use Rattle.std.proofs.lemmas.Int.{ints}
use Rattle.wide_integer.proofs.digits.next.Goals as goal

pub returns-clause-value : goal.returns-clause-value
returns-clause-value c =
    let fits : SFits w64 c.args.factor = c.ranges.factor in
    let e = simp to_z-of_z at c.product.ensures.value in
    omega (arith, ints)
