use Rattle.std.proofs.Common.{◌^◌, ◌-◌, arith}
use Rattle.std.proofs.lemmas.Nat.{mul-le}
use Rattle.alias_conflicts.proofs.sharing.first_on.Goals as goal

pub returns-then-shape-clause-small : goal.returns-then-shape-clause-small
returns-then-shape-clause-small c =
    let most = mul-le c.from.result c.from-then-shape.result (2 ^ 32 - 1) (2 ^ 32 - 1) (omega arith) (omega arith) in
    omega arith
