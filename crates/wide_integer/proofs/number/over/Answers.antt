use Rattle.std.proofs.Common.{arith}
use Rattle.std.proofs.lemmas.Int.{to_z-of_z}
use Rattle.wide_integer.proofs.Values.{pushed}
use Rattle.wide_integer.proofs.number.over.Goals as goal

pub loop-rest-preserved : goal.loop-rest-preserved
loop-rest-preserved c = grind (arith, to_z-of_z, pushed)
