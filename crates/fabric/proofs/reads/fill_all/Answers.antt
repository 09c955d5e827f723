use Rattle.std.proofs.Common.{◌<◌, length, arith}
use Rattle.std.proofs.lemmas.List.{get_or_default}
use Rattle.std.proofs.lemmas.List.Edits.{map_over_more}
use Rattle.fabric.specs.Reads.{filled}
use Rattle.fabric.proofs.reads.fill_all.Goals as goal

pub loop-read-preserved : goal.loop-read-preserved
loop-read-preserved c =
    let within : c.loop-read.read-index < length c.loop-read.reads = omega (arith, c.loop-read-test.true, c.loop-read.auto.reads) in
    rw c.filled.ensures
    (map_over_more (filled c.args.node c.args.number c.args.value) c.args.reads.now c.loop-read.reads c.loop-read.read-index _
    c.loop-read-test.true c.loop-read.invariant (get_or_default c.loop-read.reads c.loop-read.read-index _ _ within))
