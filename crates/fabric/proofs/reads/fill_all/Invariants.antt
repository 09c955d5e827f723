use Rattle.std.proofs.Common.{◌≡◌, ◌++◌, map, take, drop}
use Rattle.fabric.specs.Reads.{filled}
use Rattle.fabric.proofs.reads.fill_all.Given as goal

abbrev pub invariant-loop-read : goal.invariant-loop-read
invariant-loop-read l =
    l.reads ≡ map (filled l.node l.number l.value) (take l.read-index l.initial.reads) ++ drop l.read-index l.initial.reads
