use Rattle.std.proofs.Common.{◌≡◌, ◌≤◌, ◌++◌, length, drop}
use Rattle.fabric.specs.Reads.{reads_on, values_in}
use Rattle.fabric.proofs.reads.add_values.Given as goal

abbrev pub invariant-loop-read : goal.invariant-loop-read
invariant-loop-read l =
    (l.into.values ++ values_in (reads_on l.node l.counter (drop l.read-index l.reads)) ≡ l.initial.into.values ++ values_in (reads_on l.node l.counter l.reads))
    × (length (reads_on l.node l.counter (drop l.read-index l.reads)) ≤ l.into.spare)
