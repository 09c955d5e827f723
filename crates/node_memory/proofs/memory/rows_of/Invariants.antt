use Rattle.std.proofs.Common.{◌≡◌, take}
use Rattle.node_memory.specs.Rows.{rows_at_start}
use Rattle.node_memory.proofs.memory.rows_of.Given as goal

abbrev pub invariant-loop-object : goal.invariant-loop-object
invariant-loop-object l = l.rows.items ≡ take l.object (rows_at_start l.layout)
