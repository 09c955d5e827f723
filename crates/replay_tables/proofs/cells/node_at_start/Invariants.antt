use Rattle.std.proofs.Common.{◌≡◌, take}
use Rattle.replay_tables.specs.Cells.{node_start}
use Rattle.replay_tables.proofs.cells.node_at_start.Given as goal

abbrev pub invariant-loop-object : goal.invariant-loop-object
invariant-loop-object l = l.objects.items ≡ take l.object (node_start l.layout l.node)
