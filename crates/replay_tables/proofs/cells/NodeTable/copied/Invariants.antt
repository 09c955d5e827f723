use Rattle.std.proofs.Common.{◌≡◌, take}
use Rattle.replay_tables.proofs.cells.NodeTable.copied.Given as goal

abbrev pub invariant-loop-values : goal.invariant-loop-values
invariant-loop-values l = l.objects.items ≡ take l.values-index l.values-items
