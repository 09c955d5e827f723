use Rattle.std.proofs.Common.{◌≡◌, ◌<◌, ◌≤◌, ◌-◌, Some, true, slice_get}
use Rattle.sc_layout.specs.Layout.{LaidObject, block_of}
use Rattle.alias_conflicts.proofs.sharing.first_block.Given as goal

abbrev pub invariant-loop-low : goal.invariant-loop-low
invariant-loop-low l = (o : LaidObject) → slice_get l.layout.objects l.object ≡ Some o → o.shape.spread ≡ true → 1 < l.layout.nodes → (l.low ≤ block_of o) × (block_of o ≤ l.high)

abbrev pub decreases-loop-low : goal.decreases-loop-low
decreases-loop-low l = l.high - l.low
