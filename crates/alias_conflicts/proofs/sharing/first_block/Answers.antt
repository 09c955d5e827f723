use Rattle.std.proofs.Common.{◌+◌, ◌-◌, ◌/◌, inl, inr, arith, ◌<◌}
use Rattle.sc_layout.specs.Layout.{block_of}
use Rattle.std.proofs.lemmas.Bool.{cases_lt, both_ways}
use Rattle.alias_conflicts.proofs.Finding.{block_le_extent, passes_below, first_block_in}
use Rattle.alias_conflicts.proofs.sharing.first_block.Goals as goal

pub loop-low-init : goal.loop-low-init
loop-low-init c = λ o found s more. (omega arith, rw c.extent-high.ensures (block_le_extent c.args.layout.now c.args.object o c.requires.lawful found s))

pub loop-low-preserved-then-is_in_first_block : goal.loop-low-preserved-then-is_in_first_block
loop-low-preserved-then-is_in_first_block c = λ o found s more.
    (let below : c.loop-low.low + (c.loop-low.high - c.loop-low.low) / 2 < block_of o =
    passes_below c.args.layout.now c.args.object _ o c.requires.lawful found s more (c.is_in_first_block.ensures.0 c.if-is_in_first_block.true) in
    (omega arith, (c.loop-low.invariant o found s more).1))

pub loop-low-preserved : goal.loop-low-preserved
loop-low-preserved c = λ o found s more. (
  (c.loop-low.invariant o found s more).0,
  elim (cases_lt (c.loop-low.low + (c.loop-low.high - c.loop-low.low) / 2) (block_of o)) [
    | inl h ↦ absurd (both_ways _ c.if-is_in_first_block.false (c.is_in_first_block.ensures.1 (first_block_in c.args.layout.now c.args.object _ o c.requires.lawful found s h)))
    | inr h ↦ h
  ],
)
