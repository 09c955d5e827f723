use Rattle.std.proofs.Common.{◌≡◌, ◌+◌, drop, map}
use Rattle.sc_tree.specs.View.{plain_tail, tails_of}
use Rattle.sc_typing.specs.Naming.{leading}
use Rattle.sc_judge.proofs.expressions.leading.Given as goal

abbrev pub invariant-loop-tail : goal.invariant-loop-tail
invariant-loop-tail l = record {
  counted : l.count ≡ l.tail-index;
  ahead : leading (tails_of (map plain_tail l.rest))
      ≡ leading (tails_of (map plain_tail (drop l.tail-index l.rest))) + l.count;
}
