use Rattle.std.proofs.Common.{ℕ, length}
use Rattle.site_graph.specs.Made.{IsOneOf, HasOne}
use Rattle.site_graph.proofs.making.each_has_one.Given as goal

abbrev pub invariant-loop-before : goal.invariant-loop-before
invariant-loop-before l = (number : ℕ) → IsOneOf l.before number → HasOne l.points number (length l.points)
