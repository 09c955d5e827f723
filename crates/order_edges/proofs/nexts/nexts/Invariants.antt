use Rattle.std.proofs.Common.{◌≡◌, ℕ, ◌-◌, ◌≤◌, length}
use Rattle.order_edges.specs.Lines.{look, first_from, next_from}
use Rattle.order_edges.proofs.nexts.nexts.Given as goal

abbrev pub invariant-loop-turn : goal.invariant-loop-turn
invariant-loop-turn l = record {
  size : length l.nexts.items ≡ length l.table;
  next_is : l.next ≡ first_from (look l.table) l.turn (length l.table - l.turn);
  noted : (k : ℕ) → length l.table - l.turn ≤ k → look l.nexts.items k ≡ next_from (look l.table) (length l.table) k;
}
