use Rattle.std.proofs.Common.{◌≡◌, ℕ, suc, length}
use Rattle.order_edges.specs.Lines.{look, last_with}
use Rattle.order_edges.proofs.line.positions.Given as goal

abbrev pub invariant-loop-at : goal.invariant-loop-at
invariant-loop-at l = record {
  size : length l.table.items ≡ suc l.line.last;
  noted : (k : ℕ) → look l.table.items k ≡ last_with l.line l.items l.at k;
}
