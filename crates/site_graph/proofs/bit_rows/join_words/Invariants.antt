use Rattle.std.proofs.Common.{◌≡◌, ◌↔◌, ℕ, ◌+◌, ◌<◌, get_or, true}
use Rattle.site_graph.specs.BitWords.{AreAdded, Adds}
use Rattle.site_graph.proofs.bit_rows.join_words.Given as goal

abbrev pub invariant-loop-i : goal.invariant-loop-i
invariant-loop-i l = record {
  joined : AreAdded l.to l.i (λ k. get_or l.initial.words (l.from + k) 0) l.initial.words l.words;
  gains : (l.gains ≡ true) ↔ ((k : ℕ) × (k < l.i) × Adds (get_or l.initial.words (l.to + k) 0) (get_or l.initial.words (l.from + k) 0));
}
