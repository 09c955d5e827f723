use Rattle.std.proofs.Common.{◌+◌, get_or, bit_and}
use Rattle.site_graph.specs.BitWords.{AreAdded}
use Rattle.site_graph.proofs.bit_rows.add_words.Given as goal

abbrev pub invariant-loop-i : goal.invariant-loop-i
invariant-loop-i l =
    AreAdded l.to l.i (λ k. bit_and (get_or l.a (l.from_a + k) 0) (get_or l.b (l.from_b + k) 0)) l.initial.words l.words
