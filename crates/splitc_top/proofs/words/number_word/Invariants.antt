use Rattle.std.proofs.Common.{◌≡◌, drop}
use Rattle.splitc_top.specs.Words.{number_after}
use Rattle.splitc_top.proofs.words.number_word.Given as goal

abbrev pub invariant-loop-x : goal.invariant-loop-x
invariant-loop-x l = number_after 0 l.word ≡ number_after l.number (drop l.x-index l.word)
