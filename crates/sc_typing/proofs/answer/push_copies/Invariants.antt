use Rattle.std.proofs.Common.{◌≡◌, ◌+◌, drop, take, map, replicate, ◌++◌, List, [], ◌∷◌, ℕ}
use Rattle.sc_typing.specs.Program.{name_text}
use Rattle.sc_typing.proofs.answer.push_copies.Given as goal

abbrev pub invariant-loop-text : goal.invariant-loop-text
invariant-loop-text l = l.texts.items ++ drop l.text-index l.more ≡ l.initial.texts.items ++ l.more
