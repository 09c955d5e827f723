use Rattle.std.proofs.Common.{◌≡◌, ◌+◌, drop, take, map, replicate, ◌++◌, List, [], ◌∷◌, ℕ}
use Rattle.sc_typing.specs.Answer.{least_of}
use Rattle.sc_typing.proofs.answer.first_noted.Given as goal

abbrev pub invariant-loop-breach : goal.invariant-loop-breach
invariant-loop-breach l = least_of l.least (drop l.breach-index l.more) ≡ least_of l.initial.least l.more
