use Rattle.std.proofs.Common.{◌≡◌, ◌+◌, drop, take, map, replicate, ◌++◌, List, [], ◌∷◌, ℕ}
use Rattle.sc_typing.specs.Program.{name_text}
use Rattle.sc_typing.proofs.answer.push_names.Given as goal

abbrev pub invariant-loop-definition : goal.invariant-loop-definition
invariant-loop-definition l = l.texts.items ++ map (λ d. name_text l.names d.name) (drop l.definition-index l.definitions) ≡ l.initial.texts.items ++ map (λ d. name_text l.names d.name) l.definitions
