use Rattle.std.proofs.Common.{◌≡◌, take}
use Rattle.sc_tree.proofs.lexed.Texts.from_names.Given as goal

-- the texts so far
abbrev pub invariant-loop-number : goal.invariant-loop-number
invariant-loop-number l = l.texts.items ≡ take l.number l.names
