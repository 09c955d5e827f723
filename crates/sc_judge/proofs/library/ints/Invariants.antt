use Rattle.std.proofs.Common.{◌≡◌, replicate}
use Rattle.sc_typing.specs.Types.{int}
use Rattle.sc_judge.proofs.library.ints.Given as goal

abbrev pub invariant-loop-i : goal.invariant-loop-i
invariant-loop-i l = l.wanted.items ≡ replicate l._i int
