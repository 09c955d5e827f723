use Rattle.std.proofs.Common.{◌≡◌, take}
use Rattle.sc_typing.specs.Program.{types_of}
use Rattle.sc_check.proofs.parameters.types_of.Given as goal

abbrev pub invariant-loop-p : goal.invariant-loop-p
invariant-loop-p l = l.made.items ≡ types_of (take l.p-index l.params)
