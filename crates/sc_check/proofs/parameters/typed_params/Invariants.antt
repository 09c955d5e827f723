use Rattle.std.proofs.Common.{◌≡◌, map, take}
use Rattle.sc_typing.specs.Program.{typed_param}
use Rattle.sc_check.proofs.parameters.typed_params.Given as goal

abbrev pub invariant-loop-p : goal.invariant-loop-p
invariant-loop-p l = l.made.items ≡ map typed_param (take l.p-index l.params)
