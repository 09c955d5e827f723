use Rattle.std.proofs.Common.{◌≡◌, ◌++◌, map, drop}
use Rattle.sc_tree.specs.ViewTree.{plain_function}
use Rattle.sc_typing.specs.Program.{definitions_of}
use Rattle.sc_check.proofs.functions.definitions_of.Given as goal

abbrev pub invariant-loop-f : goal.invariant-loop-f
invariant-loop-f l =
    l.all.items ++ definitions_of (map plain_function (drop l.f-index l.functions))
    ≡ definitions_of (map plain_function l.functions)
