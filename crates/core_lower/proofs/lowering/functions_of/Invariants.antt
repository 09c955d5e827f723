use Rattle.std.proofs.Common.{◌≡◌, ◌++◌, map, drop}
use Rattle.sc_tree.specs.ViewTypedTree.{plain_typed_function}
use Rattle.sc_core.specs.Lowering.{functions_of}
use Rattle.sc_core.specs.ViewStatements.{plain_function}
use Rattle.core_lower.proofs.lowering.functions_of.Given as goal

abbrev pub invariant-loop-f : goal.invariant-loop-f
invariant-loop-f l =
    map plain_function l.made.items ++ functions_of l.sight.objects.now (map plain_typed_function (drop l.f-index l.all))
    ≡ functions_of l.sight.objects.now (map plain_typed_function l.all)
