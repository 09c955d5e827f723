use Rattle.std.proofs.Common.{◌≡◌, map, drop}
use Rattle.sc_core.specs.ViewStatements.{plain_function}
use Rattle.flow_form.specs.Scans.{with_functions, whole_of}
use Rattle.flow_form.proofs.scan.entries_of.Given as goal

abbrev pub invariant-loop-f : goal.invariant-loop-f
invariant-loop-f l =
    with_functions (map plain_function (drop l.f-index l.functions)) l.whole ≡ whole_of (map plain_function l.functions)
