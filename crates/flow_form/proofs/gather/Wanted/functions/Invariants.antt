use Rattle.std.proofs.Common.{◌≡◌, map, drop}
use Rattle.sc_core.specs.ViewStatements.{plain_function}
use Rattle.flow_form.specs.Gathers.{gathered_functions}
use Rattle.flow_form.proofs.gather.Wanted.functions.Given as goal

abbrev pub invariant-loop-f : goal.invariant-loop-f
invariant-loop-f l =
    gathered_functions l.self (map plain_function (drop l.f-index l.all)) l.to
    ≡ gathered_functions l.self (map plain_function l.all) l.fn.to
