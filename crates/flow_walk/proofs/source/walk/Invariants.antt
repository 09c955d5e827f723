use Rattle.std.proofs.Common.{◌≡◌, map, drop}
use Rattle.sc_core.specs.ViewStatements.{plain_function, plain_program}
use Rattle.flow_walk.specs.Sources.{walk_functions, walk_source}
use Rattle.flow_walk.proofs.source.walk.Given as goal

abbrev pub invariant-loop-i : goal.invariant-loop-i
invariant-loop-i l =
    walk_functions l.entries l.nodes l.i (map plain_function (drop l.i l.functions)) l.walk
    ≡ walk_source l.entries l.nodes (plain_program l.program)
