use Rattle.std.proofs.Common.{◌≡◌, ◌+◌, drop}
use Rattle.sc_core.specs.Lowering.{main_in}
use Rattle.core_lower.proofs.lowering.main_in.Given as goal

abbrev pub invariant-loop-name : goal.invariant-loop-name
invariant-loop-name l = record {
  number : l.number ≡ l.name-index;
  main : l.number + main_in (drop l.name-index l.names) ≡ main_in l.names;
}
