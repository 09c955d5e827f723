use Rattle.std.proofs.Common.{◌≡◌, drop}
use Rattle.sc_isa.specs.Begin.{row_named}
use Rattle.node_machine.proofs.begin.row_named.Given as goal

abbrev pub invariant-loop-number : goal.invariant-loop-number
invariant-loop-number l =
    row_named l.name (drop l.number l.functions) (drop l.number l.names) ≡ row_named l.name l.functions l.names
