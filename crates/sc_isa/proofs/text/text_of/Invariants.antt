use Rattle.std.proofs.Common.{◌≡◌, ◌++◌, drop}
use Rattle.sc_isa.specs.Listing.{lines_from}
use Rattle.sc_isa.proofs.text.text_of.Given as goal

abbrev pub invariant-loop-instr : goal.invariant-loop-instr
invariant-loop-instr l =
    (l.at ≡ l.instr-index)
    × (l.text.items ++ lines_from l.functions l.names l.at (drop l.instr-index l.instrs) ≡ lines_from l.functions l.names 0 l.instrs)
