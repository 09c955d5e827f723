use Rattle.std.proofs.Common.{◌≡◌, ◌++◌, drop}
use Rattle.sc_isa.specs.Listing.{headings}
use Rattle.sc_isa.proofs.text.add_headings.Given as goal

abbrev pub invariant-loop-number : goal.invariant-loop-number
invariant-loop-number l =
    l.text.items ++ headings l.at (drop l.number l.functions) (drop l.number l.names) ≡ l.initial.text.items ++ headings l.at l.functions l.names
