-- The parts of a `for` as plain data.
use Rattle.std.specs.Option.{option_map}
use Rattle.sc_tree.specs.View.{plain}
use Rattle.sc_parser.specs.declared.statements.Parts.{Parts}
use Rattle.sc_grammar.proofs.ReadingStatements.{ForParts}

abbrev pub plain_parts : Parts → ForParts
plain_parts p =
    record { first = option_map plain p.first; test = option_map plain p.test; next = option_map plain p.next }
