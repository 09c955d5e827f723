-- The objects and functions that the code found as plain data.
use Rattle.std.specs.Prelude.{map}
use Rattle.sc_tree.specs.ViewTree.{plain_function}
use Rattle.sc_grammar.proofs.ReadingWhole.{Sorted}
use Rattle.sc_parser.specs.declared.whole.Found.{Found}

abbrev pub plain_found : Found → Sorted
plain_found f = record { objects = f.objects; functions = map plain_function f.functions }
