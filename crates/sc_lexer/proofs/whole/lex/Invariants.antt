use Rattle.std.proofs.Common.{◌-◌, length, List}
use Rattle.sc_lexer.specs.declared.element.Element.{Element}
use Rattle.sc_lexer.specs.Text.{start, Reaches}
use Rattle.sc_lexer.proofs.StepLaws.{IsInBounds}
use Rattle.sc_lexer.proofs.whole.lex.Given as goal

-- the elements so far lead to the scan
abbrev pub invariant-loop-scan : goal.invariant-loop-scan
invariant-loop-scan l = record { bounds : IsInBounds l.source l.scan; reached : (es : List Element) × Reaches l.source start es l.scan }

abbrev pub decreases-loop-scan : goal.decreases-loop-scan
decreases-loop-scan l = length l.source - l.scan.at
