use Rattle.std.proofs.Common.{◌≡◌, ◌-◌, map}
use Rattle.sc_tree.specs.ViewStmt.{declared}
use Rattle.sc_tree.specs.PlainStmt.{declare}
use Rattle.sc_tree.specs.declared.token.Mark.TheVariants as marks
use Rattle.sc_grammar.proofs.Reading.{got, and_then, mark, many_by, with_front}
use Rattle.sc_grammar.proofs.ReadingExpressions.{assigned}
use Rattle.sc_grammar.proofs.ReadingStatements.{locals, one_more_local}
use Rattle.sc_parser.proofs.reader.Reader.locals.Given as goal

abbrev pub invariant-loop-turn : goal.invariant-loop-turn
invariant-loop-turn l =
    let ts = l.fn.self.tokens.now in
    let found = with_front (map declared l.locals) (many_by (one_more_local (assigned l.levels)) (l._turn-end - l._turn) ts l.self.next) in
    record {
      same : l.self.tokens ≡ l.fn.self.tokens;
      reads : locals (assigned l.levels) ts l.fn.self.next ≡ and_then found (λ ls m. and_then (mark marks.Semicolon ts m) (λ _ k. got (declare ls) k));
    }
