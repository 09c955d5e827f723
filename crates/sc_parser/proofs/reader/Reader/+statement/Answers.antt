use Rattle.sc_tree.specs.ViewStmt.{plain_stmt}
use Rattle.sc_grammar.proofs.ReadingStatements.{statement_by}
use Rattle.sc_parser.proofs.ArmsEnd.{moves_at_end, moves_at_stop}
use Rattle.sc_parser.proofs.ReadingSteps.{gives_then, here_moves}
use Rattle.sc_parser.proofs.StatementLaws.{gives_statement}
use Rattle.sc_parser.proofs.reader.Reader.+statement.Goals as goal
use Rattle.sc_parser.proofs.reader.Reader.+statement.Goals.{if_after-else-loop-turn-test, if_after-then-loop-turn-test+then-not-takes_word}

pub if_after-returns : goal.if_after-returns
if_after-returns t c =
    elim c.loop-turn-test.branch [
      | if_after-else-loop-turn-test w ↦ rw w.self-is (record { moves = moves_at_end _ _ _ _ _ c.loop-turn.invariant.same c.loop-turn.invariant.reads w.loop-turn-test.false })
      | if_after-then-loop-turn-test+then-not-takes_word w ↦ rw w.self-is (record { moves = moves_at_stop _ _ _ _ _ c.loop-turn.invariant.same c.loop-turn.invariant.reads w.loop-turn-test.true w.if-not-takes_word.ensures })
    ]

pub statement-returns : goal.statement-returns
unfolding statement_by
statement-returns t c =
    record {
      moves = gives_statement plain_stmt _ _ _ _ c.if-levels-eq0.false (gives_then _ _ _ _ (here_moves c.here-start.ensures) (gives_then _ _ _ _ c.if-takes_mark.ensures (gives_then _ _ _ _ c.if-takes_mark-2.ensures (gives_then _ _ _ _ c.if-takes_word.ensures c.by_loop_word.ensures.moves))));
    }
