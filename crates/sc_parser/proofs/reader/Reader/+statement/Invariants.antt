use Rattle.std.proofs.Common.{◌≡◌, ◌+◌, ◌-◌, ◌*◌, map}
use Rattle.sc_tree.specs.ViewStmt.{plain_stmt, plain_arm}
use Rattle.sc_tree.specs.declared.token.Mark.TheVariants as marks
use Rattle.sc_grammar.proofs.Reading.{got, and_then, mark, many_by, with_front}
use Rattle.sc_grammar.proofs.ReadingExpressions.{assigned}
use Rattle.sc_grammar.proofs.ReadingStatements.{statement, block_after, one_part, if_after, elses_by}
use Rattle.sc_grammar.proofs.ElsesLaws.{with_arms, if_all}
use Rattle.sc_parser.proofs.reader.Reader.+statement.Given as goal

abbrev pub decreases-statement : goal.decreases-statement
decreases-statement l = 8 * l.levels

abbrev pub decreases-inner : goal.decreases-inner
decreases-inner l = 8 * l.levels + 1

abbrev pub decreases-one_part : goal.decreases-one_part
decreases-one_part l = 8 * l.levels + 1

abbrev pub decreases-block_after : goal.decreases-block_after
decreases-block_after l = 8 * l.levels + 2

abbrev pub decreases-arm_after : goal.decreases-arm_after
decreases-arm_after l = 8 * l.levels + 1

abbrev pub decreases-if_after : goal.decreases-if_after
decreases-if_after l = 8 * l.levels + 2

abbrev pub decreases-while_after : goal.decreases-while_after
decreases-while_after l = 8 * l.levels + 2

abbrev pub decreases-do_after : goal.decreases-do_after
decreases-do_after l = 8 * l.levels + 2

abbrev pub decreases-for_after : goal.decreases-for_after
decreases-for_after l = 8 * l.levels + 2

abbrev pub decreases-for_mine_after : goal.decreases-for_mine_after
decreases-for_mine_after l = 8 * l.levels + 2

abbrev pub decreases-by_loop_word : goal.decreases-by_loop_word
decreases-by_loop_word l = 8 * l.levels + 3

abbrev pub invariant-block_after-loop-turn : goal.invariant-block_after-loop-turn
invariant-block_after-loop-turn l =
    let ts = l.fn.self.tokens.now in
    let part = one_part (assigned l.levels) (statement l.levels) in
    let found = with_front (map plain_stmt l.all) (many_by part (l._turn-end - l._turn) ts l.self.next) in
    record {
      same : l.self.tokens ≡ l.fn.self.tokens;
      reads : block_after (assigned l.levels) (statement l.levels) ts l.fn.self.next ≡ and_then found (λ ss m. and_then (mark marks.CloseCurly ts m) (λ _ k. got ss k));
    }

abbrev pub invariant-if_after-loop-turn : goal.invariant-if_after-loop-turn
invariant-if_after-loop-turn l =
    let ts = l.fn.self.tokens.now in
    let left = elses_by (assigned l.levels) (statement l.levels) (l._turn-end - l._turn) ts l.self.next in
    record {
      same : l.self.tokens ≡ l.fn.self.tokens;
      reads : if_after (assigned l.levels) (statement l.levels) ts l.fn.self.next ≡ if_all (with_arms (map plain_arm l.arms) left);
    }
