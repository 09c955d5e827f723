use Rattle.std.proofs.Common.{◌≡◌, ◌+◌, ◌-◌, ◌*◌, map}
use Rattle.sc_tree.specs.View.{plain, plain_link, plain_tail}
use Rattle.sc_grammar.proofs.Reading.{many, many_by, with_front}
use Rattle.sc_grammar.proofs.ReadingExpressions.{assigned, unary, level_by, one_link, one_operand, one_tail, one_more_argument, arguments}
use Rattle.sc_parser.proofs.reader.Reader.+expression.Given as goal

abbrev pub decreases-assigned : goal.decreases-assigned
decreases-assigned l = 64 * l.levels

abbrev pub decreases-branched : goal.decreases-branched
decreases-branched l = 64 * l.levels

abbrev pub decreases-argument : goal.decreases-argument
decreases-argument l = 64 * l.levels + 1

abbrev pub decreases-arguments : goal.decreases-arguments
decreases-arguments l = 64 * l.levels + 3

abbrev pub decreases-after_name : goal.decreases-after_name
decreases-after_name l = 64 * l.levels + 4

abbrev pub decreases-plain_primary : goal.decreases-plain_primary
decreases-plain_primary l = 64 * l.levels + 5

abbrev pub decreases-one_tail : goal.decreases-one_tail
decreases-one_tail l = 64 * l.levels + 1

abbrev pub decreases-with_tails : goal.decreases-with_tails
decreases-with_tails l = 64 * l.levels + 2

abbrev pub decreases-parenthesis_after : goal.decreases-parenthesis_after
decreases-parenthesis_after l = 64 * l.levels + 3

abbrev pub decreases-prefix_after : goal.decreases-prefix_after
decreases-prefix_after l = 64 * l.levels + 7

abbrev pub decreases-cast_after : goal.decreases-cast_after
decreases-cast_after l = 64 * l.levels + 7

abbrev pub decreases-unary : goal.decreases-unary
decreases-unary l = 64 * l.levels + 6

abbrev pub decreases-level : goal.decreases-level
decreases-level l = 64 * l.levels + 3 * l.level + 7

abbrev pub decreases-one_link : goal.decreases-one_link
decreases-one_link l = 64 * l.levels + 3 * l.level + 8

abbrev pub decreases-with_links : goal.decreases-with_links
decreases-with_links l = 64 * l.levels + 3 * l.level + 9

abbrev pub decreases-one_operand : goal.decreases-one_operand
decreases-one_operand l = 64 * l.levels + 3 * l.level + 8

abbrev pub decreases-one_more_argument : goal.decreases-one_more_argument
decreases-one_more_argument l = 64 * l.levels + 2

abbrev pub decreases-with_operands : goal.decreases-with_operands
decreases-with_operands l = 64 * l.levels + 3 * l.level + 9

abbrev pub decreases-choice_after : goal.decreases-choice_after
decreases-choice_after l = 64 * l.levels + 1

abbrev pub decreases-cond : goal.decreases-cond
decreases-cond l = 64 * l.levels + 38

abbrev pub invariant-with_links-loop-turn : goal.invariant-with_links-loop-turn
invariant-with_links-loop-turn l = (l.self.tokens ≡ l.fn.self.tokens) × (many (one_link (level_by (unary l.levels) l.level) l.level) l.fn.self.tokens.now l.fn.self.next ≡ with_front (map plain_link l.links) (many_by (one_link (level_by (unary l.levels) l.level) l.level) (l._turn-end - l._turn) l.fn.self.tokens.now l.self.next))

abbrev pub invariant-with_operands-loop-turn : goal.invariant-with_operands-loop-turn
invariant-with_operands-loop-turn l = (l.self.tokens ≡ l.fn.self.tokens) × (many (one_operand (level_by (unary l.levels) l.level) l.level) l.fn.self.tokens.now l.fn.self.next ≡ with_front (map plain l.operands) (many_by (one_operand (level_by (unary l.levels) l.level) l.level) (l._turn-end - l._turn) l.fn.self.tokens.now l.self.next))

abbrev pub invariant-with_tails-loop-turn : goal.invariant-with_tails-loop-turn
invariant-with_tails-loop-turn l = (l.self.tokens ≡ l.fn.self.tokens) × (many (one_tail (assigned l.levels)) l.fn.self.tokens.now l.fn.self.next ≡ with_front (map plain_tail l.tails) (many_by (one_tail (assigned l.levels)) (l._turn-end - l._turn) l.fn.self.tokens.now l.self.next))

abbrev pub invariant-arguments-loop-turn : goal.invariant-arguments-loop-turn
invariant-arguments-loop-turn l = (l.self.tokens ≡ l.fn.self.tokens) × (arguments (assigned l.levels) l.fn.self.tokens.now l.fn.self.next ≡ with_front (map plain l.all) (many_by (one_more_argument (assigned l.levels)) (l._turn-end - l._turn) l.fn.self.tokens.now l.self.next))
