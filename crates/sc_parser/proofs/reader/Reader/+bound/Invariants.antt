use Rattle.std.proofs.Common.{◌≡◌, ◌+◌, ◌-◌, ◌*◌}
use Rattle.sc_grammar.proofs.Reading.{many_by}
use Rattle.sc_grammar.proofs.ReadingItems.{bound, sum, product, one_summand, one_factor}
use Rattle.sc_grammar.proofs.StepsLaws.{with_steps}
use Rattle.sc_parser.proofs.reader.Reader.+bound.Given as goal

abbrev pub decreases-bound : goal.decreases-bound
decreases-bound l = 8 * l.levels

abbrev pub decreases-unit : goal.decreases-unit
decreases-unit l = 8 * l.levels + 1

abbrev pub decreases-one_factor : goal.decreases-one_factor
decreases-one_factor l = 8 * l.levels + 2

abbrev pub decreases-product : goal.decreases-product
decreases-product l = 8 * l.levels + 3

abbrev pub decreases-one_summand : goal.decreases-one_summand
decreases-one_summand l = 8 * l.levels + 4

abbrev pub decreases-sum : goal.decreases-sum
decreases-sum l = 8 * l.levels + 5

abbrev pub invariant-sum-loop-turn : goal.invariant-sum-loop-turn
invariant-sum-loop-turn l =
    let ts = l.fn.self.tokens.now in
    let found = with_steps l.steps.items (many_by (one_summand (bound l.levels)) (l._turn-end - l._turn) ts l.self.next) in
    record {
      same : l.self.tokens ≡ l.fn.self.tokens;
      reads : sum (bound l.levels) ts l.fn.self.next ≡ found;
    }

abbrev pub invariant-product-loop-turn : goal.invariant-product-loop-turn
invariant-product-loop-turn l =
    let ts = l.fn.self.tokens.now in
    let found = with_steps l.steps.items (many_by (one_factor (bound l.levels)) (l._turn-end - l._turn) ts l.self.next) in
    record {
      same : l.self.tokens ≡ l.fn.self.tokens;
      reads : product (bound l.levels) ts l.fn.self.next ≡ found;
    }
