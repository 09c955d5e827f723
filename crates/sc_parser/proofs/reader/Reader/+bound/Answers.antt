use Rattle.std.proofs.Common.{ap, arith}
use Rattle.std.proofs.lemmas.Result.{err_from_is_err_and}
use Rattle.sc_grammar.proofs.ReadingItems.{bound, one_summand, one_factor}
use Rattle.sc_grammar.proofs.StepsLaws.{in_steps}
use Rattle.sc_grammar.proofs.ManyLaws.{turn_refused}
use Rattle.sc_parser.proofs.reader.Reader.+bound.Goals as goal

pub product-returns-in_err-more : goal.product-returns-in_err-more
product-returns-in_err-more t c =
    let p = err_from_is_err_and c.from_residual-in_err-more.result c.from_residual-in_err-more.ensures.1 in
    record { moves = rw p.1 (rw p.2 (turn_refused in_steps c.in_err-more.field-0.0 c.loop-turn.steps.items (one_factor (bound c.args.levels)) c.loop-turn._turn _ c.loop-turn.self.tokens.now c.args.self.now.tokens.now c.loop-turn.self.next _ (ap (λ b. b.now) c.loop-turn.invariant.same) c.loop-turn.invariant.reads (omega arith) c.in_err-more.ensures.moves)) }

pub sum-returns-in_err-more : goal.sum-returns-in_err-more
sum-returns-in_err-more t c =
    let p = err_from_is_err_and c.from_residual-in_err-more.result c.from_residual-in_err-more.ensures.1 in
    record { moves = rw p.1 (rw p.2 (turn_refused in_steps c.in_err-more.field-0.0 c.loop-turn.steps.items (one_summand (bound c.args.levels)) c.loop-turn._turn _ c.loop-turn.self.tokens.now c.args.self.now.tokens.now c.loop-turn.self.next _ (ap (λ b. b.now) c.loop-turn.invariant.same) c.loop-turn.invariant.reads (omega arith) c.in_err-more.ensures.moves)) }
