use Rattle.std.proofs.Common.{ap, arith}
use Rattle.std.proofs.lemmas.Result.{err_from_is_err_and}
use Rattle.sc_grammar.proofs.ReadingItems.{one_bound}
use Rattle.sc_grammar.proofs.ManyLaws.{turn_refused, in_list}
use Rattle.sc_parser.proofs.reader.Reader.bounds.Goals as goal

pub returns-in_err-bound : goal.returns-in_err-bound
returns-in_err-bound c =
    let p = err_from_is_err_and c.from_residual.result c.from_residual.ensures.1 in
    record { moves = rw p.1 (rw p.2 (turn_refused in_list c.in_err-bound.field-0.0 c.loop-turn.bounds.items (one_bound c.args.levels) c.loop-turn._turn _ c.loop-turn.self.tokens.now c.args.self.now.tokens.now c.loop-turn.self.next _ (ap (λ b. b.now) c.loop-turn.invariant.same) c.loop-turn.invariant.reads (omega arith) c.in_err-bound.ensures.moves)) }
