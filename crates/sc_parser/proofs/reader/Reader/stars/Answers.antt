use Rattle.std.proofs.Common.{◌≡◌, ◌∙◌, ap, sym, None}
use Rattle.sc_grammar.proofs.Reading.{got}
use Rattle.sc_grammar.proofs.ReadingExpressions.{one_star}
use Rattle.sc_grammar.proofs.ManyLaws.{many_stop}
use Rattle.sc_parser.proofs.reader.Reader.stars.Goals as goal

pub returns-in_default : goal.returns-in_default
returns-in_default c =
    let ts = c.args.self.now.tokens.now in
    let none : one_star ts c.loop-turn.self.next ≡ got None c.one_star.new.self.next =
    ap (λ b. one_star b.now c.loop-turn.self.next) (sym c.loop-turn.invariant.0) ∙ c.one_star.ensures.reads ∙ ap (λ o. got o c.one_star.new.self.next) c.in_default.is in
    record {
      reads = c.loop-turn.invariant.1 ∙ many_stop c.loop-turn.stars.items one_star c.loop-turn._turn _ ts c.loop-turn.self.next _ c.loop-turn-test.true none ∙ ap (λ s. got s c.one_star.new.self.next) (sym c.from_vec.ensures);
      stays = c.one_star.ensures.stays ∙ c.loop-turn.invariant.0;
    }
