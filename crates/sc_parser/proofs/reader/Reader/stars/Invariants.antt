use Rattle.std.proofs.Common.{◌≡◌, ◌-◌}
use Rattle.sc_grammar.proofs.Reading.{many_by, with_front}
use Rattle.sc_grammar.proofs.ReadingExpressions.{stars, one_star}
use Rattle.sc_parser.proofs.reader.Reader.stars.Given as goal

abbrev pub invariant-loop-turn : goal.invariant-loop-turn
invariant-loop-turn l = (l.self.tokens ≡ l.fn.self.tokens) × (stars l.fn.self.tokens.now l.fn.self.next ≡ with_front l.stars.items (many_by one_star (l._turn-end - l._turn) l.fn.self.tokens.now l.self.next))
