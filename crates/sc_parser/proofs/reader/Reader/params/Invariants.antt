use Rattle.std.proofs.Common.{◌≡◌, ◌-◌}
use Rattle.sc_grammar.proofs.Reading.{got, and_then, many_by, with_front}
use Rattle.sc_grammar.proofs.ReadingItems.{params, one_more_param}
use Rattle.sc_parser.proofs.reader.Reader.params.Given as goal

abbrev pub invariant-loop-turn : goal.invariant-loop-turn
invariant-loop-turn l =
    let ts = l.fn.self.tokens.now in
    let found = with_front l.params (many_by (one_more_param 0) (l._turn-end - l._turn) ts l.self.next) in
    record {
      same : l.self.tokens ≡ l.fn.self.tokens;
      reads : params 0 ts l.fn.self.next ≡ and_then found (λ qs m. got qs m);
    }
