use Rattle.std.proofs.Common.{◌≡◌, ◌-◌}
use Rattle.sc_grammar.proofs.Reading.{many, many_by, with_front}
use Rattle.sc_grammar.proofs.ReadingItems.{one_bound}
use Rattle.sc_parser.proofs.reader.Reader.bounds.Given as goal

abbrev pub invariant-loop-turn : goal.invariant-loop-turn
invariant-loop-turn l =
    let ts = l.fn.self.tokens.now in
    let found = with_front l.bounds.items (many_by (one_bound l.levels) (l._turn-end - l._turn) ts l.self.next) in
    record {
      same : l.self.tokens ≡ l.fn.self.tokens;
      reads : many (one_bound l.levels) ts l.fn.self.next ≡ found;
    }
