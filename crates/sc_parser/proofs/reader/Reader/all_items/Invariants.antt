use Rattle.std.proofs.Common.{◌≡◌, ◌-◌}
use Rattle.sc_parser.specs.declared.whole.TheConstants.{DEPTH}
use Rattle.sc_grammar.proofs.Reading.{many_by}
use Rattle.sc_grammar.proofs.ReadingItems.{one_more_item}
use Rattle.sc_grammar.proofs.ReadingWhole.{sorted_items}
use Rattle.sc_parser.specs.ViewFound.{plain_found}
use Rattle.sc_grammar.proofs.WholeLaws.{with_sorted}
use Rattle.sc_parser.proofs.reader.Reader.all_items.Given as goal

abbrev pub invariant-loop-turn : goal.invariant-loop-turn
invariant-loop-turn l =
    let ts = l.fn.self.tokens.now in
    let found = with_sorted (plain_found l.found) (many_by (one_more_item DEPTH) (l._turn-end - l._turn) ts l.self.next) in
    record {
      same : l.self.tokens ≡ l.fn.self.tokens;
      reads : sorted_items DEPTH ts l.fn.self.next ≡ found;
    }
