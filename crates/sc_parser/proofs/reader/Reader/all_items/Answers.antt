use Rattle.std.proofs.Common.{ap, ◌∙◌, arith}
use Rattle.std.specs.Option.{option_map}
use Rattle.sc_parser.specs.declared.whole.TheConstants.{DEPTH}
use Rattle.sc_grammar.proofs.Reading.{got}
use Rattle.sc_grammar.proofs.ReadingItems.{one_more_item}
use Rattle.sc_parser.specs.ViewFound.{plain_found}
use Rattle.sc_parser.specs.ViewItem.{plain_item}
use Rattle.sc_grammar.proofs.WholeLaws.{items_found}
use Rattle.sc_parser.proofs.reader.Reader.all_items.Goals as goal

pub loop-turn-preserved : goal.loop-turn-preserved
loop-turn-preserved c =
    record {
      same = c.in_ok-more.ensures.moves.stays ∙ c.loop-turn.invariant.same;
      reads = items_found (plain_found c.loop-turn.found) _ (one_more_item DEPTH) c.loop-turn._turn _ c.loop-turn.self.tokens.now _ c.loop-turn.self.next _ (plain_item c.in-Some.more) _
          (ap (λ b. b.now) c.loop-turn.invariant.same) c.loop-turn.invariant.reads (omega arith)
          (c.in_ok-more.ensures.moves.reads ∙ ap (λ o. got (option_map plain_item o) c.one_more_item.new.self.next) c.in-Some.is) c.in_ok-add-2.ensures;
    }
