use Rattle.std.proofs.Common.{◌≡◌, ◌-◌}
use Rattle.sc_tree.specs.declared.token.Mark.TheVariants as marks
use Rattle.sc_grammar.specs.Items.{objects}
use Rattle.sc_grammar.proofs.Reading.{got, and_then, mark, many_by, with_front}
use Rattle.sc_grammar.proofs.ReadingItems.{objects_after, one_more_declarator}
use Rattle.sc_parser.proofs.reader.Reader.objects_after.Given as goal

abbrev pub invariant-loop-turn : goal.invariant-loop-turn
invariant-loop-turn l =
    let ts = l.fn.self.tokens.now in
    let found = with_front l.objects (many_by (one_more_declarator l.levels) (l._turn-end - l._turn) ts l.self.next) in
    record {
      same : l.self.tokens ≡ l.fn.self.tokens;
      reads : objects_after l.levels l.fn.stars l.fn.own l.fn.name ts l.fn.self.next ≡ and_then found (λ ss m. and_then (mark marks.Semicolon ts m) (λ _ k. got (objects ss) k));
    }
