use Rattle.std.proofs.Common.{◌≡◌, ◌++◌, drop, map}
use Rattle.std.specs.Option.{option_map}
use Rattle.sc_tree.specs.View.{plain, plain_link, plain_tail, expressions_of, links_of, tails_of}
use Rattle.sc_typing.specs.Typing.{nothing_gathered}
use Rattle.sc_operators.specs.ViewChains.{seen_linked, seen_gathered}
use Rattle.sc_operators.specs.ViewTails.{seen_tailing}
use Rattle.sc_judge.specs.ViewSight.{linked_in, gathered_in, tailed_in, arguments_in, seen_all}
use Rattle.sc_judge.specs.ViewSight.{links_noted_in, operands_noted_in, tails_noted_in, arguments_noted_in}
use Rattle.sc_judge.proofs.expressions.Sight.+value.Given as goal

abbrev pub invariant-links-loop-link : goal.invariant-links-loop-link
invariant-links-loop-link l = record {
  judged : linked_in l.self (option_map seen_linked l.all) (links_of (map plain_link (drop l.link-index l.rest)))
      ≡ linked_in l.self (option_map seen_linked l.initial.all) (links_of (map plain_link l.rest));
  noted : links_noted_in l.self (option_map seen_linked l.all)
      (links_of (map plain_link (drop l.link-index l.rest))) l.notes
      ≡ links_noted_in l.self (option_map seen_linked l.initial.all) (links_of (map plain_link l.rest)) l.fn.notes;
}

abbrev pub invariant-operands-loop-e : goal.invariant-operands-loop-e
invariant-operands-loop-e l = record {
  judged : gathered_in l.self (seen_gathered l.gathered) (expressions_of (map plain (drop l.e-index l.all)))
      ≡ gathered_in l.self nothing_gathered (expressions_of (map plain l.all));
  noted : operands_noted_in l.self (expressions_of (map plain (drop l.e-index l.all))) l.notes
      ≡ operands_noted_in l.self (expressions_of (map plain l.all)) l.fn.notes;
}

abbrev pub invariant-tails-loop-tail : goal.invariant-tails-loop-tail
invariant-tails-loop-tail l = record {
  judged : tailed_in l.self (seen_tailing l.all) (tails_of (map plain_tail (drop l.tail-index l.rest)))
      ≡ tailed_in l.self (seen_tailing l.initial.all) (tails_of (map plain_tail l.rest));
  noted : tails_noted_in l.self (seen_tailing l.all) (tails_of (map plain_tail (drop l.tail-index l.rest))) l.notes
      ≡ tails_noted_in l.self (seen_tailing l.initial.all) (tails_of (map plain_tail l.rest)) l.fn.notes;
}

abbrev pub invariant-arguments-loop-e : goal.invariant-arguments-loop-e
invariant-arguments-loop-e l = record {
  judged : seen_all l.made ++ arguments_in l.self (expressions_of (map plain (drop l.e-index l.all)))
      ≡ arguments_in l.self (expressions_of (map plain l.all));
  noted : arguments_noted_in l.self (expressions_of (map plain (drop l.e-index l.all))) l.notes
      ≡ arguments_noted_in l.self (expressions_of (map plain l.all)) l.fn.notes;
}
