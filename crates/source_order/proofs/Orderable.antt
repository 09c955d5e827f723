-- The items of a run of a processes can be ordered.
use Rattle.std.proofs.Common.{◌<◌, List, reverse, sym, subst}
use Rattle.sc_meaning.specs.Past.{Processes}
use Rattle.sc_isa.specs.declared.journal.Entry.{Entry}
use Rattle.fabric.specs.Access.{any_track}
use Rattle.fabric.specs.Asked.{Machine}
use Rattle.fabric.specs.Wired.{Wired, AllDone}
use Rattle.source_order.specs.Whole.{IsRun}
use Rattle.source_order.specs.Made.{IsMade}
use Rattle.source_order.specs.Story.{ItemsAreOrderable}
use Rattle.source_order.proofs.Distinct.{items_distinct}
use Rattle.source_order.proofs.Shown.{items_in_order, items_shown}
use Rattle.source_order.proofs.Matches.{Known}
use Rattle.sc_meaning.specs.Answering.{AllWaitForAnswers}
use Rattle.source_order.proofs.Exactly.{allowed_is}

pub known_run : (processes : Processes) (machine : Machine) (journal : List Entry) → AllWaitForAnswers processes → IsRun machine journal → IsMade processes machine (reverse journal) → Known processes (reverse journal)
known_run processes machine journal w r m = record {
  waits = w;
  wired = subst (λ s. Wired s processes.nodes (reverse journal)) m.start (subst (λ n. Wired machine.start n (reverse journal)) m.nodes r.legal.wired);
  all_finished = λ p n. r.complete.all_finished p (subst (λ u. p < u) (sym m.nodes) n);
  all_occurred = λ p n. subst (λ s. AllDone s (reverse journal) any_track p) m.start (subst (λ u. AllDone machine.start (reverse journal) any_track p) m.nodes (r.complete.all_occurred p (subst (λ u. p < u) (sym m.nodes) n)));
  no_stored_read = λ p n. (m.each p n).no_stored_read;
  requests = λ p n. (m.each p n).requests;
  end = λ p n. (m.each p n).end;
}

pub items_are_orderable : ItemsAreOrderable
items_are_orderable processes machine journal w r m none =
    let k = known_run processes machine journal w r m in
    record {
      no_cycle = none;
      distinct = items_distinct processes.start processes.nodes (reverse journal) k.wired;
      in_order = items_in_order processes.start processes.nodes (reverse journal) k.wired;
      shows = items_shown processes.start processes.nodes (reverse journal) k.wired;
      allowed_is = allowed_is processes (reverse journal) k;
    }
