-- What a run by a seed's picks leaves is what one complete history of the source shows.
use Rattle.std.proofs.Common.{◌≡◌, ◌⊎◌, ⊎_elim, ℕ, ◌<◌, ◌≤◌, List, [], length, reverse, Option, Some, None, Bool, refl, sym, ap, ◌∙◌, subst, arith, le_refl}
use Rattle.std.specs.Prelude.{slice_get, IsSome}
use Rattle.std.specs.Option.{option_map_or}
use Rattle.std.proofs.lemmas.Option.{slice_get_cases}
use Rattle.resumption.specs.Resumption.{RunEnd, Ends}
use Rattle.sc_base.specs.declared.value.End.{End}
use Rattle.sc_base.specs.declared.value.Place.{Place}
use Rattle.sc_layout.specs.Layout.{Arrangement}
use Rattle.sc_layout.specs.Place.{IsPlace}
use Rattle.sc_isa.specs.Run.{Halt, Finish}
use Rattle.sc_isa.specs.declared.journal.Entry.{Entry}
use Rattle.sc_isa.specs.declared.results.NodeResult.{NodeResult}
use Rattle.sc_meaning.specs.declared.event.SourceEvent.{SourceEvent}
use Rattle.sc_meaning.specs.Source.{processes_of}
use Rattle.sc_meaning.specs.Whole.{Outcome, SameOutcome}
use Rattle.splitc_compile.specs.Compiled.{Parts, AreParts}
use Rattle.fabric.specs.Asked.{Machine, run_so_far}
use Rattle.fabric.specs.Barriers.{finished}
use Rattle.fabric.specs.declared.state.Run.{Run}
use Rattle.run_moves.specs.OfCode.{machine_of}
use Rattle.source_order.specs.Items.{source_order}
use Rattle.source_order.specs.Whole.{IsRun, run_outcome}
use Rattle.code_requests.proofs.Stories.{fin_of}
use Rattle.compiled_order.specs.Order.{IsRunOfCode, IsOrderOf}
use Rattle.compiled_order.proofs.Ordered.{is_ordered}
use Rattle.code_sim.specs.Picks.{seed_word}
use Rattle.code_sim.specs.Ran.{IsRunBy}
use Rattle.run_report.specs.Memory.{held_in, value_or_zero}
use Rattle.run_report.specs.Report.{report, ends_in, texts_in}
use Rattle.run_report.specs.Status.{status_of}
use Rattle.run_report.specs.declared.status.Status.{Status}
use Rattle.run_report.proofs.ShownSame.{report_same, status_same}
use Rattle.history_report.specs.History.{history_text}
use Rattle.run_texts.specs.Runs.{IsJournalOf, IsHistoryOf, IsReportOf, IsExplanationOf, shown}
use Rattle.run_texts.specs.Seeds.{IsSeedRun}

-- two ends of one run are one
one_end : (run : RunEnd Halt) (a b : End) → run ≡ Ends (Finish a) → run ≡ Ends (Finish b) → a ≡ b
one_end run a b e f = let x : ◌≡◌ {A = RunEnd Halt} (Ends (Finish a)) (Ends (Finish b)) = sym e ∙ f in cc

module _ (p : Parts) (seed budget : ℕ) (run : Run) (ran : IsSeedRun p seed budget run) where
  abbrev machine : Machine
  machine = machine_of p.layout p.code budget ran.many

  by_seed : IsRunBy machine (seed_word seed) run
  by_seed = ran.from_there ran.many (le_refl ran.many)

  journal_of : IsJournalOf p seed budget run.journal
  journal_of = record {
    many = ran.many;
    simulated = λ more le. (ran.from_there more le).simulation;
    whole = λ more le. let by = ran.from_there more le in record { legal = by.legal; complete = by.complete };
  }

  whole : IsRun machine run.journal
  whole = record { legal = by_seed.legal; complete = by_seed.complete }

  pub of_code : IsRunOfCode p budget run.journal
  of_code = (ran.many, whole)

  -- what the run needs for its report
  pub counted : p.layout.nodes ≡ length run.nodes
  counted = sym by_seed.nodes

  -- ---- what the run leaves is what its journal says

  result_of : (node : ℕ) → node < p.layout.nodes → (result : NodeResult) × (slice_get run.nodes node ≡ Some result)
  result_of node within =
      ⊎_elim (λ found. (found.0, found.2)) (λ past. let n = counted in let le = past.0 in absurd (omega (arith, n, le, within)))
      (slice_get_cases run.nodes node).1

  ends_same : (node : ℕ) → node < p.layout.nodes → ends_in run.nodes node ≡ finished node (reverse run.journal)
  ends_same node within =
      let found = result_of node within in
      ap (λ (o : Option NodeResult). option_map_or (λ n. Some n.end) o None) found.1
      ∙ by_finish found.0 found.1 (finished node (reverse run.journal)) refl (by_seed.complete.all_finished node within)
    where
      by_finish : (result : NodeResult) → slice_get run.nodes node ≡ Some result
          → (o : Option End) → finished node (reverse run.journal) ≡ o → IsSome o
          → Some result.end ≡ finished node (reverse run.journal)
      by_finish result found None is some = absurd (cc)
      by_finish result found (Some end) is some =
          ap Some (one_end (run_so_far machine node (reverse run.journal)).end result.end end
          (by_seed.results node result found).ended
          (fin_of machine node (reverse run.journal) end by_seed.legal.wired by_seed.legal.asked is).ends)
          ∙ sym is

  texts_same : (node : ℕ) → node < p.layout.nodes
      → texts_in run.nodes node ≡ (run_so_far machine node (reverse run.journal)).text
  texts_same node within =
      let found = result_of node within in
      ap (λ (o : Option NodeResult). option_map_or (λ n. n.printed) o []) found.1
      ∙ (by_seed.results node found.0 found.1).printed

  memory_same : (place : Place) → IsPlace p.layout place
      → held_in run.memory place ≡ (run_outcome machine run.journal).memory place
  memory_same place is =
      ap value_or_zero (by_seed.memory place (subst (λ (l : Arrangement). IsPlace l place) (sym ran.laid) is))

  -- ---- and what its history shows

  -- the ends, texts and cells as they are reported
  abbrev left : Outcome
  left = record { ends = ends_in run.nodes; texts = texts_in run.nodes; memory = held_in run.memory }

  module _ (are : AreParts p) where
    abbrev history : List SourceEvent
    history = source_order (processes_of p.layout p.core budget) run.journal

    order : IsOrderOf p budget run.journal history
    order = is_ordered p budget run.journal are of_code

    same : SameOutcome p.layout.nodes (run_outcome machine run.journal) (shown p budget history)
    same = order.same ran.many whole

    is_history : IsHistoryOf p seed budget history
    is_history = record { journal = run.journal; of_run = journal_of; order = order }

    ends_shown : (node : ℕ) → node < p.layout.nodes → left.ends node ≡ (shown p budget history).ends node
    ends_shown node within = ends_same node within ∙ same.ends node within

    pub reported : (memory : Bool) (text : List ℕ) (status : Status)
        → text ≡ report p.names p.layout (ends_in run.nodes) (texts_in run.nodes) (held_in run.memory) memory
        → status ≡ status_of (length run.nodes) (ends_in run.nodes)
        → IsReportOf p seed budget memory text status
    reported memory text status text_is status_is = record {
      history = history;
      is_history = is_history;
      text_is = text_is ∙ report_same p.names p.layout left (shown p budget history) memory are.laid.laid ends_shown
          (λ node within. texts_same node within ∙ same.texts node within)
          (λ place is. memory_same place is ∙ same.memory place);
      status_is = status_is ∙ ap (λ n. status_of n (ends_in run.nodes)) (sym counted)
          ∙ status_same p.layout.nodes left (shown p budget history) ends_shown;
    }

  pub explained : (history : List SourceEvent) (text : List ℕ) → IsOrderOf p budget run.journal history
      → text ≡ history_text p.names p.layout history → IsExplanationOf p seed budget text
  explained history text order text_is = record {
    history = history;
    is_history = record { journal = run.journal; of_run = journal_of; order = order };
    text_is = text_is;
  }
