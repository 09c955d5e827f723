-- What compiled code and a whole run of it give is all that the source order asks for.
use Rattle.std.proofs.Common.{◌≡◌, ℕ, List, All, refl, sym, subst}
use Rattle.sc_layout.specs.Start.{start}
use Rattle.sc_isa.specs.declared.journal.Entry.{Entry}
use Rattle.sc_meaning.specs.declared.event.SourceEvent.{SourceEvent}
use Rattle.sc_meaning.specs.Source.{processes_of}
use Rattle.splitc_compile.specs.Compiled.{Parts, AreParts}
use Rattle.splitc_compile.proofs.Emitted.{compiled_is_emitted}
use Rattle.run_moves.specs.OfCode.{machine_of}
use Rattle.source_order.specs.Items.{source_order}
use Rattle.code_requests.proofs.Making.{code_accesses_are_placed}
use Rattle.code_requests.proofs.Waiting.{sources_wait_for_answers}
use Rattle.compiled_runs.proofs.Compiled.{compiled_runs_are_ordered}
use Rattle.journal_effects.specs.Numbered.{AreNumbered}
use Rattle.journal_effects.proofs.Placed.{placed_are_numbered}
use Rattle.journal_order.specs.Listed.{IsOn}
use Rattle.journal_order.specs.Ordering.{CanBeOrdered, IsSourceOrder}
use Rattle.run_order.specs.Orderable.{IsOrderable}
use Rattle.run_order.proofs.On.{legal_journals_are_on}
use Rattle.compiled_order.specs.Order.{IsRunOfCode, IsOrderOf}

module _ (p : Parts) (budget : ℕ) (journal : List Entry) (are : AreParts p) (run : IsRunOfCode p budget journal) where
  pub are_on : (given : List Entry) → given ≡ journal → All (IsOn p.layout.nodes) given
  are_on given same =
      subst (All (IsOn p.layout.nodes)) (sym same) (legal_journals_are_on (machine_of p.layout p.code budget run.0) journal run.1.legal)

  pub are_numbered : (given : List Entry) → given ≡ journal → AreNumbered given
  are_numbered given same =
      subst AreNumbered (sym same) (placed_are_numbered (machine_of p.layout p.code budget run.0) p.layout journal run.1.legal are.laid.laid
      (code_accesses_are_placed p.layout p.core p.plan p.code budget run.0 journal (compiled_is_emitted p are) run.1))

  can_be_ordered : CanBeOrdered (processes_of p.layout p.core budget) (machine_of p.layout p.code budget run.0) journal
  can_be_ordered =
      let ordered = compiled_runs_are_ordered p budget run.0 journal are run.1 in
      record {
        waits = sources_wait_for_answers p.layout p.core budget;
        run = run.1;
        made = ordered.made;
        no_cycle = ordered.no_cycle;
      }

  pub is_orderable : (given : List Entry) → given ≡ journal → IsOrderable (start p.layout) p.layout.nodes given
  is_orderable given same =
      subst (IsOrderable (start p.layout) p.layout.nodes) (sym same) (record {
        processes = processes_of p.layout p.core budget;
        machine = machine_of p.layout p.code budget run.0;
        start_is = refl;
        nodes_are = refl;
        can = can_be_ordered;
      })

  -- the source order of the run is one of the compiled source
  pub is_ordered : IsOrderOf p budget journal (source_order (processes_of p.layout p.core budget) journal)
  is_ordered =
      let whole = compiled_runs_are_ordered p budget run.0 journal are run.1 in
      record {
        is = refl;
        takes = whole.ordered.takes;
        history = whole.ordered.history;
        same = λ many other. (compiled_runs_are_ordered p budget many journal are other).ordered.same;
        by_rules = whole.by_rules;
      }

  order_of : (order : List SourceEvent) → IsSourceOrder (start p.layout) p.layout.nodes journal order
      → IsOrderOf p budget journal order
  order_of order so =
      subst (IsOrderOf p budget journal)
      (sym (so (processes_of p.layout p.core budget) (machine_of p.layout p.code budget run.0) refl refl can_be_ordered)) is_ordered

  pub is_order : (given : List Entry) → given ≡ journal → (order : List SourceEvent)
      → IsSourceOrder (start p.layout) p.layout.nodes given order → IsOrderOf p budget journal order
  is_order given same order so =
      order_of order
      (subst (λ (j : List Entry). IsSourceOrder (start p.layout) p.layout.nodes j order) same so)
