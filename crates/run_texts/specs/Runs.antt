-- What the run of a compiled source by a seed's picks shows: the outcome of one complete history of the source, which
-- is the run's own journal put in the order of the source, after Shasha and Snir (1988).
use Rattle.std.specs.Prelude.{◌≡◌, ℕ, ◌≤◌, List, Bool}
use Rattle.sc_isa.specs.declared.journal.Entry.{Entry}
use Rattle.sc_meaning.specs.declared.event.SourceEvent.{SourceEvent}
use Rattle.sc_meaning.specs.Source.{processes_of}
use Rattle.sc_meaning.specs.Whole.{Outcome, outcome}
use Rattle.splitc_compile.specs.Compiled.{Parts}
use Rattle.run_moves.specs.OfCode.{machine_of}
use Rattle.run_moves.specs.Simulated.{IsSimulation}
use Rattle.source_order.specs.Whole.{IsRun}
use Rattle.compiled_order.specs.Order.{IsOrderOf}
use Rattle.code_sim.specs.Picks.{seed_word}
use Rattle.run_report.specs.Report.{report}
use Rattle.run_report.specs.Status.{status_of}
use Rattle.run_report.specs.declared.status.Status.{Status}
use Rattle.history_report.specs.History.{history_text}

-- the journal is that of the run by the seed's picks, from some number of instructions on
pub record IsJournalOf (p : Parts) (seed budget : ℕ) (journal : List Entry) : Type 0 where
  pub many : ℕ
  pub simulated : (more : ℕ) → many ≤ more
      → IsSimulation (machine_of p.layout p.code budget more) (seed_word seed) journal
  pub whole : (more : ℕ) → many ≤ more → IsRun (machine_of p.layout p.code budget more) journal

-- The history is the source order of that run: legal and complete, with the run's ends, texts and memory.
pub record IsHistoryOf (p : Parts) (seed budget : ℕ) (history : List SourceEvent) : Type 0 where
  pub journal : List Entry
  pub of_run : IsJournalOf p seed budget journal
  pub order : IsOrderOf p budget journal history

-- what a history of the source shows in the end
abbrev pub shown : Parts → (budget : ℕ) → List SourceEvent → Outcome
shown p budget history = outcome (processes_of p.layout p.core budget) history

-- The text is the report of what such a history shows, with the cells where they are asked for.
pub record IsReportOf (p : Parts) (seed budget : ℕ) (memory : Bool) (text : List ℕ) (status : Status) : Type 0 where
  pub history : List SourceEvent
  pub is_history : IsHistoryOf p seed budget history
  pub text_is : text ≡ report p.names p.layout (shown p budget history).ends (shown p budget history).texts
      (shown p budget history).memory memory
  pub status_is : status ≡ status_of p.layout.nodes (shown p budget history).ends

-- The text has the lines of such a history.
pub record IsExplanationOf (p : Parts) (seed budget : ℕ) (text : List ℕ) : Type 0 where
  pub history : List SourceEvent
  pub is_history : IsHistoryOf p seed budget history
  pub text_is : text ≡ history_text p.names p.layout history
