-- Source orders of the runs of a compiled source, after Shasha and Snir (1988).
use Rattle.std.specs.Prelude.{◌≡◌, ℕ, List, [], reverse}
use Rattle.effect_order.specs.Rules.{IsByRules}
use Rattle.sc_layout.specs.Start.{start}
use Rattle.sc_isa.specs.declared.journal.Entry.{Entry}
use Rattle.sc_meaning.specs.declared.event.SourceEvent.{SourceEvent}
use Rattle.sc_meaning.specs.Source.{processes_of, IsSourceHistory}
use Rattle.sc_meaning.specs.Test.{allowed}
use Rattle.sc_meaning.specs.Whole.{SameOutcome, outcome}
use Rattle.splitc_compile.specs.Compiled.{Parts}
use Rattle.run_moves.specs.OfCode.{machine_of}
use Rattle.source_order.specs.Whole.{IsRun, run_outcome}
use Rattle.source_order.specs.Items.{items, source_order}
use Rattle.source_order.specs.Law.{TakesAll}
use Rattle.source_order.specs.Moments.{does}
use Rattle.source_order.specs.ByRules.{sorted}

-- The journal is that of a whole run of the compiled code under the budget: legal and complete, by some number of
-- instructions within which each node finishes.
abbrev pub IsRunOfCode : Parts → (budget : ℕ) → List Entry → Type 0
IsRunOfCode p budget journal = (many : ℕ) × IsRun (machine_of p.layout p.code budget many) journal

-- the events are the source order of the run
pub record IsOrderOf (p : Parts) (budget : ℕ) (journal : List Entry) (order : List SourceEvent) : Type 0 where
  -- it is the order that the journal defines
  pub is : order ≡ source_order (processes_of p.layout p.core budget) journal
  -- every own step, effect and release of the run once, and nothing else
  pub takes : TakesAll (items (start p.layout) p.layout.nodes (reverse journal)) order
  -- one legal and complete history of the source
  pub history : IsSourceHistory p.layout p.core budget order
  -- with the run's ends, texts and memory, by whatever number of instructions it is whole
  pub same : (many : ℕ) → IsRun (machine_of p.layout p.code budget many) journal
      → SameOutcome p.layout.nodes (run_outcome (machine_of p.layout p.code budget many) journal)
      (outcome (processes_of p.layout p.core budget) order)
  -- each event is the one that the first of the three rules gives that applies
  pub by_rules : IsByRules does (allowed (processes_of p.layout p.core budget))
      (sorted (processes_of p.layout p.core budget) (reverse journal)) [] order
