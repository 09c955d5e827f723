-- Runs of compiled sources: each has its source order, after Shasha and Snir (1988). Nothing is asked but that the
-- parts are those of a compiled source, and that the journal is one of its code.
use Rattle.std.specs.Prelude.{ℕ, List}
use Rattle.sc_isa.specs.declared.journal.Entry.{Entry}
use Rattle.splitc_compile.specs.Compiled.{Parts, AreParts}
use Rattle.source_order.specs.Whole.{IsRun}
use Rattle.run_moves.specs.OfCode.{machine_of}
use Rattle.run_laws.specs.Laws.{FromSomeNumberOn, IsSimulationOf, IsOrderedRun}

-- each whole run of the code of a compiled source, whichever moves it took
abbrev pub CompiledRunsAreOrdered : Type 0
CompiledRunsAreOrdered =
    (p : Parts) (budget many : ℕ) (journal : List Entry) → AreParts p
    → IsRun (machine_of p.layout p.code budget many) journal
    → IsOrderedRun p.layout p.core p.code budget journal many

-- and the run that picks make
abbrev pub CompiledSimulationsAreOrdered : Type 0
CompiledSimulationsAreOrdered =
    (p : Parts) (budget : ℕ) (picks : ℕ → ℕ) (journal : List Entry) → AreParts p
    → IsSimulationOf p.layout p.code budget picks journal
    → FromSomeNumberOn (IsOrderedRun p.layout p.core p.code budget journal)
