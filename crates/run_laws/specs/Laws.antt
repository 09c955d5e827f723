-- Runs of the code of a source. A run that picks make is whole; where the code waits directly behind each access, what
-- has to come before what has no cycle, after Shasha and Snir (1988), and the source order of each whole run is one
-- whole history of the source.
use Rattle.std.specs.Prelude.{◌≡◌, ◌↔◌, ℕ, ◌≤◌, List, [], reverse}
use Rattle.effect_order.specs.Rules.{IsByRules}
use Rattle.sc_layout.specs.Layout.{Arrangement}
use Rattle.sc_layout.specs.Start.{start}
use Rattle.sc_isa.specs.declared.code.Code.{Code}
use Rattle.sc_isa.specs.declared.journal.Entry.{Entry}
use Rattle.sc_isa.specs.Sound.{IsSound}
use Rattle.sc_core.specs.Core.{Program}
use Rattle.sc_meaning.specs.Source.{processes_of}
use Rattle.sc_meaning.specs.Test.{allowed}
use Rattle.site_graph.specs.declared.plan.Plan.{Plan}
use Rattle.site_graph.specs.Graph.{Graph}
use Rattle.site_graph.specs.Plans.{IsPlainPlan}
use Rattle.flow_form.specs.FlowOf.{flow_of}
use Rattle.value_soundness.specs.Laws.{IsLaidSource}
use Rattle.node_emit.specs.Carries.{Carries}
use Rattle.node_emit.specs.Law.{IsEmitted}
use Rattle.fabric.specs.Legal.{IsLegalJournal}
use Rattle.run_moves.specs.Simulated.{IsSimulation}
use Rattle.source_order.specs.Whole.{IsRun}
use Rattle.source_order.specs.Made.{IsMade}
use Rattle.source_order.specs.Moments.{does}
use Rattle.source_order.specs.Items.{source_order}
use Rattle.source_order.specs.ByRules.{sorted}
use Rattle.source_order.specs.Needs.{NoCycle}
use Rattle.source_order.specs.Law.{IsPlain, IsOrdered}
use Rattle.run_moves.specs.OfCode.{machine_of}

-- it holds of every number of instructions from some number on
abbrev pub FromSomeNumberOn : (ℕ → Type 0) → Type 0
FromSomeNumberOn Holds = (enough : ℕ) × ((many : ℕ) → enough ≤ many → Holds many)

-- ---- runs by picks

-- The journal of the code's run by these picks: of each machine that does enough instructions it is the simulated one.
abbrev pub IsSimulationOf : Arrangement → Code → (budget : ℕ) → (picks : ℕ → ℕ) → List Entry → Type 0
IsSimulationOf layout code budget picks journal =
    FromSomeNumberOn (λ many. IsSimulation (machine_of layout code budget many) picks journal)

-- With enough instructions each simulated journal of sound code is legal and complete. The number is the same for all
-- picks and journals: it comes of the code, the layout and the budget.
abbrev pub CodeRunsAreWhole : Type 0
CodeRunsAreWhole =
    (layout : Arrangement) (code : Code) (budget : ℕ) → IsSound code layout
    → FromSomeNumberOn (λ many. (picks : ℕ → ℕ) (journal : List Entry)
    → IsSimulation (machine_of layout code budget many) picks journal
    → IsRun (machine_of layout code budget many) journal)

-- With more instructions the simulated journals of sound code are the same.
abbrev pub SimulationsSettle : Type 0
SimulationsSettle =
    (layout : Arrangement) (code : Code) (budget : ℕ) → IsSound code layout
    → FromSomeNumberOn (λ many. (picks : ℕ → ℕ) (journal : List Entry)
    → IsSimulation (machine_of layout code budget many) picks journal
    ↔ IsSimulationOf layout code budget picks journal)

-- The picks determine the journal of the code's run.
abbrev pub PicksDetermineTheCodeRun : Type 0
PicksDetermineTheCodeRun =
    (layout : Arrangement) (code : Code) (budget : ℕ) (picks : ℕ → ℕ) (one other : List Entry)
    → IsSimulationOf layout code budget picks one → IsSimulationOf layout code budget picks other → one ≡ other

-- ---- plain code

-- Code that waits at each point for the blocking sites from whose points an edge leads there: in each legal journal the
-- blocking accesses of a node are over before its next request.
abbrev pub PlainCodeRunsPlainly : Type 0
PlainCodeRunsPlainly =
    (layout : Arrangement) (code : Code) (graph : Graph) (plan : Plan) (budget many : ℕ) (journal : List Entry)
    → Carries code layout graph plan → IsPlainPlan graph plan
    → IsLegalJournal (machine_of layout code budget many) journal
    → IsPlain (start layout) layout.nodes (reverse journal)

-- So what has to come before what has no cycle in a whole run of such code.
abbrev pub PlainCodeRunsHaveNoCycle : Type 0
PlainCodeRunsHaveNoCycle =
    (layout : Arrangement) (code : Code) (graph : Graph) (plan : Plan) (budget many : ℕ) (journal : List Entry)
    → Carries code layout graph plan → IsPlainPlan graph plan → IsRun (machine_of layout code budget many) journal
    → NoCycle (start layout) layout.nodes (reverse journal)

-- ---- the order of whole runs

-- A whole run of the code has its source order: every step, effect and release once, one whole history of the source,
-- with the run's ends, texts and memory. It is the order by the three rules, and can be made by edges: nodes made the
-- requests of their source, and what has to come before what has no cycle.
pub record IsOrderedRun (layout : Arrangement) (program : Program) (code : Code) (budget : ℕ) (journal : List Entry)
    (many : ℕ) : Type 0 where
  pub run : IsRun (machine_of layout code budget many) journal
  pub made : IsMade (processes_of layout program budget) (machine_of layout code budget many) (reverse journal)
  pub no_cycle : NoCycle (start layout) layout.nodes (reverse journal)
  pub ordered : IsOrdered (processes_of layout program budget) (machine_of layout code budget many) journal
  pub by_rules : IsByRules does (allowed (processes_of layout program budget))
      (sorted (processes_of layout program budget) (reverse journal)) []
      (source_order (processes_of layout program budget) journal)

-- So it is for each whole run of the code of a source by a plain plan, whichever moves it took and by whatever number
-- of instructions it is whole.
abbrev pub PlainRunsAreOrdered : Type 0
PlainRunsAreOrdered =
    (layout : Arrangement) (program : Program) (plan : Plan) (code : Code) (budget many : ℕ) (journal : List Entry)
    → IsLaidSource layout program → IsEmitted layout program plan code
    → IsPlainPlan (flow_of layout.nodes program) plan
    → IsRun (machine_of layout code budget many) journal → IsOrderedRun layout program code budget journal many

-- And for the run that picks make.
abbrev pub SimulatedRunsAreOrdered : Type 0
SimulatedRunsAreOrdered =
    (layout : Arrangement) (program : Program) (plan : Plan) (code : Code) (budget : ℕ) (picks : ℕ → ℕ)
    (journal : List Entry)
    → IsLaidSource layout program → IsEmitted layout program plan code
    → IsPlainPlan (flow_of layout.nodes program) plan
    → IsSimulationOf layout code budget picks journal
    → FromSomeNumberOn (IsOrderedRun layout program code budget journal)
