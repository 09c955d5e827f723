-- Soundness of values, for sources that are typed: what is well typed does not go wrong, as in Milner, "A theory of
-- type polymorphism in programming" (1978).
use Rattle.std.specs.Prelude.{ℕ, ◌^◌, ◌<◌, List, map, IsSome}
use Rattle.std.specs.List.{All, Contains}
use Rattle.resumption.specs.Resumption.{run_of, follow}
use Rattle.sc_layout.specs.Layout.{Arrangement, IsLayout}
use Rattle.sc_core.specs.Core.{Program}
use Rattle.sc_core.specs.Typed.{IsTyped}
use Rattle.sc_core.specs.Forms.{exposes_of}
use Rattle.sc_meaning.specs.declared.event.SourceEvent.{SourceEvent}
use Rattle.sc_meaning.specs.Asking.{Answer}
use Rattle.sc_meaning.specs.Meaning.{meaning}
use Rattle.sc_meaning.specs.Past.{Processes, effects, answers, run_so_far}
use Rattle.sc_meaning.specs.History.{Legal}
use Rattle.sc_meaning.specs.Source.{processes_of}
use Rattle.value_soundness.specs.Lawful.{RunsLawfully, AnswerNamesOnly, IsLawfulEffect}

-- a typed source, whose objects are laid out for nodes that 32 bits count
pub record IsLaidSource (layout : Arrangement) (program : Program) : Type 0 where
  pub laid : IsLayout layout
  pub few_nodes : layout.nodes < 2 ^ 32
  pub typed : IsTyped (map (λ object. object.shape) layout.objects) program

-- Under answers whose pointers name exposed objects only, each node's run is lawful; so it is with any more objects
-- taken as exposed, as all are where answers may name whatever fits. An answer that does not fit its cell is no answer
-- to a run.
abbrev pub RunsAreLawful : Type 0
RunsAreLawful =
    (layout : Arrangement) (program : Program) (exposed : List ℕ) (node budget : ℕ) (given : List Answer)
    → IsLaidSource layout program → node < layout.nodes → All (Contains exposed) (exposes_of program)
    → All (AnswerNamesOnly exposed) given
    → RunsLawfully layout exposed
    (run_of (meaning (record { layout = layout; node = node; program = program }) budget) given)

-- what a past shows of a node is lawful: each answer was asked for and fits, its pointers name exposed objects only,
-- and the node's run is lawful
pub record ShowsLawfully (layout : Arrangement) (exposed : List ℕ) (processes : Processes) (node : ℕ)
    (past : List SourceEvent) : Type 0 where
  pub fits : IsSome (follow (processes.starts node) (answers processes node past))
  pub names : All (AnswerNamesOnly exposed) (answers processes node past)
  pub run : RunsLawfully layout exposed (run_so_far processes node past)

-- a past is lawful: each effect on a cell, and what is shown of each node
pub record IsLawfulPast (layout : Arrangement) (exposed : List ℕ) (processes : Processes)
    (past : List SourceEvent) : Type 0 where
  pub effects : All (IsLawfulEffect layout exposed) (effects past)
  pub nodes : (node : ℕ) → node < processes.nodes → ShowsLawfully layout exposed processes node past

-- every legal history of a typed source is lawful
abbrev pub LegalPastsAreLawful : Type 0
LegalPastsAreLawful =
    (layout : Arrangement) (program : Program) (budget : ℕ) (past : List SourceEvent)
    → IsLaidSource layout program → Legal (processes_of layout program budget) past
    → IsLawfulPast layout (exposes_of program) (processes_of layout program budget) past
