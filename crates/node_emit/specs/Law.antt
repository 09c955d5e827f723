-- The code theorem, as of a compiler in Leroy (2009): for each plan that waits in time emitted code is sound, carries
-- the flow and the plan, and does what its source does, point for point.
use Rattle.std.specs.Prelude.{◌≡◌, ◌≢◌, ◌⊎◌, ℕ, ◌+◌, ◌<◌, ◌≤◌, ◌==◌, ◌||◌, List, [], ◌∷◌, ◌++◌, Option, Some, None, Bool, true, false, slice_get}
use Rattle.std.specs.List.{list_any}
use Rattle.resumption.specs.Resumption.{RunEnd, Short, RunOf}
use Rattle.sc_base.specs.declared.value.End.{End}
use Rattle.sc_layout.specs.Layout.{Arrangement}
use Rattle.sc_isa.specs.declared.code.Code.{Code}
use Rattle.sc_isa.specs.Begin.{entry}
use Rattle.sc_isa.specs.Sound.{IsSound}
use Rattle.sc_core.specs.Core.{Function, Program}
use Rattle.sc_meaning.specs.Points.{size_of}
use Rattle.sc_meaning.specs.Meaning.{Setting, pointed}
use Rattle.site_graph.specs.declared.plan.Plan.{Plan}
use Rattle.site_graph.specs.Plans.{IsPlan, WaitsInTime}
use Rattle.flow_form.specs.FlowOf.{flow_of}
use Rattle.value_soundness.specs.Laws.{IsLaidSource}
use Rattle.node_emit.specs.Sources.{IsCodeOf}
use Rattle.node_emit.specs.Spelled.{Piece}
use Rattle.node_emit.specs.Pointed.{code_points}
use Rattle.node_emit.specs.Carries.{Carries}
use Rattle.node_emit.specs.Oracles.{Oracle, Shown, Story, at_first, plays, told_at_first, tells}

-- the first list begins the second
abbrev pub IsFront : {A : Type 0} → List A → List A → Type 0
IsFront {A} xs ys = (more : List A) × (ys ≡ xs ++ more)

-- one of the two begins the other: they agree as far as both go
abbrev pub Agree : {A : Type 0} → List A → List A → Type 0
Agree xs ys = IsFront xs ys ⊎ IsFront ys xs

-- the first story begins the second, and where it has ended is it
pub record IsBegun (some whole : Story) : Type 0 where
  pub events : IsFront some.events whole.events
  pub text : IsFront some.text whole.text
  pub over : some.end ≢ Short → some ≡ whole

-- the points with empty runs: Start, and the first of each function, of which the first has the point k
abbrev pub is_first_from : (k : ℕ) → List Function → (point : ℕ) → Bool
is_first_from k [] t = false
is_first_from k (f ∷ more) t = (t == k) || is_first_from (k + size_of f.body + 2) more t

abbrev pub is_empty : Program → (point : ℕ) → Bool
is_empty program t = (t == 0) || is_first_from 1 program.functions t

-- What code does on a node under a budget, beside what its source does. Both under the same oracle; where a value does
-- not fit, the source's story stops at the read, and the code's at the wait.
pub record DoesAsSource (told : Oracle → Story) (played : Oracle → (many : ℕ) → Story) : Type 0 where
  -- where the source's story has an end, the code's is the same, with enough instructions and with any more
  pub whole : (oracle : Oracle) → (told oracle).end ≢ Short → (enough : ℕ)
      × ((many : ℕ) → enough ≤ many → played oracle many ≡ told oracle)
  -- with fewer it begins the source's
  pub begins : (oracle : Oracle) (many : ℕ) → (told oracle).end ≢ Short →
      IsBegun (played oracle many) (told oracle)
  -- and both agree as far as both go
  pub agree : (oracle : Oracle) (many : ℕ) → Agree (played oracle many).events (told oracle).events
  pub texts_agree : (oracle : Oracle) (many : ℕ) → Agree (played oracle many).text (told oracle).text

-- what the source shows the code shows too, with enough instructions
abbrev pub Reaches : (told : Oracle → Story) → (played : Oracle → (many : ℕ) → Story) → Type 0
Reaches told played =
    (oracle : Oracle) → (enough : ℕ) × ((many : ℕ) → enough ≤ many
    → IsFront (told oracle).events (played oracle many).events
    × IsFront (told oracle).text (played oracle many).text)

abbrev pub told_of : Arrangement → Program → (node budget : ℕ) → Oracle → Story
told_of layout program node budget oracle =
    tells oracle (is_empty program) told_at_first
    (pointed (record { layout = layout; node = node; program = program }) budget)

abbrev pub played_of : Arrangement → Program → Plan → Code → List Piece →
    (between : ℕ → ℕ → List ℕ) → (node budget : ℕ) → Oracle → (many : ℕ) → Story
played_of layout program plan code pieces between node budget oracle many =
    plays oracle (is_empty program) at_first (code_points code layout plan pieces between node budget many)

-- what the code of a source is
pub record IsEmitted (layout : Arrangement) (program : Program) (plan : Plan) (code : Code) : Type 0 where
  pub sound : IsSound code layout
  pub carries : Carries code layout (flow_of layout.nodes program) plan
  pub does : (node budget : ℕ) → node < layout.nodes
      → DoesAsSource (told_of layout program node budget)
      (played_of layout program plan code carries.pieces carries.between node budget)
  pub reaches : (node budget : ℕ) → node < layout.nodes
      → Reaches (told_of layout program node budget)
      (played_of layout program plan code carries.pieces carries.between node budget)

-- the node begins in the function with the number that the source says
abbrev pub BeginsInMain : Program → Code → Type 0
BeginsInMain program code = entry code ≡ slice_get code.functions program.main

-- The code theorem, for each plan that waits in time, whatever goes one-way.
abbrev pub CodeTheorem : Type 0
CodeTheorem =
    (layout : Arrangement) (program : Program) (plan : Plan) (code : Code)
    → IsLaidSource layout program → IsPlan (flow_of layout.nodes program) plan
    → WaitsInTime (flow_of layout.nodes program) plan → IsCodeOf plan program code → BeginsInMain program code
    → IsEmitted layout program plan code
