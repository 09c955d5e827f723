-- Code carries a flow and a plan: it is the runs of the points with the waits of the plan before them, and each of its
-- runs walks along the edges of the flow, a control-flow graph after Allen (1970), and enters each run at its
-- beginning.
use Rattle.std.specs.Prelude.{◌≡◌, ◌⊎◌, ℕ, ◌+◌, ◌<◌, List, [], ◌∷◌, length, slice_get, Option, Some, None, All}
use Rattle.sc_layout.specs.Layout.{Arrangement}
use Rattle.sc_isa.specs.declared.code.Code.{Code}
use Rattle.sc_isa.specs.declared.op.Op.{Op}
use Rattle.sc_isa.specs.Begin.{begin}
use Rattle.sc_isa.specs.State.{State}
use Rattle.sc_isa.specs.Sound.{Reached, Leads}
use Rattle.sc_isa.specs.Table.{step_of}
use Rattle.site_graph.specs.declared.plan.Plan.{Plan}
use Rattle.site_graph.specs.Graph.{Graph}
use Rattle.site_graph.specs.Plans.{waits_at}
use Rattle.node_emit.specs.Spelled.{Piece, IsSpelled}
use Rattle.node_emit.specs.Stands.{Stands, stands_at}
use Rattle.node_emit.specs.Pointed.{code_points}
use Rattle.node_emit.specs.Walks.{WalksFromStart}

abbrev pub length_or_none : Option (List Op) → ℕ
length_or_none None = 0
length_or_none (Some ops) = length ops

-- how long the run of the point is, with its waits
abbrev pub run_length : Plan → List (List Op) → (point : ℕ) → ℕ
run_length plan runs t = length (waits_at plan t) + length_or_none (slice_get runs t)

-- An instruction is the first of a run, or follows the one before it in the run, or is of none. A run is left only
-- behind its last instruction.
abbrev pub Follows : (length : ℕ → ℕ) → (before now : Option Stands) → Type 0
Follows length None None = Unit {0}
Follows length None (Some now) = now.number ≡ 0
Follows length (Some before) None = before.number + 1 ≡ length before.point
Follows length (Some before) (Some now) =
    ((now.number ≡ 0) × (before.number + 1 ≡ length before.point))
    ⊎ ((now.point ≡ before.point) × (now.number ≡ before.number + 1))

pub record Carries (code : Code) (layout : Arrangement) (graph : Graph) (plan : Plan) : Type 0 where
  -- The code apart from what stands outside is the runs of the points, one after another; directly before the first
  -- instruction of a run stand the waits of its point, and no other wait on a site is in the code.
  pub pieces : List Piece
  pub runs : List (List Op)
  pub spelled : IsSpelled code graph plan pieces runs
  -- a node begins outside of the runs or at the beginning of one
  pub begins : (budget : ℕ) → Follows (run_length plan runs) None
      (stands_at plan pieces (begin code budget).frame.at)
  -- for every node, budget and answers runs are entered at their beginning and gone through in order
  pub in_runs : (node budget : ℕ) (s next : State) → node < layout.nodes → Reached code layout node budget s
      → Leads layout (step_of code layout node s) next
      → Follows (run_length plan runs) (stands_at plan pieces s.frame.at) (stands_at plan pieces next.frame.at)
  -- and the points whose runs are entered, with the empty ones put between, are a walk along the edges from Start
  pub between : ℕ → ℕ → List ℕ
  pub are_empty : (now next : ℕ) → All (λ t. slice_get runs t ≡ Some []) (between now next)
  pub walks : (node budget many : ℕ) → node < layout.nodes
      → WalksFromStart graph plan (code_points code layout plan pieces between node budget many)
