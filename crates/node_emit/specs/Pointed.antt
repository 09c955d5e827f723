-- What code asks, with a mark where the run of a point is entered: the points whose runs it enters, and between two of
-- them the points with empty runs.
use Rattle.std.specs.Prelude.{ℕ, zero, suc, List, [], ◌∷◌, ◌++◌, Option, Some, None, ◌==◌, if◌then◌else◌}
use Rattle.resumption.specs.Resumption.{Doing, Asks, Makes, Says as Tells, Stops}
use Rattle.sc_layout.specs.Layout.{Arrangement}
use Rattle.sc_isa.specs.declared.code.Code.{Code}
use Rattle.sc_isa.specs.State.{State}
use Rattle.sc_isa.specs.Moves.{After, GoesOn, Ends, Sticks, Move, Comes, Issues, Waits, Meets, Says}
use Rattle.sc_isa.specs.Table.{step_of}
use Rattle.sc_isa.specs.Begin.{begin}
use Rattle.sc_isa.specs.Run.{Ask, Issue, Wait, Arrive, Pass, Answer, Broken, Halt, Finish, Stuck, UsedUp, NodeDoing, fits_wait, fits_pass, landed_by}
use Rattle.sc_base.specs.declared.value.End.TheVariants.{Waiting}
use Rattle.site_graph.specs.declared.plan.Plan.{Plan}
use Rattle.node_emit.specs.Spelled.{Piece}
use Rattle.node_emit.specs.Stands.{Stands, stands_at}

-- an ask, or that the node comes to a point
pub data Event : Type 0 where
  Asked : Ask → Event
  Came : (point : ℕ) → Event

abbrev pub PointedAsking : Type 0
PointedAsking = Doing Event Answer Halt

-- ---- what a move asks, where `go` says what is asked from a state on

abbrev pub passed_by : Answer → PointedAsking → PointedAsking
passed_by Broken rest = Stops (Finish Waiting)
passed_by _ rest = rest

abbrev pub comes_to : (State → PointedAsking) → After → PointedAsking
comes_to go (GoesOn s) = go s
comes_to go (Ends end) = Stops (Finish end)
comes_to go Sticks = Stops Stuck

abbrev pub asked_by : Arrangement → (State → PointedAsking) → Move → PointedAsking
asked_by layout go (Comes after) = comes_to go after
asked_by layout go (Issues access after) = Makes (Asked (Issue access)) (comes_to go after)
asked_by layout go (Waits counter s) =
    Asks (Asked (Wait counter)) (fits_wait layout counter s) (λ answer. go (landed_by counter s answer))
asked_by layout go (Meets stores s) =
    Makes (Asked (Arrive stores)) (Asks (Asked Pass) fits_pass (λ answer. passed_by answer (go s)))
asked_by layout go (Says text s) = Tells text (go s)

-- ---- marks

abbrev pub come_all : List ℕ → PointedAsking → PointedAsking
come_all [] rest = rest
come_all (t ∷ ts) rest = Makes (Came t) (come_all ts rest)

-- the point whose run is entered here
abbrev pub entered_at : Option Stands → Option ℕ
entered_at None = None
entered_at (Some place) = if place.number == 0 then Some place.point else None

-- between: the points with empty runs from the point `now` to the next whose run is entered
abbrev pub marked : (between : ℕ → ℕ → List ℕ) → (now : ℕ) → Option ℕ →
    (ℕ → PointedAsking) → PointedAsking
marked between now None go = go now
marked between now (Some t) go = come_all (between now t ++ t ∷ []) (go t)

module _ (code : Code) (layout : Arrangement) (plan : Plan) (pieces : List Piece) (between : ℕ → ℕ → List ℕ)
    (node : ℕ) where
  -- what the code asks from a state on by so many instructions, where the node is at the point `now`
  abbrev pub points_from : ℕ → (now : ℕ) → State → PointedAsking
  points_from zero now s = Stops UsedUp
  points_from (suc n) now s =
      marked between now (entered_at (stands_at plan pieces s.frame.at))
      (λ t. asked_by layout (points_from n t) (step_of code layout node s))

  -- from the beginning, at Start
  abbrev pub code_points : (budget many : ℕ) → PointedAsking
  code_points budget many = points_from many 0 (begin code budget)
