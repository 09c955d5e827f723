-- Without its marks a code's run is the code's run.
use Rattle.std.proofs.Common.{◌≡◌, ℕ, zero, suc, List, [], ◌∷◌, ◌++◌, Option, Some, None, Bool, if◌then◌else◌, refl, ap, ◌∙◌}
use Rattle.resumption.specs.Resumption.{unanswered, after_event, after_text, run_of, RunOf}
use Rattle.resumption.specs.Forgetting.{forget}
use Rattle.sc_layout.specs.Layout.{Arrangement}
use Rattle.sc_isa.specs.declared.code.Code.{Code}
use Rattle.sc_isa.specs.State.{State}
use Rattle.sc_isa.specs.Moves.{After, GoesOn, Ends, Sticks, Move, Comes, Issues, Waits, Meets, Says}
use Rattle.sc_isa.specs.Run as run
use Rattle.sc_isa.specs.Run.{Ask, Issue, Wait, Arrive, Pass, Answer, Landed, Passed, Broken, Halt, NodeDoing, fits_wait, landed_by, asks_from}
use Rattle.sc_isa.specs.Begin.{begin}
use Rattle.sc_isa.specs.Table.{step_of}
use Rattle.site_graph.specs.declared.plan.Plan.{Plan}
use Rattle.node_emit.specs.Spelled.{Piece}
use Rattle.node_emit.specs.Stands.{stands_at}
use Rattle.node_emit.specs.Pointed.{PointedAsking, comes_to, asked_by, come_all, entered_at, marked, points_from}
use Rattle.node_emit.specs.Forgotten.{ask_in, ask_or, MarksAreForgotten}

abbrev pub forgotten : PointedAsking → NodeDoing
forgotten d = forget (ask_or Pass) ask_in d

come_forgotten : (ts : List ℕ) (rest : PointedAsking) → forgotten (come_all ts rest) ≡ forgotten rest
come_forgotten [] rest = refl
come_forgotten (t ∷ ts) rest = come_forgotten ts rest

marked_forgotten : (between : ℕ → ℕ → List ℕ) (now : ℕ) (o : Option ℕ) (go : ℕ → PointedAsking) (answers : List Answer) (other : RunOf Ask Halt)
    → ((t : ℕ) → run_of (forgotten (go t)) answers ≡ other) → run_of (forgotten (marked between now o go)) answers ≡ other
marked_forgotten between now None go answers other h = h now
marked_forgotten between now (Some t) go answers other h =
    ap (λ d. run_of d answers) (come_forgotten (between now t ++ t ∷ []) (go t)) ∙ h t

module _ (layout : Arrangement) (go : State → PointedAsking) (on : State → NodeDoing)
    (same : (s : State) (answers : List Answer) → run_of (forgotten (go s)) answers ≡ run_of (on s) answers) where
  after_forgotten : (after : After) (answers : List Answer) → run_of (forgotten (comes_to go after)) answers ≡ run_of (run.comes_to on after) answers
  after_forgotten (GoesOn s) answers = same s answers
  after_forgotten (Ends end) answers = refl
  after_forgotten Sticks answers = refl

  by_fit : (b : Bool) (ask : Ask) (x y : RunOf Ask Halt) → x ≡ y → (if b then after_event ask x else unanswered ask) ≡ (if b then after_event ask y else unanswered ask)
  by_fit b ask x y e = ap (λ z. if b then after_event ask z else unanswered ask) e

  pub move_forgotten : (move : Move) (answers : List Answer) → run_of (forgotten (asked_by layout go move)) answers ≡ run_of (run.asked_by layout on move) answers
  move_forgotten (Comes after) answers = after_forgotten after answers
  move_forgotten (Issues access after) answers = ap (after_event (Issue access)) (after_forgotten after answers)
  move_forgotten (Waits counter s) [] = refl
  move_forgotten (Waits counter s) (a ∷ answers) =
      by_fit (fits_wait layout counter s a) (Wait counter) _ _ (same (landed_by counter s a) answers)
  move_forgotten (Meets stores s) [] = refl
  move_forgotten (Meets stores s) (Landed values ∷ answers) = refl
  move_forgotten (Meets stores s) (Passed ∷ answers) = ap (λ r. after_event (Arrive stores) (after_event Pass r)) (same s answers)
  move_forgotten (Meets stores s) (Broken ∷ answers) = refl
  move_forgotten (Says text s) answers = ap (after_text text) (same s answers)

module _ (code : Code) (layout : Arrangement) (plan : Plan) (pieces : List Piece) (between : ℕ → ℕ → List ℕ) (node : ℕ) where
  pub from_forgotten : (many now : ℕ) (s : State) (answers : List Answer)
      → run_of (forgotten (points_from code layout plan pieces between node many now s)) answers ≡ run_of (asks_from code layout node many s) answers
  from_forgotten zero now s answers = refl
  from_forgotten (suc many) now s answers =
      marked_forgotten between now (entered_at (stands_at plan pieces s.frame.at))
      (λ t. asked_by layout (points_from code layout plan pieces between node many t) (step_of code layout node s)) answers
      (run_of (run.asked_by layout (asks_from code layout node many) (step_of code layout node s)) answers)
      (λ t. move_forgotten layout (points_from code layout plan pieces between node many t) (asks_from code layout node many)
      (λ s answers. from_forgotten many t s answers) (step_of code layout node s) answers)

pub marks_are_forgotten : MarksAreForgotten
marks_are_forgotten code layout plan pieces between node budget many answers =
    from_forgotten code layout plan pieces between node many 0 (begin code budget) answers
