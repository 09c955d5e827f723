-- Code as the runs of the points of a flow, one after another, with what stands before, between and in them: basic
-- steps with their waits, as Krishnamurthy and Yelick (1995) place them.
use Rattle.std.specs.Prelude.{◌≡◌, ◌≢◌, ◌⊎◌, ℕ, ◌+◌, List, [], ◌∷◌, ◌++◌, length, map, slice_get, Option, Some, None, Bool, true, false, not, ◌||◌, All}
use Rattle.sc_isa.specs.declared.code.Code.{Code}
use Rattle.sc_isa.specs.declared.op.Op.{Op}
use Rattle.sc_isa.specs.declared.op.Op.TheVariants as op
use Rattle.site_graph.specs.declared.plan.Plan.{Plan}
use Rattle.site_graph.specs.declared.point.Point.{Point}
use Rattle.site_graph.specs.declared.point.PointKind.{PointKind}
use Rattle.site_graph.specs.declared.point.PointKind.TheVariants as point
use Rattle.site_graph.specs.declared.site.Site.{Site}
use Rattle.site_graph.specs.declared.site.SiteKind.{SiteKind}
use Rattle.site_graph.specs.declared.site.SiteKind.TheVariants as site
use Rattle.site_graph.specs.Graph.{Graph, site_at}
use Rattle.site_graph.specs.Plans.{waits_at, IsFirst}
use Rattle.node_emit.specs.Runs.{goes_one_way}
use Rattle.node_emit.specs.Kinds.{is_outside, is_access, is_meeting, is_call, is_return}

-- A piece of code: what belongs to no point's run; the first instruction of a point's run, with the waits of the point
-- before it; or a further one.
pub data Piece : Type 0 where
  Outside : Op → Piece
  Opens : (t : ℕ) → Op → Piece
  Within : (t : ℕ) → Op → Piece

-- the instructions of the pieces
abbrev pub spelled : Plan → List Piece → List Op
spelled plan [] = []
spelled plan (Outside o ∷ pieces) = o ∷ spelled plan pieces
spelled plan (Opens t o ∷ pieces) = map op.Wait (waits_at plan t) ++ o ∷ spelled plan pieces
spelled plan (Within t o ∷ pieces) = o ∷ spelled plan pieces

abbrev pub and_piece : Piece → List Piece → List Piece
and_piece (Outside o) pieces = pieces
and_piece piece pieces = piece ∷ pieces

abbrev pub of_points : List Piece → List Piece
of_points [] = []
of_points (piece ∷ pieces) = and_piece piece (of_points pieces)

-- the run of one point
abbrev pub run_of_point : ℕ → List Op → List Piece
run_of_point t [] = []
run_of_point t (o ∷ more) = Opens t o ∷ map (Within t) more

-- the runs of the points from this one on, one after another
abbrev pub in_order : ℕ → List (List Op) → List Piece
in_order t [] = []
in_order t (run ∷ runs) = run_of_point t run ++ in_order (t + 1) runs

-- the instruction by which the point accesses its site's cells; a write goes as a store exactly where it is one-way
abbrev pub IsAccessOp : Plan → Point → (number : ℕ) → SiteKind → (fills : Option ℕ) → Op → Type 0
IsAccessOp plan p number site.Read None o = o ≡ op.Read number
IsAccessOp plan p number site.Read (Some local) o = o ≡ op.Fill number local
IsAccessOp plan p number site.Write fills o =
    ((o ≡ op.Store number) × (goes_one_way plan number ≡ true))
    ⊎ ((o ≡ op.Write number) × (goes_one_way plan number ≡ false))
IsAccessOp plan p number site.Get fills o = (local : ℕ) × (p.writes ≡ Some local) × (o ≡ op.Get number local)
IsAccessOp plan p number site.Put fills o = o ≡ op.Put number
IsAccessOp plan p number site.Store fills o = o ≡ op.Send number
IsAccessOp plan p number (site.Copy mode) fills o = o ≡ op.Copy number mode

-- an instruction of a step that is no access, sync, barrier, call or return
abbrev pub is_plain : Op → Bool
is_plain o = not (is_outside o || (is_access o || (is_meeting o || (is_call o || is_return o))))

pub record IsAccessRun (graph : Graph) (plan : Plan) (p : Point) (number : ℕ) (run : List Op) : Type 0 where
  pub what : Site
  pub is_site : site_at graph number ≡ Some what
  pub only : Op
  pub run_is : run ≡ only ∷ []
  pub is_its : IsAccessOp plan p number what.kind what.fills only

-- any other step has one or more instructions, the first point of a function none
pub record IsPlainRun (graph : Graph) (t : ℕ) (run : List Op) : Type 0 where
  pub first : IsFirst graph t → run ≡ []
  pub some : (IsFirst graph t → ⊥) → run ≢ []
  pub plain : All (λ o. is_plain o ≡ true) run

-- the run is that of the point
abbrev pub IsRunFor : Graph → Plan → ℕ → Point → PointKind → List Op → Type 0
IsRunFor graph plan t p point.Start run = run ≡ []
IsRunFor graph plan t p point.Plain run = IsPlainRun graph t run
IsRunFor graph plan t p (point.Access number) run = IsAccessRun graph plan p number run
IsRunFor graph plan t p point.Sync run = run ≡ op.Wait 0 ∷ []
IsRunFor graph plan t p point.Barrier run = run ≡ op.Barrier ∷ []
IsRunFor graph plan t p point.StoreSync run = run ≡ op.AllSync ∷ []
IsRunFor graph plan t p point.Call run = (f : ℕ) × (run ≡ op.Call f ∷ [])
IsRunFor graph plan t p point.Return run = run ≡ op.Ret ∷ []

abbrev pub IsOutsidePiece : Piece → Type 0
IsOutsidePiece (Outside o) = is_outside o ≡ true
IsOutsidePiece _ = Unit {0}

-- the code is spelled by these pieces, which are the runs of the points in order, and what stands outside
pub record IsSpelled (code : Code) (graph : Graph) (plan : Plan) (pieces : List Piece)
    (runs : List (List Op)) : Type 0 where
  pub spells : map (λ i. i.op) code.instrs ≡ spelled plan pieces
  pub others : All IsOutsidePiece pieces
  pub ordered : of_points pieces ≡ in_order 0 runs
  pub count : length runs ≡ length graph.points
  pub right : (t : ℕ) (p : Point) (run : List Op) → slice_get graph.points t ≡ Some p →
      slice_get runs t ≡ Some run → IsRunFor graph plan t p p.kind run
