-- Where an instruction of code stands in the runs of points.
use Rattle.std.specs.Prelude.{ℕ, ◌+◌, List, [], ◌∷◌, ◌++◌, length, slice_get, Option, Some, None}
use Rattle.site_graph.specs.declared.plan.Plan.{Plan}
use Rattle.site_graph.specs.Plans.{waits_at}
use Rattle.node_emit.specs.Spelled.{Piece, Outside, Opens, Within}

-- the run of which the instruction is, and its number there from 0, the waits first
pub record Stands : Type 0 where
  pub point : ℕ
  pub number : ℕ

abbrev pub waits_from : (t number : ℕ) → List ℕ → List (Option Stands)
waits_from t number [] = []
waits_from t number (site ∷ sites) = Some (record { point = t; number = number }) ∷ waits_from t (number + 1) sites

-- where each instruction of the pieces stands; number: that of the next further instruction of a run
abbrev pub stands_from : Plan → (number : ℕ) → List Piece → List (Option Stands)
stands_from plan number [] = []
stands_from plan number (Outside o ∷ pieces) = None ∷ stands_from plan number pieces
stands_from plan number (Opens t o ∷ pieces) =
    waits_from t 0 (waits_at plan t)
    ++ Some (record { point = t; number = length (waits_at plan t) }) ∷
    stands_from plan (length (waits_at plan t) + 1) pieces
stands_from plan number (Within t o ∷ pieces) =
    Some (record { point = t; number = number }) ∷ stands_from plan (number + 1) pieces

abbrev pub flat : Option (Option Stands) → Option Stands
flat None = None
flat (Some place) = place

-- where the instruction with this number stands, if it is of a run
abbrev pub stands_at : Plan → List Piece → ℕ → Option Stands
stands_at plan pieces pc = flat (slice_get (stands_from plan 0 pieces) pc)
