-- The points of an expression, in order. k is the number of the first of them, s says how many sites come before the
-- expression, and `froms` are the points from which it is entered.
use Rattle.std.specs.Prelude.{ℕ, suc, ◌+◌, List, [], ◌∷◌, ◌++◌, Option, Some, None}
use Rattle.sc_core.specs.declared.operation.Operation.{Operation}
use Rattle.sc_core.specs.declared.operation.Operation.TheVariants.{Read, Write}
use Rattle.sc_core.specs.Core.{Core, constant, step, choice, update, Arguments, none, argument}
use Rattle.sc_meaning.specs.Points.{size, sizes}
use Rattle.site_graph.specs.declared.point.PointKind.TheVariants.{Plain}
use Rattle.flow_form.specs.Within.{Within, Placed}
use Rattle.flow_form.specs.Accesses.{accesses, accesses_all, accesses_by}
use Rattle.flow_form.specs.Occurring.{mark, occurring, occurring_all, occurring_by}
use Rattle.flow_form.specs.Steps.{callee_of, bare, step_at}
use Rattle.flow_form.specs.Exits.{fetched, fetched_all, fetched_by, behind, exits, exits_all}

module _ (w : Within) where
  -- a test of the expression, at the point t behind it
  abbrev pub test_at : Core → (k s : ℕ) → (froms : List ℕ) → Placed
  test_at test k s froms =
      bare w Plain (k + size test) (exits w.returns test k froms) (fetched test s) (occurring w.params test)

  -- what takes back the old value, behind the point t
  abbrev pub points_back : Option Operation → (line t s : ℕ) → (reads : List ℕ) → List Placed
  points_back None line t s reads = []
  points_back (Some operation) line t s reads = step_at w operation none line (t + 1) s (t ∷ []) [] reads ∷ []

  abbrev mutual
    pub points : Core → (k s : ℕ) → (froms : List ℕ) → List Placed
    points (constant c) k s froms = []
    points (step operation arguments line) k s froms =
        points_all arguments k s froms ++
        step_at w operation arguments line (k + sizes arguments) (s + accesses_all arguments)
        (exits_all w.returns arguments k froms) (fetched_all arguments s)
        (occurring_all w.params arguments ++ occurring_by w.params operation) ∷ []
    points (choice of_pointer test on off) k s froms =
        let t = k + size test in
        let s' = s + accesses test in
        points test k s froms ++ test_at test k s froms ∷ points on (t + 1) s' (t ∷ []) ++
        points off (t + 1 + size on) (s' + accesses on) (t ∷ [])
    -- the pointer, the read, the right side, what joins the two, the write, and what takes back the old value
    points (update pointer operation right back line) k s froms =
        let t = k + size pointer in
        let u = t + 1 + size right in
        let read = s + accesses pointer in
        let join = read + 1 + accesses right in
        let write = join + accesses_by operation in
        let place = argument pointer none in
        let reads = occurring w.params (update pointer operation right back line) in
        points pointer k s froms ++
        step_at w Read place line t read (exits w.returns pointer k froms) (fetched pointer s)
        (occurring w.params pointer ++ mark) ∷
        points right (t + 1) (read + 1) (t ∷ []) ++
        step_at w operation none line u join (exits w.returns right (t + 1) (t ∷ []))
        (suc read ∷ fetched right (read + 1)) reads ∷
        step_at w Write place line (u + 1) write (behind w.returns (callee_of operation) u)
        (fetched pointer s ++ fetched_by operation join) reads ∷
        points_back back line (u + 1) (write + 1) reads

    pub points_all : Arguments → (k s : ℕ) → (froms : List ℕ) → List Placed
    points_all none k s froms = []
    points_all (argument e more) k s froms =
        points e k s froms ++ points_all more (k + size e) (s + accesses e) (exits w.returns e k froms)
