-- What holds of each test, turn, return, step and action of a function holds of each point of its parts.
use Rattle.std.proofs.Common.{◌≡◌, ◌⊎◌, inl, inr, ℕ, suc, ◌+◌, List, [], ◌∷◌, ◌++◌, Option, Some, None, refl}
use Rattle.sc_core.specs.declared.operation.Operation.{Operation}
use Rattle.sc_core.specs.declared.operation.Operation.TheVariants as op
use Rattle.sc_core.specs.declared.operation.Action.{Action}
use Rattle.sc_core.specs.Core.{Core, constant, step, choice, update, Arguments, none, argument, Does, nothing, break, continue, then_, act, choose, loop, return}
use Rattle.sc_meaning.specs.Points.{size, sizes, size_of}
use Rattle.site_graph.specs.declared.point.PointKind.{PointKind}
use Rattle.site_graph.specs.declared.point.PointKind.TheVariants.{Plain, Return}
use Rattle.flow_form.specs.Within.{Within, Placed}
use Rattle.flow_form.specs.Accesses.{accesses, accesses_all, accesses_by, accesses_in}
use Rattle.flow_form.specs.Occurring.{mark, occurring, occurring_all, occurring_by}
use Rattle.flow_form.specs.Exits.{behind, exits, exits_all, fetched, fetched_all, fetched_by, leaves}
use Rattle.flow_form.specs.Steps.{callee_of, bare, step_at, action_at}
use Rattle.flow_form.specs.Expressions.{points, points_all, points_back}
use Rattle.flow_form.specs.Statements.{points_in, in_loop}
use Rattle.flow_form.proofs.Rises.{Each, each_append}

abbrev pub Bares : (f : ℕ) → (Placed → Type 0) → Type 0
Bares f P = (w : Within) (kind : PointKind) (t : ℕ) (froms takes reads : List ℕ) → w.function ≡ f → (kind ≡ Plain) ⊎ (kind ≡ Return)
    → P (bare w kind t froms takes reads)

abbrev pub Steps : (f : ℕ) → (Placed → Type 0) → Type 0
Steps f P = (w : Within) (operation : Operation) (arguments : Arguments) (line t s : ℕ) (froms takes reads : List ℕ) → w.function ≡ f
    → P (step_at w operation arguments line t s froms takes reads)

abbrev pub Actions : (f : ℕ) → (Placed → Type 0) → Type 0
Actions f P = (w : Within) (action : Action) (arguments : Arguments) (line t s : ℕ) (froms takes reads : List ℕ) → w.function ≡ f
    → P (action_at w action arguments line t s froms takes reads)

module _ (f : ℕ) (P : Placed → Type 0) (bares : Bares f P) (steps : Steps f P) (actions : Actions f P) where
  module _ (w : Within) (same : w.function ≡ f) where
    each_back : (undo : Option Operation) (line t s : ℕ) (reads : List ℕ) → Each P (points_back w undo line t s reads)
    each_back None line t s reads = tt
    each_back (Some operation) line t s reads = (steps w operation none line (t + 1) s (t ∷ []) [] reads same, tt)

    mutual
      each_of_points : (e : Core) (k s : ℕ) (froms : List ℕ) → Each P (points w e k s froms)
      each_of_points (constant c) k s froms = tt
      each_of_points (step operation arguments line) k s froms =
          each_append P (points_all w arguments k s froms) _ (each_of_all arguments k s froms) (
            steps w operation arguments line (k + sizes arguments) (s + accesses_all arguments) (exits_all w.returns arguments k froms)
                (fetched_all arguments s) (occurring_all w.params arguments ++ occurring_by w.params operation) same,
            tt,
          )
      each_of_points (choice of_pointer test on off) k s froms =
          let t = k + size test in
          let s' = s + accesses test in
          each_append P _ (points w off (t + 1 + size on) (s' + accesses on) (t ∷ []))
          (each_append P (points w test k s froms) _ (each_of_points test k s froms)
          (bares w Plain t (exits w.returns test k froms) (fetched test s) (occurring w.params test) same (inl refl), each_of_points on (t + 1) s' (t ∷ [])))
          (each_of_points off (t + 1 + size on) (s' + accesses on) (t ∷ []))
      each_of_points (update pointer operation right undo line) k s froms =
          let t = k + size pointer in
          let u = t + 1 + size right in
          let read = s + accesses pointer in
          let join = read + 1 + accesses right in
          let write = join + accesses_by operation in
          let place = argument pointer none in
          let reads = occurring w.params (update pointer operation right undo line) in
          each_append P _ _
          (each_append P (points w pointer k s froms) _ (each_of_points pointer k s froms) (
            steps w op.Read place line t read (exits w.returns pointer k froms) (fetched pointer s) (occurring w.params pointer ++ mark) same,
            each_of_points right (t + 1) (read + 1) (t ∷ []),
          )) (
            steps w operation none line u join (exits w.returns right (t + 1) (t ∷ [])) (suc read ∷ fetched right (read + 1)) reads same,
            (
              steps w op.Write place line (u + 1) write (behind w.returns (callee_of operation) u)
                  (fetched pointer s ++ fetched_by operation join) reads same,
              each_back undo line (u + 1) (write + 1) reads,
            ),
          )

      each_of_all : (arguments : Arguments) (k s : ℕ) (froms : List ℕ) → Each P (points_all w arguments k s froms)
      each_of_all none k s froms = tt
      each_of_all (argument e more) k s froms =
          each_append P (points w e k s froms) _ (each_of_points e k s froms)
          (each_of_all more (k + size e) (s + accesses e) (exits w.returns e k froms))

  pub each_in : (w : Within) → w.function ≡ f → (d : Does) (k s : ℕ) (froms : List ℕ) → Each P (points_in w d k s froms)
  each_in w same nothing k s froms = tt
  each_in w same break k s froms = tt
  each_in w same continue k s froms = tt
  each_in w same (then_ first second) k s froms =
      each_append P (points_in w first k s froms) _ (each_in w same first k s froms)
      (each_in w same second (k + size_of first) (s + accesses_in first) (leaves w.returns first k froms).falls)
  each_in w same (act action arguments line) k s froms =
      each_append P (points_all w arguments k s froms) _ (each_of_all w same arguments k s froms) (
        actions w action arguments line (k + sizes arguments) (s + accesses_all arguments) (exits_all w.returns arguments k froms)
            (fetched_all arguments s) (occurring_all w.params arguments) same,
        tt,
      )
  each_in w same (choose of_pointer test on off) k s froms =
      let t = k + size test in
      let s' = s + accesses test in
      each_append P _ (points_in w off (t + 1 + size_of on) (s' + accesses_in on) (t ∷ []))
      (each_append P (points w test k s froms) _ (each_of_points w same test k s froms)
      (bares w Plain t (exits w.returns test k froms) (fetched test s) (occurring w.params test) same (inl refl), each_in w same on (t + 1) s' (t ∷ [])))
      (each_in w same off (t + 1 + size_of on) (s' + accesses_in on) (t ∷ []))
  each_in w same (loop mine before body next) k s froms =
      let t = k + size_of before in
      let u = t + 1 + size_of body in
      let s' = s + accesses_in before in
      let from_body = leaves w.returns body (t + 1) (t ∷ []) in
      let into_after = from_body.falls ++ from_body.continues in
      let into_before = froms ++ (leaves w.returns next u into_after).falls in
      each_append P _ (points_in w next u (s' + accesses_in body) into_after)
      (each_append P (points_in w before k s into_before) _ (each_in w same before k s into_before)
      (bares w Plain t (leaves w.returns before k into_before).falls [] [] same (inl refl), each_in (in_loop w mine before body) same body (t + 1) s' (t ∷ [])))
      (each_in w same next u (s' + accesses_in body) into_after)
  each_in w same (return e line) k s froms =
      each_append P (points w e k s froms) _ (each_of_points w same e k s froms)
      (bares w Return (k + size e) (exits w.returns e k froms) (fetched e s) (occurring w.params e) same (inr refl), tt)
