-- Points are those of their functions, so the first point of a function is one at which no step is done.
use Rattle.std.proofs.Common.{◌≡◌, ◌⊎◌, inl, inr, ⊎_elim, ℕ, zero, suc, ◌+◌, ◌<◌, ◌≤◌, List, [], ◌∷◌, ◌++◌, map, Option, Some, None, slice_get, refl, sym, ap, ◌∙◌, subst, arith}
use Rattle.sc_layout.specs.Layout.{Arrangement}
use Rattle.sc_core.specs.declared.operation.Operation.{Operation}
use Rattle.sc_core.specs.Core.{Core, constant, step, choice, update, Arguments, none, argument, Does, nothing, break, continue, then_, act, choose, loop, return, Function, Program}
use Rattle.sc_meaning.specs.Points.{size, size_of, first_point}
use Rattle.site_graph.specs.declared.point.Point.{Point}
use Rattle.site_graph.specs.declared.point.PointKind.TheVariants.{Start}
use Rattle.site_graph.specs.Graph.{Graph}
use Rattle.site_graph.specs.Plans.{IsFirst}
use Rattle.flow_form.specs.Within.{Within, Placed}
use Rattle.flow_form.specs.Accesses.{accesses, accesses_by, accesses_in}
use Rattle.flow_form.specs.Exits.{exits, leaves}
use Rattle.flow_form.specs.Expressions.{points, points_all, points_back}
use Rattle.flow_form.specs.Statements.{points_in, points_of, in_loop}
use Rattle.flow_form.specs.FlowOf.{flow_of}
use Rattle.flow_form.proofs.Rises.{Each, In, each_append, each_weaker, each_at}
use Rattle.flow_form.proofs.Run.{runs_of, points_stand_in_order}
use Rattle.emit_laws.proofs.FunctionCodes.{sites_before}
use Rattle.code_laws.proofs.Bodies.{each_both, within_run, all, its_point, view, all_hold, body_of}

module _ (w : Within) where
  abbrev Own : Placed → Type 0
  Own p = p.point.function ≡ w.function

  back_own : (undo : Option Operation) (line t s : ℕ) (reads : List ℕ) → Each Own (points_back w undo line t s reads)
  back_own None line t s reads = tt
  back_own (Some operation) line t s reads = (refl, tt)

  mutual
    points_own : (e : Core) (k s : ℕ) (froms : List ℕ) → Each Own (points w e k s froms)
    points_own (constant c) k s froms = tt
    points_own (step operation arguments line) k s froms = each_append Own (points_all w arguments k s froms) _ (all_own arguments k s froms) (refl, tt)
    points_own (choice of_pointer test on off) k s froms =
        let t = k + size test in
        let s' = s + accesses test in
        each_append Own _ (points w off (t + 1 + size on) (s' + accesses on) (t ∷ []))
        (each_append Own (points w test k s froms) _ (points_own test k s froms) (refl, points_own on (t + 1) s' (t ∷ [])))
        (points_own off (t + 1 + size on) (s' + accesses on) (t ∷ []))
    points_own (update pointer operation right undo line) k s froms =
        let t = k + size pointer in
        let u = t + 1 + size right in
        let read = s + accesses pointer in
        let write = read + 1 + accesses right + accesses_by operation in
        each_append Own _ _
        (each_append Own (points w pointer k s froms) _ (points_own pointer k s froms) (refl, points_own right (t + 1) (read + 1) (t ∷ [])))
        (refl, (refl, back_own undo line (u + 1) (write + 1) _))

    all_own : (arguments : Arguments) (k s : ℕ) (froms : List ℕ) → Each Own (points_all w arguments k s froms)
    all_own none k s froms = tt
    all_own (argument e more) k s froms =
        each_append Own (points w e k s froms) _ (points_own e k s froms) (all_own more (k + size e) (s + accesses e) (exits w.returns e k froms))

in_own : (w : Within) (d : Does) (k s : ℕ) (froms : List ℕ) → Each (Own w) (points_in w d k s froms)
in_own w nothing k s froms = tt
in_own w break k s froms = tt
in_own w continue k s froms = tt
in_own w (then_ first second) k s froms =
    each_append (Own w) (points_in w first k s froms) _ (in_own w first k s froms)
    (in_own w second (k + size_of first) (s + accesses_in first) (leaves w.returns first k froms).falls)
in_own w (act action arguments line) k s froms =
    each_append (Own w) (points_all w arguments k s froms) _ (all_own w arguments k s froms) (refl, tt)
in_own w (choose of_pointer test on off) k s froms =
    let t = k + size test in
    let s' = s + accesses test in
    each_append (Own w) _ (points_in w off (t + 1 + size_of on) (s' + accesses_in on) (t ∷ []))
    (each_append (Own w) (points w test k s froms) _ (points_own w test k s froms) (refl, in_own w on (t + 1) s' (t ∷ [])))
    (in_own w off (t + 1 + size_of on) (s' + accesses_in on) (t ∷ []))
in_own w (loop mine before body next) k s froms =
    let t = k + size_of before in
    let u = t + 1 + size_of body in
    let s' = s + accesses_in before in
    let from_body = leaves w.returns body (t + 1) (t ∷ []) in
    let into_after = from_body.falls ++ from_body.continues in
    let into_before = froms ++ (leaves w.returns next u into_after).falls in
    each_append (Own w) _ (points_in w next u (s' + accesses_in body) into_after)
    (each_append (Own w) (points_in w before k s into_before) _ (in_own w before k s into_before)
    (refl, in_own (in_loop w mine before body) body (t + 1) s' (t ∷ [])))
    (in_own w next u (s' + accesses_in body) into_after)
in_own w (return e line) k s froms = each_append (Own w) (points w e k s froms) _ (points_own w e k s froms) (refl, tt)

function_own : (w : Within) (f : Function) (k s : ℕ) → Each (Own w) (points_of w f k s)
function_own w f k s = (refl, each_append (Own w) (points_in w f.body (k + 1) s (k ∷ [])) _ (in_own w f.body (k + 1) s (k ∷ [])) (refl, tt))

-- ---- a point and its place

pub mapped_at : {A B : Type 0} (h : A → B) (xs : List A) (i : ℕ) (y : B) → slice_get (map h xs) i ≡ Some y → (x : A) × (slice_get xs i ≡ Some x) × (h x ≡ y) × In x xs
mapped_at h [] i y e = absurd (cc)
mapped_at h (x ∷ xs) zero y e = let same : h x ≡ y = cc in (x, refl, same, inl refl)
mapped_at h (x ∷ xs) (suc i) y e = let r = mapped_at h xs i y e in (r.0, r.1, r.2, inr r.3)

module _ (layout : Arrangement) (program : Program) where
  abbrev graph : Graph
  graph = flow_of layout.nodes program

  -- Start, or not before the first point of its function
  abbrev Behind : Placed → Type 0
  Behind p = (p.point.kind ≡ Start) ⊎ (first_point program.functions p.point.function ≤ p.at)

  behind_of : (f : ℕ) (g : Function) → slice_get program.functions f ≡ Some g
      → Each Behind (points_of (view layout program f g) g (first_point program.functions f) (sites_before 0 program.functions f))
  behind_of f g e =
      let k = first_point program.functions f in
      let s = sites_before 0 program.functions f in
      let w = view layout program f g in
      each_weaker (λ p. (p.point.function ≡ f) × ((k ≤ p.at) × (p.at < k + size_of g.body + 2))) Behind (points_of w g k s)
      (λ p h. inr (subst (λ n. first_point program.functions n ≤ p.at) (sym h.0) h.1.0))
      (each_both (Own w) (λ p. (k ≤ p.at) × (p.at < k + size_of g.body + 2)) (points_of w g k s) (function_own w g k s)
      (within_run (points_of w g k s) k s _ _ (runs_of w g k s)))

  all_behind : Each Behind (all layout program)
  all_behind = all_hold layout program Behind (inl refl) behind_of

  -- the first point of a function is one at which no step is done
  pub first_is_first : (f : ℕ) (g : Function) → slice_get program.functions f ≡ Some g → IsFirst graph (first_point program.functions f)
  first_is_first f g e p at =
      let k = first_point program.functions f in
      let own = its_point layout program _ (body_of layout program f g e).first in
      inr (λ u q lt is same. before u q lt is (same ∙ ap (λ (o : Point). o.function) (only p at own)))
    where
      only : {r : Point} (p : Point) → slice_get graph.points (first_point program.functions f) ≡ Some p
          → slice_get graph.points (first_point program.functions f) ≡ Some r → p ≡ r
      only p a b = let h = sym a ∙ b in cc

      before : (u : ℕ) (q : Point) → u < first_point program.functions f → slice_get graph.points u ≡ Some q → q.function ≡ f → q.kind ≡ Start
      before u q lt is same =
          let r = mapped_at (λ (p : Placed). p.point) (all layout program) u q is in
          let at = points_stand_in_order layout.nodes u program r.0 r.1 in
          ⊎_elim (λ s. sym (ap (λ (o : Point). o.kind) r.2) ∙ s)
          (λ le.
          let le' : first_point program.functions f ≤ r.0.at =
          subst (λ n. first_point program.functions n ≤ r.0.at) (ap (λ (o : Point). o.function) r.2 ∙ same) le in
          absurd (omega (arith, le', at, lt)))
          (each_at Behind (all layout program) r.0 all_behind r.3)

  -- and a point behind the first of its function is not
  pub none_is_first : (f : ℕ) (g : Function) (t : ℕ) (p : Point) → slice_get program.functions f ≡ Some g → first_point program.functions f < t
      → slice_get graph.points t ≡ Some p → p.function ≡ f → (p.kind ≡ Start → ⊥) → IsFirst graph t → ⊥
  none_is_first f g t p e lt at own other first =
      let k = first_point program.functions f in
      let i = its_point layout program _ (body_of layout program f g e).first in
      ⊎_elim other (λ h. let s = h k _ lt i (sym own) in cc) (first p at)
