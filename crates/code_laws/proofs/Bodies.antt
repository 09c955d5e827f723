-- Where the points of each function lie in a flow, and that only Start and the first point of each are empty.
use Rattle.std.proofs.Common.{◌≡◌, ℕ, zero, suc, ◌+◌, ◌<◌, ◌≤◌, List, [], ◌∷◌, length, map, Some, Bool, true, false, ◌||◌, ◌==◌, slice_get, refl, ap, ◌∙◌, subst, arith}
use Rattle.std.specs.Option.{option_map}
use Rattle.std.proofs.lemmas.Bool.Decides.{nat_tests}
use Rattle.std.proofs.lemmas.Option.{slice_get-map}
use Rattle.sc_layout.specs.Layout.{Arrangement}
use Rattle.sc_core.specs.Core.{Function, Program}
use Rattle.sc_meaning.specs.Points.{size_of, first_from, first_point}
use Rattle.site_graph.specs.declared.point.PointKind.TheVariants.{Plain, Return}
use Rattle.flow_form.specs.Within.{Within, Placed}
use Rattle.flow_form.specs.Accesses.{accesses_in}
use Rattle.flow_form.specs.Exits.{leaves}
use Rattle.flow_form.specs.Steps.{bare}
use Rattle.flow_form.specs.Statements.{points_in, points_of, end_of}
use Rattle.flow_form.specs.FlowOf.{points_from, all_points, flow_of, start, within, returns}
use Rattle.flow_form.proofs.Rises.{Each, In, each_append, each_weaker, each_of}
use Rattle.flow_form.proofs.Run.{Runs, one_site, runs_in, long, points_stand_in_order}
use Rattle.flow_laws.proofs.Facts.{place_of}
use Rattle.flow_laws.proofs.Passing.{each_left, each_right}
use Rattle.node_emit.specs.Law.{is_first_from, is_empty}
use Rattle.emit_laws.proofs.FunctionCodes.{sites_before}
use Rattle.code_laws.proofs.Compiled.{called_by, callee_at}

pub each_both : {A : Type 0} (P Q : A → Type 0) (xs : List A) → Each P xs → Each Q xs → Each (λ x. P x × Q x) xs
each_both P Q [] h k = tt
each_both P Q (x ∷ xs) h k = ((h.0, k.0), each_both P Q xs h.1 k.1)

-- ---- which points are empty

unlike_below : (t k : ℕ) → t < k → (t == k) ≡ false
unlike_below t k lt = grind (arith, nat_tests)

unlike_above : (t k : ℕ) → k < t → (t == k) ≡ false
unlike_above t k lt = grind (arith, nat_tests)

like_own : (t : ℕ) → (t == t) ≡ true
like_own t = grind (arith, nat_tests)

neither : (a b : Bool) → a ≡ false → b ≡ false → (a || b) ≡ false
neither a b e f = ap (λ x. x || b) e ∙ f

second : (a b : Bool) → b ≡ true → (a || b) ≡ true
second true b e = refl
second false b e = e

first : (a b : Bool) → a ≡ true → (a || b) ≡ true
first a b e = ap (λ x. x || b) e

pub first_after : (k : ℕ) (fs : List Function) (f : ℕ) → k ≤ first_from k fs f
first_after k [] f = omega arith
first_after k (g ∷ more) zero = omega arith
first_after k (g ∷ more) (suc f) = let h = first_after (k + size_of g.body + 2) more f in omega (arith, h)

below_first : (t k : ℕ) (fs : List Function) → t < k → is_first_from k fs t ≡ false
below_first t k [] lt = refl
below_first t k (g ∷ more) lt =
    neither (t == k) (is_first_from (k + size_of g.body + 2) more t) (unlike_below t k lt) (below_first t (k + size_of g.body + 2) more (omega (arith, lt)))

firsts_are : (k : ℕ) (fs : List Function) (f : ℕ) → f < length fs → is_first_from k fs (first_from k fs f) ≡ true
firsts_are k [] f lt = absurd (omega (arith, lt))
firsts_are k (g ∷ more) zero lt = first (k == k) (is_first_from (k + size_of g.body + 2) more k) (like_own k)
firsts_are k (g ∷ more) (suc f) lt =
    let t = first_from (k + size_of g.body + 2) more f in
    second (t == k) (is_first_from (k + size_of g.body + 2) more t) (firsts_are (k + size_of g.body + 2) more f (omega (arith, lt)))

none_within : (t k : ℕ) (fs : List Function) (f : ℕ) (g : Function) → slice_get fs f ≡ Some g → first_from k fs f < t
    → t < first_from k fs f + size_of g.body + 2 → is_first_from k fs t ≡ false
none_within t k [] f g e above below = absurd (cc)
none_within t k (x ∷ more) zero g e above below =
    let same : x ≡ g = cc in
    let size : size_of x.body ≡ size_of g.body = ap (λ (y : Function). size_of y.body) same in
    neither (t == k) (is_first_from (k + size_of x.body + 2) more t) (unlike_above t k above)
    (below_first t (k + size_of x.body + 2) more (omega (arith, below, size)))
none_within t k (x ∷ more) (suc f) g e above below =
    let least = first_after (k + size_of x.body + 2) more f in
    neither (t == k) (is_first_from (k + size_of x.body + 2) more t) (unlike_above t k (omega (arith, above, least)))
    (none_within t (k + size_of x.body + 2) more f g e above below)

module _ (program : Program) where
  -- the first point of each function is empty,
  pub first_empty : (f : ℕ) → f < length program.functions → is_empty program (first_point program.functions f) ≡ true
  first_empty f lt =
      let t = first_point program.functions f in
      second (t == 0) (is_first_from 1 program.functions t) (firsts_are 1 program.functions f lt)

  -- and no other of it
  pub body_full : (f : ℕ) (g : Function) (t : ℕ) → slice_get program.functions f ≡ Some g → first_point program.functions f < t
      → t < first_point program.functions f + size_of g.body + 2 → is_empty program t ≡ false
  body_full f g t e above below =
      let least = first_after 1 program.functions f in
      neither (t == 0) (is_first_from 1 program.functions t) (unlike_above t 0 (omega (arith, above, least)))
      (none_within t 1 program.functions f g e above below)

-- ---- points that stand in order lie between two numbers

pub within_run : (ps : List Placed) (k s l t : ℕ) → Runs ps k s l t → Each (λ p. (k ≤ p.at) × (p.at < l)) ps
within_run [] k s l t h = tt
within_run (p ∷ ps) k s l t h =
    let e = h.0 in
    let r = long ps (k + 1) (s + one_site p.site) l t h.2 in (
      (omega (arith, e), omega (arith, e, r)),
      each_weaker (λ q. (k + 1 ≤ q.at) × (q.at < l)) (λ q. (k ≤ q.at) × (q.at < l)) ps (λ q i. let a = i.0 in (omega (arith, a), i.1))
          (within_run ps (k + 1) (s + one_site p.site) l t h.2),
    )

-- ---- the points of a source

abbrev pub number_from : (n f : ℕ) → ℕ
number_from n zero = n
number_from n (suc f) = number_from (suc n) f

pub number_is : (n f : ℕ) → number_from n f ≡ n + f
number_is n zero = omega arith
number_is n (suc f) = let h = number_is (suc n) f in omega (arith, h)

module _ (layout : Arrangement) (program : Program) where
  abbrev pub all : List Placed
  all = all_points layout.nodes program

  -- it is a point of the source
  abbrev pub Is : Placed → Type 0
  Is p = In p all

  -- and not empty
  abbrev pub Has : Placed → Type 0
  Has p = Is p × (is_empty program p.at ≡ false)

  pub its_point : (p : Placed) → Is p → slice_get (flow_of layout.nodes program).points p.at ≡ Some p.point
  its_point p i =
      let place = place_of all p i in
      let at = points_stand_in_order layout.nodes place.0 program p place.1 in
      ap (λ n. slice_get (map (λ (q : Placed). q.point) all) n) at ∙ slice_get-map (λ (q : Placed). q.point) all place.0
      ∙ ap (option_map (λ (q : Placed). q.point)) place.1

  pub its_callee : (p : Placed) → Is p → callee_at layout program p.at ≡ p.callee
  its_callee p i =
      let place = place_of all p i in
      let at = points_stand_in_order layout.nodes place.0 program p place.1 in
      ap (λ n. called_by (slice_get all n)) at ∙ ap called_by place.1

  pub all_are : Each Is all
  all_are = each_of Is all (λ p i. i)

  -- the points of one function
  abbrev pub view : (f : ℕ) → Function → Within
  view f g = within layout.nodes (returns program.functions) f g

  pub record BodyOf (f : ℕ) (g : Function) : Type 0 where
    pub first : Is (bare (view f g) Plain (first_point program.functions f) [] [] [])
    pub body : Each Has (points_in (view f g) g.body (first_point program.functions f + 1) (sites_before 0 program.functions f) (first_point program.functions f ∷ []))
    pub last : Has (bare (view f g) Return (end_of g (first_point program.functions f))
        (leaves (returns program.functions) g.body (first_point program.functions f + 1) (first_point program.functions f ∷ [])).falls [] [])

  abbrev PointsOf : (f : ℕ) → Function → (k s : ℕ) → Type 0
  PointsOf f g k s = Each Is (points_of (view f g) g k s)

  their_points : (fs : List Function) (n k s f : ℕ) (g : Function) → Each Is (points_from layout.nodes (returns program.functions) n k s fs)
      → slice_get fs f ≡ Some g → PointsOf (number_from n f) g (first_from k fs f) (sites_before s fs f)
  their_points [] n k s f g h e = absurd (cc)
  their_points (x ∷ more) n k s zero g h e =
      let same : x ≡ g = cc in
      subst (λ y. PointsOf n y k s) same (each_left Is (points_of (view n x) x k s) _ h)
  their_points (x ∷ more) n k s (suc f) g h e =
      their_points more (suc n) (k + size_of x.body + 2) (s + accesses_in x.body) f g (each_right Is (points_of (view n x) x k s) _ h) e

  pub body_of : (f : ℕ) (g : Function) → slice_get program.functions f ≡ Some g → BodyOf f g
  body_of f g e =
      let k = first_point program.functions f in
      let s = sites_before 0 program.functions f in
      let w = view f g in
      let n : number_from 0 f ≡ f = let h = number_is 0 f in omega (arith, h) in
      let own = subst (λ m. PointsOf m g k s) n (their_points program.functions 0 1 0 f g all_are.1 e) in
      let bodies = points_in w g.body (k + 1) s (k ∷ []) in
      let ended = bare w Return (end_of g k) (leaves (returns program.functions) g.body (k + 1) (k ∷ [])).falls [] [] in
      let near = within_run bodies (k + 1) s _ _ (runs_in w g.body (k + 1) s (k ∷ [])) in
      record {
        first = own.0;
        body = each_both Is (λ p. is_empty program p.at ≡ false) bodies (each_left Is bodies (ended ∷ []) own.1)
            (each_weaker (λ p. (k + 1 ≤ p.at) × (p.at < k + 1 + size_of g.body)) (λ p. is_empty program p.at ≡ false) bodies
            (λ p i. let a = i.0 in let b = i.1 in body_full program f g p.at e (omega (arith, a)) (omega (arith, b))) near);
        last = ((each_right Is bodies (ended ∷ []) own.1).0, body_full program f g (end_of g k) e (omega arith) (omega arith));
      }

  -- what holds of Start and of the points of each function holds of all points
  module _ (P : Placed → Type 0) where
    rest_hold : (fs : List Function) (n k s : ℕ)
        → ((f : ℕ) (g : Function) → slice_get fs f ≡ Some g → Each P (points_of (view (number_from n f) g) g (first_from k fs f) (sites_before s fs f)))
        → Each P (points_from layout.nodes (returns program.functions) n k s fs)
    rest_hold [] n k s h = tt
    rest_hold (x ∷ more) n k s h =
        each_append P (points_of (view n x) x k s) _ (h 0 x refl)
        (rest_hold more (suc n) (k + size_of x.body + 2) (s + accesses_in x.body) (λ f g e. h (suc f) g e))

    pub all_hold : P (start program)
        → ((f : ℕ) (g : Function) → slice_get program.functions f ≡ Some g → Each P (points_of (view f g) g (first_point program.functions f) (sites_before 0 program.functions f)))
        → Each P all
    all_hold p h = (
      p,
      rest_hold program.functions 0 1 0
          (λ f g e. subst (λ m. Each P (points_of (view m g) g (first_point program.functions f) (sites_before 0 program.functions f)))
          (let n = number_is 0 f in let o : f ≡ number_from 0 f = omega (arith, n) in o) (h f g e)),
    )
