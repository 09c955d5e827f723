-- The first edges of points, one point after another.
use Rattle.std.proofs.Common.{◌≡◌, ◌↔◌, ℕ, zero, suc, ◌+◌, ◌<◌, ◌≤◌, List, [], ◌∷◌, ◌++◌, true, ◌==◌, ◌&&◌, ltb, Some, length, get_or, refl, sym, ap, ◌∙◌, subst, ⊎_elim, arith}
use Rattle.std.specs.List.{Contains, All, slice_get}
use Rattle.std.proofs.lemmas.Bool.{or_cases, and_parts, ltb-true, eqb-true, cases_lt}
use Rattle.std.proofs.lemmas.List.{length_push, get_or_push, get_or_append_left}
use Rattle.std.proofs.lemmas.Option.{slice_get_within, slice_get-get_or, get_or_from_slice_get}
use Rattle.site_graph.specs.declared.flow.Edge.{Edge}
use Rattle.site_graph.specs.declared.point.Point.{Point}
use Rattle.site_graph.specs.Graph.{Graph}
use Rattle.site_graph.specs.Kept.{IsFlow}
use Rattle.site_graph.specs.Opened.{IsTarget}
use Rattle.site_graph.specs.Reached.{AreFirsts}
use Rattle.site_graph.specs.Rising.{IsRising, edge_before}
use Rattle.site_graph.specs.Ways.{Goes}

-- the edges below the number lead from lower points, and no others
abbrev pub Parts : List Edge → (point next : ℕ) → Type 0
Parts edges p next = (k : ℕ) (e : Edge) → slice_get edges k ≡ Some e → (k < next) ↔ (e.from < p)

-- the first edges of so many points; the last of them is `next`
pub record FirstsTo (edges : List Edge) (points next : ℕ) (firsts : List ℕ) : Type 0 where
  pub count : length firsts ≡ points
  pub last : next ≤ length edges
  pub low : (k : ℕ) (e : Edge) → slice_get edges k ≡ Some e → k < next → e.from < points
  pub within : (p : ℕ) → p < points → get_or firsts p 0 ≤ length edges
  pub parts : (p : ℕ) → p < points → Parts edges p (get_or firsts p 0)

pub no_firsts : (edges : List Edge) → FirstsTo edges 0 0 []
no_firsts edges = record {
  count = refl;
  last = omega arith;
  low = λ k e s l. absurd (omega arith);
  within = λ p l. absurd (omega arith);
  parts = λ p l. absurd (omega arith);
}

rises : (a b : Edge) → edge_before a b ≡ true → a.from ≤ b.from
rises a b t = ⊎_elim
    (λ s. let l = ltb-true a.from b.from s in omega (arith, l))
    (λ s. let e = eqb-true a.from b.from (and_parts (a.from == b.from) (ltb a.to b.to) s).0 in omega (arith, e))
    (or_cases (ltb a.from b.from) ((a.from == b.from) && ltb a.to b.to) t)

rising_from : (edges : List Edge) → IsRising edge_before edges → (i j : ℕ) (a b : Edge) → i ≤ j → slice_get edges i ≡ Some a → slice_get edges j ≡ Some b → a.from ≤ b.from
rising_from edges up i j a b l s t =
    ⊎_elim
    (λ q. let x = get_or_from_slice_get edges i a a s in
    let y = get_or_from_slice_get edges j b a t in
    let h = rises (get_or edges i a) (get_or edges j a) (up i j a q (slice_get_within edges j b t)) in
    omega (arith, h, ap (λ (e : Edge). e.from) x, ap (λ (e : Edge). e.from) y))
    (λ q. let same : i ≡ j = omega arith in
    let x = get_or_from_slice_get edges i a a s in
    let y = get_or_from_slice_get edges j b a t in
    omega (arith, ap (λ (e : Edge). e.from) x, ap (λ (e : Edge). e.from) y, ap (λ n. (get_or edges n a).from) same))
    (cases_lt i j)

pub more_firsts : (edges : List Edge) (points next result : ℕ) (firsts more : List ℕ) → IsRising edge_before edges → FirstsTo edges points next firsts
    → more ≡ firsts ++ result ∷ [] → next ≤ result → result ≤ length edges → ((k : ℕ) (d : Edge) → next ≤ k → k < result → (get_or edges k d).from < points)
    → ((d : Edge) → result < length edges → points ≤ (get_or edges result d).from) → FirstsTo edges (points + 1) result more
more_firsts edges points next result firsts more up f e least within below stop =
    subst (FirstsTo edges (points + 1) result) (sym e) (record {
      count = length_push firsts result ∙ ap (λ n. n + 1) f.count;
      last = within;
      low = λ k e' s l. let h = low k e' s l in omega (arith, h);
      within = λ p l. ⊎_elim (λ q. let h = f.within p q in omega (arith, h, old p q)) (λ q. let s = new p (omega arith) in omega (arith, s)) (cases_lt p points);
      parts = λ p l. ⊎_elim (λ q. subst (Parts edges p) (sym (old p q)) (f.parts p q))
          (λ q. let s = new p (omega arith) in let same : p ≡ points = omega arith in
          subst (Parts edges p) (sym s) (subst (λ n. Parts edges n result) (sym same) at_end))
          (cases_lt p points);
    })
  where
    old : (p : ℕ) → p < points → get_or (firsts ++ result ∷ []) p 0 ≡ get_or firsts p 0
    old p l = get_or_append_left firsts (result ∷ []) 0 p (omega (arith, f.count))

    new : (p : ℕ) → p ≡ points → get_or (firsts ++ result ∷ []) p 0 ≡ result
    new p q = get_or_push firsts result 0 p (f.count ∙ sym q)

    low : (k : ℕ) (x : Edge) → slice_get edges k ≡ Some x → k < result → x.from < points
    low k x s l =
        ⊎_elim (λ h. f.low k x s h)
        (λ h. let b = below k x h l in omega (arith, b, ap (λ (y : Edge). y.from) (get_or_from_slice_get edges k x x s)))
        (cases_lt k next)

    at_end : Parts edges points result
    at_end k x s = (
      (λ l. low k x s l),
      (λ l. ⊎_elim (λ h. h)
          (λ h. let in' = slice_get_within edges k x s in
          let some : slice_get edges result ≡ Some (get_or edges result x) = slice_get-get_or edges result x (omega arith) in
          let u = rising_from edges up result k (get_or edges result x) x h some s in
          let v = stop x (omega arith) in
          absurd (omega (arith, u, v)))
          (cases_lt k result)),
    )

pub firsts_of : (graph : Graph) (points next : ℕ) (firsts : List ℕ) → points ≡ length graph.points + 1 → FirstsTo graph.edges points next firsts → AreFirsts graph firsts
firsts_of graph points next firsts e f = record {
  count = f.count ∙ e;
  within = λ p l. f.within p (omega arith);
  below = λ p k x l s. f.parts p (omega arith) k x s;
}

-- ---- the edges from one point

pub firsts_order : (graph : Graph) (firsts : List ℕ) (p : ℕ) → AreFirsts graph firsts → p < length graph.points → get_or firsts p 0 ≤ get_or firsts (p + 1) 0
firsts_order graph firsts p f l =
    ⊎_elim
    (λ h. let w = f.within p (omega arith) in
    let k = get_or firsts (p + 1) 0 in
    absurd (unordered (get_or firsts (p + 1) 0) h (omega arith)))
    (λ h. h)
    (cases_lt (get_or firsts (p + 1) 0) (get_or firsts p 0))
  where
    at_edge : (k : ℕ) (x : Edge) → slice_get graph.edges k ≡ Some x → k < get_or firsts p 0 → k < get_or firsts (p + 1) 0
    at_edge k x s h = let u = (f.below p k x (omega arith) s).0 h in (f.below (p + 1) k x (omega arith) s).1 (omega (arith, u))

    unordered : (k : ℕ) → k < get_or firsts p 0 → k ≡ get_or firsts (p + 1) 0 → ⊥
    unordered k h e =
        let w = f.within p (omega arith) in
        let some = some_at graph.edges k (omega arith) in
        let u = at_edge k some.0 some.1 h in
        omega (arith, u)
      where
        some_at : (edges : List Edge) (k : ℕ) → k < length edges → (x : Edge) × (slice_get edges k ≡ Some x)
        some_at [] k l = absurd (omega arith)
        some_at (x ∷ xs) zero l = (x, refl)
        some_at (x ∷ xs) (suc k) l = some_at xs k (omega arith)

goes_at : (edges : List Edge) (e : Edge) → Contains edges e → (k : ℕ) × (slice_get edges k ≡ Some e)
goes_at edges e (k, l, same) = (k, slice_get-get_or edges k e l ∙ ap Some same)

at_goes : (edges : List Edge) (k : ℕ) (e : Edge) → slice_get edges k ≡ Some e → Contains edges e
at_goes edges k e s = (k, slice_get_within edges k e s, get_or_from_slice_get edges k e e s)

-- an edge leads from the point exactly where one of those edges leads there
pub target_goes : (graph : Graph) (firsts : List ℕ) (p t : ℕ) → AreFirsts graph firsts → p < length graph.points
    → IsTarget graph.edges (get_or firsts p 0) (get_or firsts (p + 1) 0) t → Goes graph p t
target_goes graph firsts p t f l (k, e, m, n, at, is) =
    let high = (f.below (p + 1) k e (omega arith) at).0 n in
    let low : p ≤ e.from = ⊎_elim (λ q. absurd (let s = (f.below p k e (omega arith) at).1 q in omega (arith, s))) (λ q. q) (cases_lt e.from p) in
    let same : e.from ≡ p = omega arith in
    let same_edge : e ≡ record { from = p; to = t } = ap (λ x. record { from = x; to = e.to }) same ∙ ap (λ x. record { from = p; to = x }) is in
    subst (Contains graph.edges) same_edge (at_goes graph.edges k e at)

pub goes_target : (graph : Graph) (firsts : List ℕ) (p t : ℕ) → AreFirsts graph firsts → p < length graph.points
    → Goes graph p t → IsTarget graph.edges (get_or firsts p 0) (get_or firsts (p + 1) 0) t
goes_target graph firsts p t f l g =
    let at = goes_at graph.edges (record { from = p; to = t }) g in (
      at.0,
      record { from = p; to = t },
      ⊎_elim (λ q. absurd (let s = (f.below p at.0 (record { from = p; to = t }) (omega arith) at.1).0 q in omega (arith, s))) (λ q. q) (cases_lt at.0 (get_or firsts p 0)),
      (f.below (p + 1) at.0 (record { from = p; to = t }) (omega arith) at.1).1 (omega arith),
      at.1,
      refl,
    )

pub firsts_at_end : (graph : Graph) (points next : ℕ) (edges : List Edge) (all : List Point) (firsts : List ℕ) → edges ≡ graph.edges → all ≡ graph.points
    → length all + 1 ≤ points → points ≤ length all + 1 → FirstsTo edges points next firsts → AreFirsts graph firsts
firsts_at_end graph points next edges all firsts e f low high s =
    firsts_of graph points next firsts (omega (arith, ap (λ (xs : List Point). length xs) f)) (subst (λ es. FirstsTo es points next firsts) e s)

pub targets_within : (graph : Graph) (edges : List Edge) (columns : ℕ) → IsFlow graph → edges ≡ graph.edges → columns ≡ length graph.points → All (λ e. e.to < columns) edges
targets_within graph edges columns kept e f =
    subst (All (λ (x : Edge). x.to < columns)) (sym e) (λ k d l. let h = (kept.edges_within k d l).1 in omega (arith, h, f))
