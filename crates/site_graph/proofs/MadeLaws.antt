-- The tests of lists that are to make a flow.
use Rattle.std.proofs.Common.{◌≡◌, ◌⊎◌, ◌↔◌, ℕ, zero, suc, ◌+◌, ◌-◌, ◌<◌, ◌≤◌, List, [], ◌∷◌, Bool, true, false, ◌||◌, ◌&&◌, ◌==◌, ltb, Some, length, get_or, refl, sym, ap, ◌∙◌, subst, inl, inr, ⊎_elim, arith}
use Rattle.std.specs.List.{All, slice_get}
use Rattle.std.specs.Option.{option_map_or}
use Rattle.std.proofs.lemmas.Bool.{cases_eq, cases_lt, ltb-true, lt-ltb, eqb-true, eq-eqb, or_cases, or_left, or_right, and_parts, and_from}
use Rattle.std.proofs.lemmas.List.{get_or_default}
use Rattle.std.proofs.lemmas.Option.{slice_get_within, slice_get-get_or, get_or_from_slice_get, slice_get_past}
use Rattle.site_graph.specs.declared.flow.Edge.{Edge}
use Rattle.site_graph.specs.declared.point.Point.{Point}
use Rattle.site_graph.specs.declared.point.PointKind.TheVariants.{Plain, Access}
use Rattle.site_graph.specs.Graph.{Graph, kind_at, IsAt}
use Rattle.site_graph.specs.Kept.{IsFlow, IsSiteOf}
use Rattle.site_graph.specs.Made.{IsOneOf, IsPoint, ArePoints, AccessAt, HasOne, AreKept}
use Rattle.site_graph.specs.Rising.{IsRising, edge_before}

-- ---- rising lists

-- the members before the n-th rise
abbrev pub RisesTo : {X : Type 0} → (X → X → Bool) → List X → ℕ → Type 0
RisesTo {X} before xs n = (i j : ℕ) (d : X) → i < j → j < n → before (get_or xs i d) (get_or xs j d) ≡ true

pub rises_to_one : {X : Type 0} (before : X → X → Bool) (xs : List X) → RisesTo before xs 1
rises_to_one before xs i j d l h = absurd (omega arith)

pub rises_more : {X : Type 0} (before : X → X → Bool) → ((a b c : X) → before a b ≡ true → before b c ≡ true → before a c ≡ true) → (xs : List X) (n : ℕ) → 1 ≤ n
    → ((d : X) → before (get_or xs (n - 1) d) (get_or xs n d) ≡ true) → RisesTo before xs n → RisesTo before xs (n + 1)
rises_more before trans xs n l step r i j d h k = ⊎_elim
    (λ e. subst (λ m. before (get_or xs i d) (get_or xs m d) ≡ true) (sym e)
    (⊎_elim (λ f. subst (λ m. before (get_or xs m d) (get_or xs n d) ≡ true) (sym f) (step d))
    (λ f. trans (get_or xs i d) (get_or xs (n - 1) d) (get_or xs n d) (r i (n - 1) d (omega arith) (omega arith)) (step d))
    (cases_eq i (n - 1))))
    (λ e. r i j d h (omega arith)) (cases_eq j n)

pub numbers_trans : (a b c : ℕ) → ltb a b ≡ true → ltb b c ≡ true → ltb a c ≡ true
numbers_trans a b c p q = let l = ltb-true a b p in let m = ltb-true b c q in lt-ltb a c (omega arith)

before_from : (a b : Edge) → edge_before a b ≡ true → (a.from < b.from) ⊎ ((a.from ≡ b.from) × (a.to < b.to))
before_from a b t = ⊎_elim (λ s. inl (ltb-true a.from b.from s))
    (λ s. let p = and_parts (a.from == b.from) (ltb a.to b.to) s in inr (eqb-true a.from b.from p.0, ltb-true a.to b.to p.1))
    (or_cases (ltb a.from b.from) ((a.from == b.from) && ltb a.to b.to) t)

before_to : (a b : Edge) → (a.from < b.from) ⊎ ((a.from ≡ b.from) × (a.to < b.to)) → edge_before a b ≡ true
before_to a b (inl l) = or_left (ltb a.from b.from) ((a.from == b.from) && ltb a.to b.to) (lt-ltb a.from b.from l)
before_to a b (inr (e, l)) = or_right (ltb a.from b.from) ((a.from == b.from) && ltb a.to b.to) (and_from (a.from == b.from) (ltb a.to b.to) (eq-eqb a.from b.from e) (lt-ltb a.to b.to l))

pub edges_trans : (a b c : Edge) → edge_before a b ≡ true → edge_before b c ≡ true → edge_before a c ≡ true
edges_trans a b c p q = before_to a c (chain (before_from a b p) (before_from b c q))
  where
    chain : (a.from < b.from) ⊎ ((a.from ≡ b.from) × (a.to < b.to)) → (b.from < c.from) ⊎ ((b.from ≡ c.from) × (b.to < c.to)) → (a.from < c.from) ⊎ ((a.from ≡ c.from) × (a.to < c.to))
    chain (inl l) (inl m) = inl (omega arith)
    chain (inl l) (inr (e, m)) = inl (omega arith)
    chain (inr (e, l)) (inl m) = inl (omega arith)
    chain (inr (e, l)) (inr (f, m)) = inr (omega arith, omega arith)

-- ---- one point for a site

-- whether one of the first n points accesses the site; no two of them do
pub record Found (points : List Point) (number n : ℕ) (found : Bool) : Type 0 where
  pub some : (found ≡ true) ↔ ((a : ℕ) × (a < n) × AccessAt points number a)
  pub one : (a b : ℕ) → a < n → b < n → AccessAt points number a → AccessAt points number b → a ≡ b

pub none_found : (points : List Point) (number : ℕ) → Found points number 0 false
none_found points number = record {
  some = (λ t. cc, λ x. absurd (omega (arith, x.1)));
  one = λ a b l h p q. absurd (omega arith);
}

pub more_found : (points : List Point) (number n : ℕ) (p : Point) (found here : Bool) → slice_get points n ≡ Some p → ((here ≡ true) ↔ (p.kind ≡ Access number))
    → ((found && here) ≡ true → ⊥) → Found points number n found → Found points number (n + 1) (found || here)
more_found points number n p found here s is once f = record {
  some = (
    (λ t. ⊎_elim (λ u. let x = f.some.0 u in (x.0, omega (arith, x.1), x.2)) (λ u. (n, omega arith, (p, s, is.0 u))) (or_cases found here t)),
    (λ x. ⊎_elim (λ e. or_right found here (at_n x.0 e x.2)) (λ e. or_left found here (f.some.1 (x.0, omega (arith, x.1, e), x.2))) (cases_eq x.0 n)),
  );
  one = λ a b l h x y. ⊎_elim
      (λ e. ⊎_elim (λ g. e ∙ sym g) (λ g. absurd (once (and_from found here (f.some.1 (b, omega arith, y)) (at_n a e x)))) (cases_eq b n))
      (λ e. ⊎_elim (λ g. absurd (once (and_from found here (f.some.1 (a, omega arith, x)) (at_n b g y)))) (λ g. f.one a b (omega arith) (omega arith) x y) (cases_eq b n))
      (cases_eq a n);
}
  where
    at_n : (a : ℕ) → a ≡ n → AccessAt points number a → here ≡ true
    at_n a e (q, t, k) =
        let same : Some q ≡ Some p = sym t ∙ (ap (slice_get points) e ∙ s) in
        let eq : q ≡ p = cc in
        is.1 (ap (λ (x : Point). x.kind) (sym eq) ∙ k)

pub not_one : (points : List Point) (number n m : ℕ) (p : Point) (found here : Bool) → slice_get points n ≡ Some p → n < m → ((here ≡ true) ↔ (p.kind ≡ Access number))
    → found ≡ true → here ≡ true → Found points number n found → HasOne points number m → ⊥
not_one points number n m p found here s l is t u f one =
    let x = f.some.0 t in
    let e = one.1 x.0 n (omega (arith, x.1)) l x.2 (p, s, is.0 u) in
    omega (arith, e, x.1)

pub has_one : (points : List Point) (number n : ℕ) (found : Bool) → n ≡ length points → Found points number n found → (found ≡ true) ↔ HasOne points number (length points)
has_one points number n found e f = subst (λ m. (found ≡ true) ↔ HasOne points number m) e (
  λ t. (f.some.0 t, f.one),
  λ h. f.some.1 h.0,
)

-- ---- the lists make a flow exactly where the tests hold

kind_of : (graph : Graph) (a : ℕ) (p : Point) → slice_get graph.points a ≡ Some p → kind_at graph a ≡ p.kind
kind_of graph a p s = ap (λ o. option_map_or (λ (q : Point). q.kind) o Plain) s

some_point : (points : List Point) (t : ℕ) → t < length points → (p : Point) × (slice_get points t ≡ Some p)
some_point [] t l = absurd (omega arith)
some_point (x ∷ xs) zero l = (x, refl)
some_point (x ∷ xs) (suc t) l = some_point xs t (omega arith)

access_at : (graph : Graph) (number a : ℕ) → IsAt graph number a → AccessAt graph.points number a
access_at graph number a is = ⊎_elim
    (λ l. let p = some_point graph.points a l in (p.0, p.1, sym (kind_of graph a p.0 p.1) ∙ is))
    (λ l. let e : Plain ≡ Access number = sym (ap (λ o. option_map_or (λ (q : Point). q.kind) o Plain) (slice_get_past graph.points a l)) ∙ is in cc)
    (cases_lt a (length graph.points))

is_at : (graph : Graph) (number a : ℕ) → AccessAt graph.points number a → IsAt graph number a
is_at graph number a (p, s, k) = kind_of graph a p s ∙ k

pub flow_from : (graph : Graph) → AreKept graph.points graph.edges (length graph.sites) graph.exposed → IsFlow graph
flow_from graph (counted, points, one, edges, exposed) = record {
  few_points = counted.0;
  few_sites = counted.1;
  some_point = counted.2;
  start = λ t l.
      let p = some_point graph.points t l in
      let k = kind_of graph t p.0 p.1 in
      let s = (points t p.0 l p.1).0 in
      (λ e. s.0 (sym k ∙ e), λ e. k ∙ s.1 e);
  edges_within = edges.0;
  takes_within = λ k d l. (points k (get_or graph.points k d) l (slice_get-get_or graph.points k d l)).1;
  access_within = λ t number is.
      let x = access_at graph number t is in
      (points t x.0 (slice_get_within graph.points t x.0 x.1) x.1).4 number x.2;
  has_point = λ number h. let x = (one number h).0 in (x.0, is_at graph number x.0 x.2);
  one_point = λ number t u a b.
      let x = access_at graph number t a in
      let y = access_at graph number u b in
      let l = slice_get_within graph.points t x.0 x.1 in
      let m = slice_get_within graph.points u y.0 y.1 in
      (one number ((points t x.0 l x.1).4 number x.2)).1 t u l m x y;
  edges_rise = edges.1;
  exposed_rise = exposed;
  takes_rise = λ k d l. (points k (get_or graph.points k d) l (slice_get-get_or graph.points k d l)).2;
  reads_rise = λ k d l. (points k (get_or graph.points k d) l (slice_get-get_or graph.points k d l)).3;
}

read_all : (P : Point → Type 0) (points : List Point) (t : ℕ) (p : Point) → slice_get points t ≡ Some p → All P points → P p
read_all P points t p s a = subst P (get_or_from_slice_get points t p p s) (a t p (slice_get_within points t p s))

pub flow_to : (graph : Graph) → IsFlow graph → AreKept graph.points graph.edges (length graph.sites) graph.exposed
flow_to graph f = (
  (f.few_points, f.few_sites, f.some_point),
  (λ t p l s.
      let k = kind_of graph t p s in
      let st = f.start t l in (
        (λ e. st.0 (k ∙ e), λ e. sym k ∙ st.1 e),
        read_all (λ q. All (IsSiteOf graph) q.takes) graph.points t p s f.takes_within,
        read_all (λ q. IsRising ltb q.takes) graph.points t p s f.takes_rise,
        read_all (λ q. IsRising ltb q.reads) graph.points t p s f.reads_rise,
        λ number e. f.access_within t number (k ∙ e),
      )),
  (λ number h.
      let x = f.has_point number h in
      let a = access_at graph number x.0 x.1 in
      ((x.0, slice_get_within graph.points x.0 a.0 a.1, a), λ t u l m p q. f.one_point number t u (is_at graph number t p) (is_at graph number u q))),
  (f.edges_within, f.edges_rise),
  f.exposed_rise,
)

pub step_at : {X : Type 0} (before : X → X → Bool) (xs : List X) (n : ℕ) (e : X) → n < length xs → before (get_or xs (n - 1) e) (get_or xs n e) ≡ true
    → (d : X) → before (get_or xs (n - 1) d) (get_or xs n d) ≡ true
step_at before xs n e l t d =
    ap (λ x. before x (get_or xs n d)) (get_or_default xs (n - 1) d e (omega arith)) ∙ (ap (λ x. before (get_or xs (n - 1) e) x) (get_or_default xs n d e l) ∙ t)

pub points_more : (points : List Point) (n sites : ℕ) (p : Point) → n < length points → p ≡ get_or points n p → IsPoint p n sites → ArePoints points n sites → ArePoints points (n + 1) sites
points_more points n sites p l is h all t q m s = ⊎_elim
    (λ e. let same : Some q ≡ Some p = sym s ∙ (ap (slice_get points) e ∙ (slice_get-get_or points n p l ∙ ap Some (sym is))) in
    let eq : q ≡ p = cc in
    subst (λ x. IsPoint q x sites) (sym e) (subst (λ x. IsPoint x n sites) (sym eq) h))
    (λ e. all t q (omega arith) s) (cases_eq t n)

pub point_read : (points : List Point) (n : ℕ) (p : Point) → n < length points → p ≡ get_or points n p → slice_get points n ≡ Some p
point_read points n p l is = slice_get-get_or points n p l ∙ ap Some (sym is)

pub ones_more : (points : List Point) (before : ℕ) → HasOne points (before + 1) (length points) → ((number : ℕ) → IsOneOf before number → HasOne points number (length points))
    → (number : ℕ) → IsOneOf (before + 1) number → HasOne points number (length points)
ones_more points before h all number l = ⊎_elim
    (λ e. subst (λ x. HasOne points x (length points)) (sym e) h)
    (λ e. all number (omega (arith, l.0), omega (arith, l.1, e))) (cases_eq number (before + 1))

pub all_of : (a b c d : Bool) (Z A B C D : Type 0) → Z → ((a ≡ true) ↔ A) → ((b ≡ true) ↔ B) → ((c ≡ true) ↔ C) → ((d ≡ true) ↔ D)
    → ((((a && b) && c) && d) ≡ true) ↔ (Z × A × B × C × D)
all_of a b c d Z A B C D z f g h k = (
  λ t. let p = and_parts ((a && b) && c) d t in
      let q = and_parts (a && b) c p.0 in
      let r = and_parts a b q.0 in
      (z, f.0 r.0, g.0 r.1, h.0 q.1, k.0 p.1),
  λ x. and_from ((a && b) && c) d (and_from (a && b) c (and_from a b (f.1 x.1) (g.1 x.2)) (h.1 x.3)) (k.1 x.4),
)

pub made_from : (graph : Graph) (points : List Point) (edges : List Edge) (sites : ℕ) (exposed : List ℕ) → points ≡ graph.points → edges ≡ graph.edges → sites ≡ length graph.sites → exposed ≡ graph.exposed
    → AreKept points edges sites exposed → IsFlow graph
made_from graph points edges sites exposed e f g h k =
    flow_from graph
    (subst (AreKept graph.points graph.edges (length graph.sites)) h
    (subst (λ x. AreKept graph.points graph.edges x exposed) g (subst (λ x. AreKept graph.points x sites exposed) f (subst (λ x. AreKept x edges sites exposed) e k))))

pub made_to : (graph : Graph) (points : List Point) (edges : List Edge) (sites : ℕ) (exposed : List ℕ) → points ≡ graph.points → edges ≡ graph.edges → sites ≡ length graph.sites → exposed ≡ graph.exposed
    → IsFlow graph → AreKept points edges sites exposed
made_to graph points edges sites exposed e f g h k =
    subst (λ x. AreKept x edges sites exposed) (sym e) (subst (λ x. AreKept graph.points x sites exposed) (sym f)
    (subst (λ x. AreKept graph.points graph.edges x exposed) (sym g) (subst (AreKept graph.points graph.edges (length graph.sites)) (sym h) (flow_to graph k))))
