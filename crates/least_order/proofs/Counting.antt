-- Edges counted, and the last of them that leads from an item.
use Rattle.std.proofs.Common.{◌≡◌, ℕ, zero, suc, ◌+◌, ◌<◌, ◌≤◌, List, [], ◌∷◌, ◌++◌, slice_get, Option, Some, None, Bool, true, false}
use Rattle.std.proofs.Common.{cond, ◌==◌, ◌&&◌, ◌||◌, ◌≢◌, ◌⊎◌, eqb, refl, sym, ap, ◌∙◌, subst, arith, eq-eqb, eqb-true, ⊎_elim, inl, inr}
use Rattle.std.proofs.Math.Bool.{or-false, or_assoc}
use Rattle.std.proofs.lemmas.Bool.{or_cases, or_left, or_right}
use Rattle.std.proofs.lemmas.Bool.Decides.{eqb_tells}
use Rattle.std.specs.Option.{option_map_or}
use Rattle.least_order.specs.declared.edge.Edge.{Edge}
use Rattle.least_order.specs.Least.{joins, leads}
use Rattle.least_order.specs.Taking.{bit, is_in, at_edge, how_many, last, is_link}

pub bit_le : (b : Bool) → bit b ≤ 1
bit_le true = omega arith
bit_le false = omega arith

pub at-some : (edges : List Edge) (test : Edge → Bool) (k : ℕ) (edge : Edge) → slice_get edges k ≡ Some edge →
    at_edge edges test k ≡ test edge
at-some edges test k edge e = ap (λ o. option_map_or test o false) e

pub how_many_le : (edges : List Edge) (test : Edge → Bool) (k : ℕ) → how_many edges test k ≤ k
how_many_le edges test zero = omega arith
how_many_le edges test (suc k) =
    let h = how_many_le edges test k in
    let b = bit_le (at_edge edges test k) in
    omega arith

pub how_many-next : (edges : List Edge) (test : Edge → Bool) (k : ℕ) (edge : Edge) → slice_get edges k ≡ Some edge →
    how_many edges test (suc k) ≡ how_many edges test k + bit (test edge)
how_many-next edges test k edge e = ap (λ b. how_many edges test k + bit b) (at-some edges test k edge e)

pub last_le : (edges : List Edge) (x k : ℕ) → last edges x k ≤ k
last_le edges x zero = omega arith
last_le edges x (suc k) = by (at_edge edges (λ e. e.before == x) k) (last_le edges x k)
  where
    by : (b : Bool) → last edges x k ≤ k → cond b (suc k) (last edges x k) ≤ suc k
    by true h = omega arith
    by false h = omega arith

no_link : (x y : ℕ) (o : Option Edge) → option_map_or (λ e. e.before == x) o false ≡ false →
    option_map_or (is_link x y) o false ≡ false
no_link x y None h = refl
no_link x y (Some edge) h = ap (λ b. b && (edge.after == y)) h

-- those behind the last one from x do not lead from x
pub links_last : (edges : List Edge) (x y k : ℕ) →
    how_many edges (is_link x y) (last edges x k) ≡ how_many edges (is_link x y) k
links_last edges x y zero = refl
links_last edges x y (suc k) = by (at_edge edges (λ e. e.before == x) k) refl (links_last edges x y k)
  where
    by : (b : Bool) → at_edge edges (λ e. e.before == x) k ≡ b →
        how_many edges (is_link x y) (last edges x k) ≡ how_many edges (is_link x y) k →
        how_many edges (is_link x y) (cond b (suc k) (last edges x k)) ≡ how_many edges (is_link x y) (suc k)
    by true e h = refl
    by false e h =
        let none : bit (at_edge edges (is_link x y) k) ≡ 0 = ap bit (no_link x y (slice_get edges k) e) in
        omega (arith, h, none)

leads_from : (x : ℕ) (o : Option Edge) → option_map_or (λ e. e.before == x) o false ≡ true →
    (edge : Edge) × (o ≡ Some edge) × (edge.before ≡ x)
leads_from x None h = absurd cc
leads_from x (Some edge) h = (edge, refl, eqb-true edge.before x h)

-- the edge with this number leads from x
abbrev pub LeadsFrom : List Edge → (x at : ℕ) → Type 0
LeadsFrom edges x at = (edge : Edge) × (slice_get edges at ≡ Some edge) × (edge.before ≡ x)

-- so does the last one
pub last_is : (edges : List Edge) (x k at : ℕ) → last edges x k ≡ suc at → LeadsFrom edges x at
last_is edges x zero at h = absurd cc
last_is edges x (suc k) at h = by (at_edge edges (λ e. e.before == x) k) refl (last_is edges x k at) h
  where
    by : (b : Bool) → at_edge edges (λ e. e.before == x) k ≡ b → (last edges x k ≡ suc at → LeadsFrom edges x at) →
        cond b (suc k) (last edges x k) ≡ suc at → LeadsFrom edges x at
    by true e further h =
        let same : k ≡ at = omega (arith, h) in
        subst (LeadsFrom edges x) same (leads_from x (slice_get edges k) e)
    by false e further h = further h

-- none is counted where none passes the test
pub none_counted : (edges : List Edge) (test : Edge → Bool) (n : ℕ) →
    ((k : ℕ) → k < n → at_edge edges test k ≡ false) → how_many edges test n ≡ 0
none_counted edges test zero h = refl
none_counted edges test (suc n) h =
    let before = none_counted edges test n (λ k l. h k (omega arith)) in
    let now : bit (at_edge edges test n) ≡ 0 = ap bit (h n (omega arith)) in
    omega (arith, before, now)

pub some_counted : (edges : List Edge) (test : Edge → Bool) (n k : ℕ) → how_many edges test n ≡ 0 → k < n →
    at_edge edges test k ≡ false
some_counted edges test zero k h l = absurd (omega (arith, l))
some_counted edges test (suc n) k h l =
    let before : how_many edges test n ≡ 0 = omega (arith, h) in
    by (at_edge edges test n) refl (eqb_tells k n) (λ m. some_counted edges test n k before m)
  where
    by : (b : Bool) → at_edge edges test n ≡ b → ((eqb k n ≡ true) × (k ≡ n)) ⊎ ((eqb k n ≡ false) × (k ≢ n)) →
        (k < n → at_edge edges test k ≡ false) → at_edge edges test k ≡ false
    by b e (inr p) further = further (let ne = p.1 in omega (arith, l, ne))
    by false e (inl p) further = ap (at_edge edges test) p.1 ∙ e
    by true e (inl p) further = let one : bit (at_edge edges test n) ≡ 1 = ap bit e in absurd (omega (arith, h, one))

-- the edge that joins the two
pub leads_by : (edges : List Edge) (a b : ℕ) → leads edges a b ≡ true →
    (k : ℕ) × (edge : Edge) × (slice_get edges k ≡ Some edge) × (joins edge a b ≡ true)
leads_by [] a b h = absurd cc
leads_by (edge ∷ edges) a b h = ⊎_elim
    (λ j. (0, edge, refl, j))
    (λ l. let p = leads_by edges a b l in (suc p.0, p.1, p.2, p.3))
    (or_cases (joins edge a b) (leads edges a b) h)

pub leads_where : (edges : List Edge) (a b k : ℕ) (edge : Edge) → slice_get edges k ≡ Some edge →
    joins edge a b ≡ true → leads edges a b ≡ true
leads_where [] a b k edge e j = absurd cc
leads_where (first ∷ edges) a b zero edge e j =
    let same : first ≡ edge = cc in or_left _ _ (subst (λ u. joins u a b ≡ true) (sym same) j)
leads_where (first ∷ edges) a b (suc k) edge e j = or_right _ _ (leads_where edges a b k edge e j)

pub is_in-last : (out : List ℕ) (x y : ℕ) → is_in (out ++ x ∷ []) y ≡ (is_in out y || (x == y))
is_in-last [] x y = or-false (x == y)
is_in-last (z ∷ out) x y =
    ap (λ b. (z == y) || b) (is_in-last out x y) ∙ sym (or_assoc (z == y) (is_in out y) (x == y))

pub taken_one : (out : List ℕ) (x : ℕ) → is_in (out ++ x ∷ []) x ≡ true
taken_one out x = is_in-last out x x ∙ or_right _ _ (eq-eqb x x refl)

pub others_stay : (out : List ℕ) (x y : ℕ) → x ≢ y → is_in (out ++ x ∷ []) y ≡ is_in out y
others_stay out x y ne = is_in-last out x y ∙ by (x == y) refl
  where
    by : (b : Bool) → (x == y) ≡ b → (is_in out y || b) ≡ is_in out y
    by true e = absurd (ne (eqb-true x y e))
    by false e = or-false (is_in out y)

pub kept_one : (out : List ℕ) (x y : ℕ) → is_in out y ≡ true → is_in (out ++ x ∷ []) y ≡ true
kept_one out x y h = is_in-last out x y ∙ or_left _ _ h
