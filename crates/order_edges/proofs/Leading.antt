-- Where edges lead that are made one after another.
use Rattle.std.proofs.Common.{◌≡◌, ◌⊎◌, ℕ, zero, suc, ◌+◌, ◌<◌, ◌≤◌, List, [], ◌∷◌, ◌++◌, length, All, Option, Some, None, Bool, true, false, ◌==◌, ◌&&◌, ◌||◌, refl, sym, ap, subst, ◌∙◌, arith, inl, inr, ⊎_elim, eqb-true, eq-eqb}
use Rattle.std.proofs.lemmas.Bool.{and_parts, and_from, or_left, or_right, or_cases, cases_lt}
use Rattle.effect_order.specs.Lists.{Each}
use Rattle.effect_order.specs.Walk.{Walk}
use Rattle.effect_order.proofs.Walks.{walk-append, walk-map}
use Rattle.least_order.specs.declared.edge.Edge.{Edge}
use Rattle.least_order.specs.Least.{IsWithin, leads, joins}
use Rattle.least_order.specs.Ways.{Joined}
use Rattle.order_edges.specs.Lines.{link, edges_if, edges_upto}

pub leads_left : (xs ys : List Edge) (a b : ℕ) → leads xs a b ≡ true → leads (xs ++ ys) a b ≡ true
leads_left [] ys a b h = absurd cc
leads_left (x ∷ xs) ys a b h =
    ⊎_elim (λ j. or_left _ _ j) (λ t. or_right (joins x a b) _ (leads_left xs ys a b t)) (or_cases (joins x a b) (leads xs a b) h)

pub leads_right : (xs ys : List Edge) (a b : ℕ) → leads ys a b ≡ true → leads (xs ++ ys) a b ≡ true
leads_right [] ys a b h = h
leads_right (x ∷ xs) ys a b h = or_right (joins x a b) _ (leads_right xs ys a b h)

pub leads_either : (xs ys : List Edge) (a b : ℕ) → leads (xs ++ ys) a b ≡ true → (leads xs a b ≡ true) ⊎ (leads ys a b ≡ true)
leads_either [] ys a b h = inr h
leads_either (x ∷ xs) ys a b h =
    ⊎_elim (λ j. inl (or_left _ _ j))
    (λ t. ⊎_elim (λ u. inl (or_right (joins x a b) _ u)) (λ u. inr u) (leads_either xs ys a b t))
    (or_cases (joins x a b) (leads (xs ++ ys) a b) h)

pub upto_leads : (f : ℕ → List Edge) (n i a b : ℕ) → i < n → leads (f i) a b ≡ true → leads (edges_upto f n) a b ≡ true
upto_leads f zero i a b w h = absurd (omega (arith, w))
upto_leads f (suc n) i a b w h =
    ⊎_elim (λ t. leads_left (edges_upto f n) (f n) a b (upto_leads f n i a b t h))
    (λ t. let e : i ≡ n = omega (arith, w, t) in leads_right (edges_upto f n) (f n) a b (subst (λ k. leads (f k) a b ≡ true) e h))
    (cases_lt i n)

pub leads_upto : (f : ℕ → List Edge) (n a b : ℕ) → leads (edges_upto f n) a b ≡ true → (i : ℕ) × (i < n) × (leads (f i) a b ≡ true)
leads_upto f zero a b h = absurd cc
leads_upto f (suc n) a b h =
    ⊎_elim (λ t. let r = leads_upto f n a b t in (r.0, (let w = r.1 in omega (arith, w)), r.2))
    (λ t. (n, omega arith, t)) (leads_either (edges_upto f n) (f n) a b h)

pub link_is : (o q : Option ℕ) (a b : ℕ) → leads (link o q) a b ≡ true → (o ≡ Some a) × (q ≡ Some b)
link_is (Some x) (Some y) a b h = by (or_cases ((x == a) && (y == b)) false h)
  where
    by : (((x == a) && (y == b)) ≡ true) ⊎ (false ≡ true) → (Some x ≡ Some a) × (Some y ≡ Some b)
    by (inl t) = let p = and_parts (x == a) (y == b) t in (ap Some (eqb-true x a p.0), ap Some (eqb-true y b p.1))
    by (inr t) = absurd cc
link_is (Some x) None a b h = absurd cc
link_is None q a b h = absurd cc

pub link_leads : (o q : Option ℕ) (a b : ℕ) → o ≡ Some a → q ≡ Some b → leads (link o q) a b ≡ true
link_leads o q a b e f = rw (e, f) (or_left _ _ (and_from _ _ (eq-eqb a a refl) (eq-eqb b b refl)))

pub if_is : (o : Option ℕ) (f : ℕ → List Edge) (a b : ℕ) → leads (edges_if o f) a b ≡ true → (k : ℕ) × (o ≡ Some k) × (leads (f k) a b ≡ true)
if_is None f a b h = absurd cc
if_is (Some k) f a b h = (k, refl, h)

pub if_leads : (o : Option ℕ) (f : ℕ → List Edge) (k a b : ℕ) → o ≡ Some k → leads (f k) a b ≡ true → leads (edges_if o f) a b ≡ true
if_leads o f k a b e h = rw e h

-- ---- bounds

abbrev pub Below : ℕ → Option ℕ → Type 0
Below count o = (x : ℕ) → o ≡ Some x → x < count

pub link_within : (count : ℕ) (o q : Option ℕ) → Below count o → Below count q → Each (IsWithin count) (link o q)
link_within count (Some x) (Some y) f g = (record { before_within = f x refl; after_within = g y refl }, tt)
link_within count (Some x) None f g = tt
link_within count None q f g = tt

pub both_within : (count : ℕ) (xs ys : List Edge) → Each (IsWithin count) xs → Each (IsWithin count) ys → Each (IsWithin count) (xs ++ ys)
both_within count [] ys f g = g
both_within count (x ∷ xs) ys f g = (f.0, both_within count xs ys f.1 g)

pub if_within : (count : ℕ) (o : Option ℕ) (f : ℕ → List Edge) → ((k : ℕ) → o ≡ Some k → Each (IsWithin count) (f k)) → Each (IsWithin count) (edges_if o f)
if_within count None f g = tt
if_within count (Some k) f g = g k refl

pub upto_within : (count : ℕ) (f : ℕ → List Edge) (n : ℕ) → ((i : ℕ) → i < n → Each (IsWithin count) (f i)) → Each (IsWithin count) (edges_upto f n)
upto_within count f zero g = tt
upto_within count f (suc n) g =
    both_within count (edges_upto f n) (f n) (upto_within count f n (λ i w. g i (omega (arith, w)))) (g n (omega arith))

-- ---- ways

-- a way of one or more edges, and one of none or more
abbrev pub Way : List Edge → (count : ℕ) → ℕ → ℕ → Type 0
Way edges count i j = (k : ℕ) × (ks : List ℕ) × Walk (Joined edges count) i (k ∷ ks) j

abbrev pub Reach : List Edge → (count : ℕ) → ℕ → ℕ → Type 0
Reach edges count i j = (ks : List ℕ) × Walk (Joined edges count) i ks j

pub one_way : (edges : List Edge) (count i j : ℕ) → i < count → j < count → leads edges i j ≡ true → Way edges count i j
one_way edges count i j w v h = (j, [], ((w, v, h), refl))

pub stay : (edges : List Edge) (count i : ℕ) → Reach edges count i i
stay edges count i = ([], refl)

pub as_reach : (edges : List Edge) (count i j : ℕ) → Way edges count i j → Reach edges count i j
as_reach edges count i j w = (w.0 ∷ w.1, w.2)

pub then_reach : (edges : List Edge) (count i j k : ℕ) → Way edges count i j → Reach edges count j k → Way edges count i k
then_reach edges count i j k w r = (w.0, w.1 ++ r.0, walk-append (Joined edges count) (w.0 ∷ w.1) r.0 i j k w.2 r.1)

pub reach_then : (edges : List Edge) (count i j k : ℕ) → Reach edges count i j → Way edges count j k → Way edges count i k
reach_then edges count i j k ([], e) w = subst (λ u. Way edges count u k) (sym e) w
reach_then edges count i j k (x ∷ xs, r) w = (x, xs ++ w.0 ∷ w.1, walk-append (Joined edges count) (x ∷ xs) (w.0 ∷ w.1) i j k r w.2)

pub reach_both : (edges : List Edge) (count i j k : ℕ) → Reach edges count i j → Reach edges count j k → Reach edges count i k
reach_both edges count i j k r s = (r.0 ++ s.0, walk-append (Joined edges count) r.0 s.0 i j k r.1 s.1)
