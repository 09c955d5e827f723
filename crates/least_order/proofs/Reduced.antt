-- The least order by edges is that of any relation that the edges give together: each of them is one of its pairs, and each
-- pair is a way along them.
use Rattle.std.proofs.Common.{◌≡◌, ℕ, zero, suc, ◌+◌, ◌<◌, ◌≤◌, ◌⊎◌, ◌||◌, List, [], ◌∷◌, ◌++◌, length, map, get_or, cond, not, Option, Some, None, refl, sym, ap, ap₂, ◌∙◌, subst, inl, inr, ⊎_elim, Bool, true, false, arith, add-one}
use Rattle.std.proofs.lemmas.Bool.{both_ways, false_from_ne_true}
use Rattle.std.specs.List.{range_with_len}
use Rattle.effect_order.specs.Lists.{In, Each, is_held}
use Rattle.effect_order.specs.Walk.{Walk}
use Rattle.effect_order.specs.Greedy.{behind, then_rest, pick_by, grow}
use Rattle.effect_order.proofs.Members.{each-self, each-left, each-right, in-cases, in-either, in-middle, held_by, held_from, not_held}
use Rattle.effect_order.proofs.Taken.{pick, greedy}
use Rattle.effect_order.proofs.Grown.{grow_greedy}
use Rattle.least_order.specs.declared.edge.Edge.{Edge}
use Rattle.least_order.specs.Least.{leads, is_free, taken}
use Rattle.least_order.specs.Ways.{Joined, AreWays}
use Rattle.least_order.proofs.Picks.{left_from, left_is, left_has, all_left}

-- growing by what none of those left has to come before
grow_free : {X : Type 0} (before : X → X → Bool) (n : ℕ) (past left : List X) →
    grow (λ past left x. not (is_held before x left)) n past left ≡ greedy before n left
grow_free {X} before n past left =
    grow_greedy (λ past left x. not (is_held before x left)) before (λ past left. Unit {0})
    (λ past left h. each-self _ left (λ x i. refl)) (λ past us vs x h e. tt) n past left tt

pub taken_greedy : (edges : List Edge) (count : ℕ) → taken edges count ≡ greedy (leads edges) count (range_with_len 0 count)
taken_greedy edges count = grow_free (leads edges) count [] (range_with_len 0 count)

-- ---- members by number

module _ {X : Type 0} (f : ℕ → X) (before : X → X → Bool) where
  abbrev by_number : ℕ → ℕ → Bool
  by_number i j = before (f i) (f j)

  held_map : (x : ℕ) (left : List ℕ) → is_held before (f x) (map f left) ≡ is_held by_number x left
  held_map x [] = refl
  held_map x (a ∷ left) = ap (λ b. by_number a x || b) (held_map x left)

  abbrev both : Option (ℕ × List ℕ) → Option (X × List X)
  both None = None
  both (Some p) = Some (f p.0, map f p.1)

  behind_map : (x : ℕ) (o : Option (ℕ × List ℕ)) → behind (f x) (both o) ≡ both (behind x o)
  behind_map x None = refl
  behind_map x (Some p) = refl

  pick_map : (left xs : List ℕ) → pick before (map f left) (map f xs) ≡ both (pick by_number left xs)
  pick_map left [] = refl
  pick_map left (x ∷ xs) =
      ap₂ (λ b o. cond b (behind (f x) o) (Some (f x, map f xs))) (held_map x left) (pick_map left xs)
      ∙ by (is_held by_number x left)
    where
      by : (b : Bool) → cond b (behind (f x) (both (pick by_number left xs))) (Some (f x, map f xs))
          ≡ both (cond b (behind x (pick by_number left xs)) (Some (x, xs)))
      by true = behind_map x (pick by_number left xs)
      by false = refl

  pub greedy_map : (n : ℕ) (left : List ℕ) → greedy before n (map f left) ≡ map f (greedy by_number n left)
  greedy_map zero left = refl
  greedy_map (suc n) left =
      ap (then_rest (λ x rest. greedy before n rest)) (pick_map left left) ∙ by (pick by_number left left) (λ rest. greedy_map n rest)
    where
      by : (o : Option (ℕ × List ℕ)) → ((rest : List ℕ) → greedy before n (map f rest) ≡ map f (greedy by_number n rest)) →
          then_rest (λ x rest. greedy before n rest) (both o) ≡ map f (then_rest (λ x rest. greedy by_number n rest) o)
      by None further = refl
      by (Some p) further = ap (λ xs. f p.0 ∷ xs) (further p.1)

range_shift : (low n : ℕ) → range_with_len (low + 1) n ≡ map (λ i. i + 1) (range_with_len low n)
range_shift low zero = refl
range_shift low (suc n) = ap (λ xs. (low + 1) ∷ xs) (range_shift (low + 1) n)

shifted : {X : Type 0} (y : X) (ys : List X) (d : X) (xs : List ℕ) →
    map (λ i. get_or (y ∷ ys) i d) (map (λ i. i + 1) xs) ≡ map (λ i. get_or ys i d) xs
shifted y ys d [] = refl
shifted y ys d (x ∷ xs) = ap₂ (λ a b. a ∷ b) (ap (λ i. get_or (y ∷ ys) i d) (add-one x)) (shifted y ys d xs)

-- the members of a list by their numbers
pub numbered : {X : Type 0} (all : List X) (d : X) → map (λ i. get_or all i d) (range_with_len 0 (length all)) ≡ all
numbered [] d = refl
numbered (x ∷ xs) d =
    ap (λ ys. x ∷ ys)
    (ap (map (λ i. get_or (x ∷ xs) i d)) (range_shift 0 (length xs)) ∙ shifted x xs d (range_with_len 0 (length xs)) ∙ numbered xs d)

-- ---- fewer pairs

with_middle : {X : Type 0} (us vs : List X) (x a : X) → In a (us ++ vs) → In a (us ++ x ∷ vs)
with_middle [] vs x a i = inr i
with_middle (u ∷ us) vs x a (inl q) = inl q
with_middle (u ∷ us) vs x a (inr i) = inr (with_middle us vs x a i)

module _ {X : Type 0} (before less : X → X → Bool) (all : List X)
    (each : (a b : X) → In a all → In b all → less a b ≡ true → before a b ≡ true)
    (found : (a b : X) → In a all → In b all → before a b ≡ true →
    (z : X) × (zs : List X) × Walk (λ u v. In u all × In v all × (less u v ≡ true)) a (z ∷ zs) b) where
  -- those left are members, and with one of them all that it has to come before
  record Up (past left : List X) : Type 0 where
    inside : (a : X) → In a left → In a all
    above : (a b : X) → In a left → In b all → before a b ≡ true → In b left

  -- the last member before the end of a way that begins at one left
  last_step : (past left : List X) → Up past left → (a b z : X) (zs : List X) → In a left →
      Walk (λ u v. In u all × In v all × (less u v ≡ true)) a (z ∷ zs) b → (c : X) × In c left × (less c b ≡ true)
  last_step past left up a b z [] i w = (a, i, subst (λ u. less a u ≡ true) w.1 w.0.2)
  last_step past left up a b z (y ∷ zs) i w =
      last_step past left up z b y zs (up.above a z i w.0.1 (each a z w.0.0 w.0.1 w.0.2)) w.1

  same_held : (past left : List X) → Up past left → (x : X) → In x left → is_held less x left ≡ is_held before x left
  same_held past left up x i = by (is_held less x left) (is_held before x left) refl refl
    where
      by : (b c : Bool) → is_held less x left ≡ b → is_held before x left ≡ c → b ≡ c
      by true true e g = refl
      by false false e g = refl
      by true false e g =
          let p = held_by less x left e in
          absurd (not_held before x left p.0 g p.1 (each p.0 x (up.inside p.0 p.1) (up.inside x i) p.2))
      by false true e g =
          let p = held_by before x left g in
          let w = found p.0 x (up.inside p.0 p.1) (up.inside x i) p.2 in
          let c = last_step past left up p.0 x w.0 w.1 p.1 w.2 in
          absurd (not_held less x left c.0 e c.1 c.2)

  keeps_up : (past us vs : List X) (x : X) → Up past (us ++ x ∷ vs) → is_held before x (us ++ x ∷ vs) ≡ false →
      Up (x ∷ past) (us ++ vs)
  keeps_up past us vs x up free = record {
    inside = λ a i. up.inside a (with_middle us vs x a i);
    above = λ a b i m h. by a b i h (in-cases us x vs b (up.above a b (with_middle us vs x a i) m h));
  }
    where
      by : (a b : X) → In a (us ++ vs) → before a b ≡ true → (b ≡ x) ⊎ In b (us ++ vs) → In b (us ++ vs)
      by a b i h (inl q) = absurd (not_held before x (us ++ x ∷ vs) a free (with_middle us vs x a i) (subst (λ u. before a u ≡ true) q h))
      by a b i h (inr j) = j

  pub greedy_less : (n : ℕ) → greedy less n all ≡ greedy before n all
  greedy_less n =
      sym (grow_free less n [] all)
      ∙ grow_greedy (λ past left x. not (is_held less x left)) before Up
      (λ past left up. each-self _ left (λ x i. ap not (same_held past left up x i))) keeps_up n [] all
      (record { inside = λ a i. i; above = λ a b i m h. m })

-- ---- by edges

walk_map : {E : Type 0} (R S : E → E → Type 0) → ((x y : E) → R x y → S x y) → (x : E) (zs : List E) (y : E) → Walk R x zs y →
    Walk S x zs y
walk_map R S f x [] y w = w
walk_map R S f x (z ∷ zs) y w = (f x z w.0, walk_map R S f z zs y w.1)

in_range : (count i : ℕ) → i < count → In i (range_with_len 0 count)
in_range count i w = subst (In i) (all_left 0 count) (left_has [] 0 count i (omega arith) (omega (arith, w)) refl)

range_in : (count i : ℕ) → In i (range_with_len 0 count) → i < count
range_in count i m = let p = left_is [] 0 count i (subst (In i) (sym (all_left 0 count)) m) in let w = p.1 in omega (arith, w)

pub by_ways : (edges : List Edge) (count : ℕ) (before : ℕ → ℕ → Bool) → AreWays edges count before →
    taken edges count ≡ greedy before count (range_with_len 0 count)
by_ways edges count before ways =
    taken_greedy edges count
    ∙ greedy_less before (leads edges) (range_with_len 0 count)
    (λ i j a b e. ways.each i j (range_in count i a) (range_in count j b) e)
    (λ i j a b e. let p = ways.found i j (range_in count i a) (range_in count j b) e in
    (p.0, p.1, walk_map (Joined edges count) _ (λ x y w. (in_range count x w.0, in_range count y w.1, w.2)) i (p.0 ∷ p.1) j p.2))
    count

-- the order of a list's members by a relation is that of their numbers by edges that give the relation
pub greedy_by_edges : {X : Type 0} (before : X → X → Bool) (all : List X) (d : X) (edges : List Edge) →
    AreWays edges (length all) (λ i j. before (get_or all i d) (get_or all j d)) →
    greedy before (length all) all ≡ map (λ i. get_or all i d) (taken edges (length all))
greedy_by_edges before all d edges ways =
    ap (greedy before (length all)) (sym (numbered all d))
    ∙ greedy_map (λ i. get_or all i d) before (length all) (range_with_len 0 (length all))
    ∙ ap (map (λ i. get_or all i d)) (sym (by_ways edges (length all) (λ i j. before (get_or all i d) (get_or all j d)) ways))

-- what is picked is a member, and so are the others
pick_members : {X : Type 0} (P : X → Type 0) (test : X → Bool) (xs : List X) → Each P xs → (p : X × List X) →
    pick_by test xs ≡ Some p → P p.0 × Each P p.1
pick_members P test [] e p h = absurd cc
pick_members {X} P test (x ∷ xs) e p h = by (test x) (pick_by test xs) (λ q r. pick_members P test xs e.1 q r) refl h
  where
    by : (b : Bool) (o : Option (X × List X)) → ((q : X × List X) → pick_by test xs ≡ Some q → P q.0 × Each P q.1) →
        pick_by test xs ≡ o → cond b (Some (x, xs)) (behind x o) ≡ Some p → P p.0 × Each P p.1
    by true o further i g =
        let same : (x, xs) ≡ p = cc in subst (λ (q : X × List X). P q.0 × Each P q.1) same (e.0, e.1)
    by false None further i g = absurd cc
    by false (Some q) further i g =
        let same : (q.0, x ∷ q.1) ≡ p = cc in
        let k = further q i in subst (λ (r : X × List X). P r.0 × Each P r.1) same (k.0, (e.0, k.1))

grow_members : {X : Type 0} (P : X → Type 0) (allows : List X → List X → X → Bool) (n : ℕ) (past left : List X) → Each P left →
    Each P (grow allows n past left)
grow_members P allows zero past left e = tt
grow_members {X} P allows (suc n) past left e =
    by (pick_by (allows past left) left) refl (λ past rest. grow_members P allows n past rest)
  where
    by : (o : Option (X × List X)) → pick_by (allows past left) left ≡ o →
        ((past rest : List X) → Each P rest → Each P (grow allows n past rest)) →
        Each P (then_rest (λ x rest. grow allows n (x ∷ past) rest) o)
    by None i further = tt
    by (Some p) i further =
        let k = pick_members P (allows past left) left e p i in (k.0, further (p.0 ∷ past) p.1 k.1)

-- those taken are below the bound
pub taken_within : (edges : List Edge) (count : ℕ) → Each (λ i. i < count) (taken edges count)
taken_within edges count =
    grow_members (λ i. i < count) (is_free edges) count [] (range_with_len 0 count)
    (each-self _ (range_with_len 0 count) (λ i m. range_in count i m))
