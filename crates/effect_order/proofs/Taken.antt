-- Where the relation has no cycle, the order that takes each time the first item that no other one left has to precede
-- takes every item.
use Rattle.std.proofs.Common.{◌≡◌, ℕ, zero, suc, ◌≤◌, List, [], ◌∷◌, ◌++◌, length, Bool, true, false, cond, Option, Some, None, refl, sym, ap, subst, arith, length-append}
use Rattle.effect_order.specs.Walk.{HasNoCycle}
use Rattle.effect_order.specs.Lists.{In, Each, is_held}
use Rattle.effect_order.specs.Greedy.{behind, then_rest, Reorder, Among}
use Rattle.effect_order.proofs.Members.{each-in, each-without, held_by}
use Rattle.effect_order.proofs.Stuck.{IsStuck, not_stuck}

-- the first member of xs that no member of left has to precede, and the others
abbrev pub pick : {X : Type 0} → (X → X → Bool) → List X → List X → Option (X × List X)
pick before left [] = None
pick before left (x ∷ xs) = cond (is_held before x left) (behind x (pick before left xs)) (Some (x, xs))

-- the order that takes such a member n times; it stops where there is none
abbrev pub greedy : {X : Type 0} → (X → X → Bool) → ℕ → List X → List X
greedy before zero left = []
greedy before (suc n) left = then_rest (λ x rest. greedy before n rest) (pick before left left)

-- what `pick` gives
pub record Picked {X : Type 0} (before : X → X → Bool) (left xs : List X) (p : X × List X) : Type 0 where
  pub front : List X
  pub rest : List X
  pub all : xs ≡ front ++ p.0 ∷ rest
  pub others : p.1 ≡ front ++ rest
  pub free : is_held before p.0 left ≡ false

behind_some : {X : Type 0} (x : X) (o : Option (X × List X)) (p : X × List X) → behind x o ≡ Some p → (q : X × List X) × (o ≡ Some q) × ((q.0, x ∷ q.1) ≡ p)
behind_some x None p h = absurd (cc)
behind_some x (Some q) p h = (q, refl, cc)

picked_by : {X : Type 0} (before : X → X → Bool) (left : List X) (x : X) (xs : List X) (p : X × List X) → ((q : X × List X) → pick before left xs ≡ Some q → Picked before left xs q) → (b : Bool) → is_held before x left ≡ b → cond b (behind x (pick before left xs)) (Some (x, xs)) ≡ Some p → Picked before left (x ∷ xs) p
picked_by before left x xs p further true e g =
    let q = behind_some x (pick before left xs) p g in
    let k = further q.0 q.1 in
    subst (Picked before left (x ∷ xs)) q.2 (record { front = x ∷ k.front; rest = k.rest; all = ap (λ u. x ∷ u) k.all; others = ap (λ u. x ∷ u) k.others; free = k.free })
picked_by {X} before left x xs p further false e g =
    let h : (x, xs) ≡ p = cc in
    subst (Picked before left (x ∷ xs)) h (record { front = []; rest = xs; all = refl; others = refl; free = e })

pub picked : {X : Type 0} (before : X → X → Bool) (left xs : List X) (p : X × List X) → pick before left xs ≡ Some p → Picked before left xs p
picked before left [] p h = absurd (cc)
picked before left (x ∷ xs) p h = picked_by before left x xs p (λ q. picked before left xs q) (is_held before x left) refl h

not_behind : {X : Type 0} (x : X) (o : Option (X × List X)) → behind x o ≡ None → o ≡ None
not_behind x None h = refl
not_behind x (Some q) h = absurd (cc)

-- where nothing is picked, each is held
none_by : {X : Type 0} (before : X → X → Bool) (left : List X) (x : X) (xs : List X) (b : Bool) → is_held before x left ≡ b → cond b (behind x (pick before left xs)) (Some (x, xs)) ≡ None → (is_held before x left ≡ true) × (pick before left xs ≡ None)
none_by before left x xs true e g = (e, not_behind x _ g)
none_by before left x xs false e g = absurd (cc)

pub none_picked : {X : Type 0} (before : X → X → Bool) (left xs : List X) → pick before left xs ≡ None → Each (λ y. is_held before y left ≡ true) xs
none_picked before left [] h = tt
none_picked before left (x ∷ xs) h =
    let p = none_by before left x xs (is_held before x left) refl h in
    (p.0, none_picked before left xs p.1)

all_held : {X : Type 0} (before : X → X → Bool) (all : List X) (left : List X) → Each (λ u. In u all) left → Each (λ y. is_held before y left ≡ true) left → IsStuck (Among before all) left
all_held before all left m h y i =
    let p = held_by before y left (each-in (λ y. is_held before y left ≡ true) left y h i) in
    (p.0, p.1, (each-in (λ u. In u all) left p.0 m p.1, each-in (λ u. In u all) left y m i, p.2))

reorder_by : {X : Type 0} (before : X → X → Bool) (all : List X) → HasNoCycle (Among before all) → (n : ℕ) (x : X) (xs : List X) → Each (λ u. In u all) (x ∷ xs) → length (x ∷ xs) ≤ suc n → ((left : List X) → Each (λ u. In u all) left → length left ≤ n → Reorder before left (greedy before n left)) → (o : Option (X × List X)) → pick before (x ∷ xs) (x ∷ xs) ≡ o → Reorder before (x ∷ xs) (then_rest (λ x rest. greedy before n rest) o)
reorder_by before all none n x xs m small further None e =
    absurd (not_stuck (Among before all) x xs none (all_held before all (x ∷ xs) m (none_picked before (x ∷ xs) (x ∷ xs) e)))
reorder_by {X} before all none n x xs m small further (Some p) e =
    let k = picked before (x ∷ xs) (x ∷ xs) p e in
    let smaller : length (k.front ++ k.rest) ≤ n = omega (arith, ap length k.all, length-append k.front (p.0 ∷ k.rest), length-append k.front k.rest) in
    let members = each-without (λ u. In u all) k.front p.0 k.rest (subst (Each (λ u. In u all)) k.all m) in
    (k.front, k.rest, k.all, k.free, subst (λ u. Reorder before (k.front ++ k.rest) (greedy before n u)) (sym k.others) (further (k.front ++ k.rest) members smaller))

pub greedy_takes_all : {X : Type 0} (before : X → X → Bool) (all : List X) → HasNoCycle (Among before all) → (n : ℕ) (left : List X) → Each (λ u. In u all) left → length left ≤ n → Reorder before left (greedy before n left)
greedy_takes_all before all none zero [] m small = refl
greedy_takes_all before all none zero (x ∷ xs) m small = absurd (omega arith)
greedy_takes_all before all none (suc n) [] m small = refl
greedy_takes_all before all none (suc n) (x ∷ xs) m small =
    reorder_by before all none n x xs m small (λ left. greedy_takes_all before all none n left) (pick before (x ∷ xs) (x ∷ xs)) refl
