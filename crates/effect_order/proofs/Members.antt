-- Members of lists, and what holds of each.
use Rattle.std.proofs.Common.{◌≡◌, ◌⊎◌, List, [], ◌∷◌, ◌++◌, refl, sym, ap, subst, inl, inr, ⊎_elim, Bool, true, false, true≢false}
use Rattle.std.proofs.lemmas.Bool.{both_ways, or_cases, or_left, or_right, or_parts, false_from_ne_true}
use Rattle.effect_order.specs.Lists.{In, Each, Pairs, is_held}

pub each-in : {X : Type 0} (P : X → Type 0) (xs : List X) (y : X) → Each P xs → In y xs → P y
each-in P [] y e i = absurd i
each-in P (x ∷ xs) y e (inl q) = subst P (sym q) e.0
each-in P (x ∷ xs) y e (inr i) = each-in P xs y e.1 i

pub each-self : {X : Type 0} (P : X → Type 0) (xs : List X) → ((x : X) → In x xs → P x) → Each P xs
each-self P [] f = tt
each-self P (x ∷ xs) f = (f x (inl refl), each-self P xs (λ y i. f y (inr i)))

pub each-map : {X : Type 0} (P Q : X → Type 0) (xs : List X) → ((x : X) → P x → Q x) → Each P xs → Each Q xs
each-map P Q [] f e = tt
each-map P Q (x ∷ xs) f e = (f x e.0, each-map P Q xs f e.1)

pub each-append : {X : Type 0} (P : X → Type 0) (us vs : List X) → Each P us → Each P vs → Each P (us ++ vs)
each-append P [] vs a b = b
each-append P (u ∷ us) vs a b = (a.0, each-append P us vs a.1 b)

pub each-left : {X : Type 0} (P : X → Type 0) (us vs : List X) → Each P (us ++ vs) → Each P us
each-left P [] vs a = tt
each-left P (u ∷ us) vs a = (a.0, each-left P us vs a.1)

pub each-right : {X : Type 0} (P : X → Type 0) (us vs : List X) → Each P (us ++ vs) → Each P vs
each-right P [] vs a = a
each-right P (u ∷ us) vs a = each-right P us vs a.1

-- without the one in the middle
pub each-without : {X : Type 0} (P : X → Type 0) (us : List X) (x : X) (vs : List X) → Each P (us ++ x ∷ vs) → Each P (us ++ vs)
each-without P us x vs a = each-append P us vs (each-left P us (x ∷ vs) a) (each-right P us (x ∷ vs) a).1

pub pairs-map : {X : Type 0} (P Q : X → X → Type 0) → ((a b : X) → P a b → Q a b) → (xs : List X) → Pairs P xs → Pairs Q xs
pairs-map P Q f [] p = tt
pairs-map P Q f (x ∷ xs) p = (each-map (P x) (Q x) xs (λ b. f x b) p.0, pairs-map P Q f xs p.1)

pub pairs_left : {X : Type 0} (R : X → X → Type 0) (us : List X) (x : X) (vs : List X) → Pairs R (us ++ x ∷ vs) → Each (λ a. R a x) us
pairs_left R [] x vs p = tt
pairs_left R (u ∷ us) x vs p = ((each-right (R u) us (x ∷ vs) p.0).0, pairs_left R us x vs p.1)

pub pairs_right : {X : Type 0} (R : X → X → Type 0) (us : List X) (x : X) (vs : List X) → Pairs R (us ++ x ∷ vs) → Each (R x) vs
pairs_right R [] x vs p = p.0
pairs_right R (u ∷ us) x vs p = pairs_right R us x vs p.1

pub pairs_without : {X : Type 0} (R : X → X → Type 0) (us : List X) (x : X) (vs : List X) → Pairs R (us ++ x ∷ vs) → Pairs R (us ++ vs)
pairs_without R [] x vs p = p.1
pairs_without R (u ∷ us) x vs p = (each-without (R u) us x vs p.0, pairs_without R us x vs p.1)

-- a member stands between the others
pub in-split : {X : Type 0} (xs : List X) (x : X) → In x xs → (us vs : List X) × (xs ≡ us ++ x ∷ vs)
in-split [] x i = absurd i
in-split (y ∷ ys) x (inl q) = ([], ys, ap (λ u. u ∷ ys) (sym q))
in-split (y ∷ ys) x (inr i) = let p = in-split ys x i in (y ∷ p.0, p.1, ap (λ u. y ∷ u) p.2)

pub in-middle : {X : Type 0} (us : List X) (x : X) (vs : List X) → In x (us ++ x ∷ vs)
in-middle [] x vs = inl refl
in-middle (u ∷ us) x vs = inr (in-middle us x vs)

pub in-either : {X : Type 0} (us vs : List X) (a : X) → In a (us ++ vs) → In a us ⊎ In a vs
in-either [] vs a i = inr i
in-either (u ∷ us) vs a (inl q) = inl (inl q)
in-either (u ∷ us) vs a (inr i) = ⊎_elim (λ q. inl (inr q)) (λ q. inr q) (in-either us vs a i)

pub in-cases : {X : Type 0} (us : List X) (x : X) (vs : List X) (a : X) → In a (us ++ x ∷ vs) → (a ≡ x) ⊎ In a (us ++ vs)
in-cases [] x vs a i = i
in-cases (u ∷ us) x vs a (inl q) = inr (inl q)
in-cases (u ∷ us) x vs a (inr i) = ⊎_elim (λ q. inl q) (λ q. inr (inr q)) (in-cases us x vs a i)

-- the member that holds x
pub held_by : {X : Type 0} (before : X → X → Bool) (x : X) (left : List X) → is_held before x left ≡ true → (e : X) × In e left × (before e x ≡ true)
held_by before x [] h = absurd (true≢false (sym h))
held_by before x (a ∷ rest) h =
    ⊎_elim
    (λ b. (a, inl refl, b))
    (λ b. let p = held_by before x rest b in (p.0, inr p.1, p.2))
    (or_cases (before a x) (is_held before x rest) h)

pub held_from : {X : Type 0} (before : X → X → Bool) (x : X) (left : List X) (a : X) → In a left → before a x ≡ true → is_held before x left ≡ true
held_from before x [] a i b = absurd i
held_from before x (y ∷ left) a (inl q) b = or_left _ _ (subst (λ u. before u x ≡ true) q b)
held_from before x (y ∷ left) a (inr i) b = or_right _ _ (held_from before x left a i b)

pub not_held : {X : Type 0} (before : X → X → Bool) (x : X) (left : List X) (a : X) → is_held before x left ≡ false → In a left → before a x ≡ true → ⊥
not_held before x left a h i t = both_ways _ h (held_from before x left a i t)

-- where nothing holds x, no member comes before it
pub free : {X : Type 0} (before : X → X → Bool) (x : X) (left : List X) → is_held before x left ≡ false → Each (λ a. before a x ≡ false) left
free before x [] h = tt
free before x (a ∷ left) h = let p = or_parts _ _ h in (p.0, free before x left p.1)

-- where nothing holds x, nothing holds it by a narrower relation
pub narrower : {X : Type 0} (before less : X → X → Bool) (x : X) (left : List X) → ((a : X) → less a x ≡ true → before a x ≡ true) → is_held before x left ≡ false → is_held less x left ≡ false
narrower before less x left f h = false_from_ne_true _ (λ e. let p = held_by less x left e in not_held before x left p.0 h p.1 (f p.0 p.2))
