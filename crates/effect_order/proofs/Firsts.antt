-- The first member of a list that has a property: in joined lists, by another property, and that there is but one.
use Rattle.std.proofs.Common.{◌≡◌, ◌⊎◌, List, [], ◌∷◌, ◌++◌, append_assoc, refl, sym, ap, ◌∙◌, subst, inl, inr, ⊎_elim}
use Rattle.effect_order.specs.Lists.{In, Each}
use Rattle.effect_order.proofs.Members.{each-in, each-self, each-append, in-middle}

-- x is the first member that has P
abbrev pub FirstOf : {X : Type 0} → (X → Type 0) → List X → X → Type 0
FirstOf {X} P xs x = (us vs : List X) × (xs ≡ us ++ x ∷ vs) × P x × Each (λ a. P a → ⊥) us

-- no member has P
abbrev pub NoneOf : {X : Type 0} → (X → Type 0) → List X → Type 0
NoneOf P xs = Each (λ a. P a → ⊥) xs

pub in-front : {X : Type 0} (us ws : List X) (a : X) → In a us → In a (us ++ ws)
in-front [] ws a i = absurd i
in-front (u ∷ us) ws a (inl q) = inl q
in-front (u ∷ us) ws a (inr i) = inr (in-front us ws a i)

pub in-back : {X : Type 0} (us ws : List X) (a : X) → In a ws → In a (us ++ ws)
in-back [] ws a i = i
in-back (u ∷ us) ws a i = inr (in-back us ws a i)

-- two that stand behind members with Q alone, and have it not, are one
pub alike : {X : Type 0} (Q : X → Type 0) (us vs : List X) (x : X) (ws zs : List X) (y : X) → us ++ x ∷ vs ≡ ws ++ y ∷ zs → Each Q us → Each Q ws → (Q x → ⊥) → (Q y → ⊥) → x ≡ y
alike Q [] vs x [] zs y e a b f g = cc
alike Q [] vs x (w ∷ ws) zs y e a b f g = let h : x ≡ w = cc in absurd (f (subst Q (sym h) b.0))
alike Q (u ∷ us) vs x [] zs y e a b f g = let h : u ≡ y = cc in absurd (g (subst Q h a.0))
alike Q (u ∷ us) vs x (w ∷ ws) zs y e a b f g =
    let h : us ++ x ∷ vs ≡ ws ++ y ∷ zs = cc in
    alike Q us vs x ws zs y h a.1 b.1 f g

pub first-in : {X : Type 0} (P : X → Type 0) (xs : List X) (x : X) → FirstOf P xs x → In x xs
first-in P xs x f = subst (In x) (sym f.2) (in-middle f.0 x f.1)

pub first_is_one : {X : Type 0} (P : X → Type 0) (xs : List X) (x y : X) → FirstOf P xs x → FirstOf P xs y → x ≡ y
first_is_one P xs x y f g = alike (λ a. P a → ⊥) f.0 f.1 x g.0 g.1 y (sym f.2 ∙ g.2) f.4 g.4 (λ n. n f.3) (λ n. n g.3)

-- behind one that does not have P
pub first-behind : {X : Type 0} (P : X → Type 0) (z : X) (xs : List X) (x : X) → (P z → ⊥) → FirstOf P xs x → FirstOf P (z ∷ xs) x
first-behind P z xs x n f = (z ∷ f.0, f.1, ap (λ u. z ∷ u) f.2, f.3, (n, f.4))

pub first_or_none : {X : Type 0} (P : X → Type 0) (xs : List X) → Each (λ a. P a ⊎ (P a → ⊥)) xs → ((x : X) × FirstOf P xs x) ⊎ NoneOf P xs
first_or_none P [] d = inr tt
first_or_none P (x ∷ xs) d =
    ⊎_elim
    (λ p. inl (x, ([], xs, refl, p, tt)))
    (λ n.
    ⊎_elim
    (λ f. inl (f.0, first-behind P x xs f.0 n f.1))
    (λ m. inr (n, m))
    (first_or_none P xs d.1))
    d.0

pub first-not_none : {X : Type 0} (P : X → Type 0) (xs : List X) (x : X) → FirstOf P xs x → NoneOf P xs → ⊥
first-not_none P xs x f n = each-in (λ a. P a → ⊥) xs x n (first-in P xs x f) f.3

-- in joined lists
pub first-left : {X : Type 0} (P : X → Type 0) (xs ys : List X) (x : X) → FirstOf P xs x → FirstOf P (xs ++ ys) x
first-left P xs ys x f = (f.0, f.1 ++ ys, ap (λ u. u ++ ys) f.2 ∙ append_assoc f.0 (x ∷ f.1) ys, f.3, f.4)

pub first-right : {X : Type 0} (P : X → Type 0) (xs ys : List X) (x : X) → NoneOf P xs → FirstOf P ys x → FirstOf P (xs ++ ys) x
first-right P xs ys x n f =
    (xs ++ f.0, f.1, ap (λ u. xs ++ u) f.2 ∙ sym (append_assoc xs f.0 (x ∷ f.1)), f.3, each-append (λ a. P a → ⊥) xs f.0 n f.4)

cases_by : {X : Type 0} (P : X → Type 0) (xs ys us vs : List X) (x : X) → xs ++ ys ≡ us ++ x ∷ vs → P x → NoneOf P us → FirstOf P xs x ⊎ (NoneOf P xs × FirstOf P ys x)
cases_by P [] ys us vs x e p n = inr (tt, (us, vs, e, p, n))
cases_by P (z ∷ xs) ys [] vs x e p n = let h : z ≡ x = cc in inl ([], xs, ap (λ u. u ∷ xs) h, p, tt)
cases_by P (z ∷ xs) ys (u ∷ us) vs x e p n =
    let h : z ≡ u = cc in
    let t : xs ++ ys ≡ us ++ x ∷ vs = cc in
    let not_z = subst (λ w. P w → ⊥) (sym h) n.0 in
    ⊎_elim
    (λ f. inl (first-behind P z xs x not_z f))
    (λ f. inr ((not_z, f.0), f.1))
    (cases_by P xs ys us vs x t p n.1)

pub first-cases : {X : Type 0} (P : X → Type 0) (xs ys : List X) (x : X) → FirstOf P (xs ++ ys) x → FirstOf P xs x ⊎ (NoneOf P xs × FirstOf P ys x)
first-cases P xs ys x f = cases_by P xs ys f.0 f.1 x f.2 f.3 f.4

-- by a property that the members have where they have P
pub first-map : {X : Type 0} (P Q : X → Type 0) (xs : List X) (x : X) → ((a : X) → In a xs → P a → Q a) → ((a : X) → In a xs → Q a → P a) → FirstOf P xs x → FirstOf Q xs x
first-map P Q xs x to from f =
    (f.0, f.1, f.2, to x (first-in P xs x f) f.3, each-self (λ a. Q a → ⊥) f.0 (λ a i q. each-in (λ a. P a → ⊥) f.0 a f.4 i (from a (subst (In a) (sym f.2) (in-front f.0 (x ∷ f.1) a i)) q)))
