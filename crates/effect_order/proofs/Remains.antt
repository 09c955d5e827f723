-- What is left of a list while members of it are taken: it stays in the list's order.
use Rattle.std.proofs.Common.{◌≡◌, ◌⊎◌, List, [], ◌∷◌, ◌++◌, refl, sym, ap, ◌∙◌, subst, inl, inr, ⊎_elim}
use Rattle.effect_order.specs.Lists.{In, Each, IsDistinct}
use Rattle.effect_order.proofs.Members.{each-in, each-map, in-middle}

cons-head : {X : Type 0} (a b : X) (as_ bs : List X) → a ∷ as_ ≡ b ∷ bs → a ≡ b
cons-head a b as_ bs h = cc

cons-tail : {X : Type 0} (a b : X) (as_ bs : List X) → a ∷ as_ ≡ b ∷ bs → as_ ≡ bs
cons-tail a b as_ bs h = cc

-- left has the members that were not taken, in their order
abbrev pub Without : {X : Type 0} → List X → List X → List X → Type 0
Without past [] left = left ≡ []
Without {X} past (x ∷ xs) left =
    (In x past × Without past xs left) ⊎ ((In x past → ⊥) × (rest : List X) × (left ≡ x ∷ rest) × Without past xs rest)

pub without-none : {X : Type 0} (xs : List X) → Without [] xs xs
without-none [] = refl
without-none (x ∷ xs) = inr (λ i. i, xs, refl, without-none xs)

-- each was taken or is left
pub covered : {X : Type 0} (past xs left : List X) (a : X) → Without past xs left → In a xs → In a past ⊎ In a left
covered past [] left a w i = absurd i
covered past (x ∷ xs) left a (inl w) (inl q) = inl (subst (λ u. In u past) (sym q) w.0)
covered past (x ∷ xs) left a (inl w) (inr i) = covered past xs left a w.1 i
covered past (x ∷ xs) left a (inr w) (inl q) = inr (subst (In a) (sym w.2) (inl q))
covered past (x ∷ xs) left a (inr w) (inr i) =
    ⊎_elim (λ h. inl h) (λ h. inr (subst (In a) (sym w.2) (inr h))) (covered past xs w.1 a w.3 i)

-- what is left is a member that was not taken
pub remains : {X : Type 0} (past xs left : List X) (a : X) → Without past xs left → In a left → In a xs × (In a past → ⊥)
remains past [] left a w i = absurd (subst (In a) w i)
remains past (x ∷ xs) left a (inl w) i = let h = remains past xs left a w.1 i in (inr h.0, h.1)
remains past (x ∷ xs) left a (inr w) i =
    ⊎_elim
    (λ q. (inl q, λ j. w.0 (subst (λ u. In u past) q j)))
    (λ j. let h = remains past xs w.1 a w.3 j in (inr h.0, h.1))
    (subst (In a) w.2 i)

-- where a member that is left stands in the list: behind those taken and those left before it
pub stands : {X : Type 0} (past xs left us vs : List X) (x : X) → Without past xs left → left ≡ us ++ x ∷ vs → (ws zs : List X) × (xs ≡ ws ++ x ∷ zs) × Each (λ a. In a past ⊎ In a us) ws
stands past [] left us vs x w e = absurd (subst (In x) (sym e ∙ w) (in-middle us x vs))
stands past (y ∷ ys) left us vs x (inl w) e =
    let h = stands past ys left us vs x w.1 e in
    (y ∷ h.0, h.1, ap (λ u. y ∷ u) h.2, (inl w.0, h.3))
stands past (y ∷ ys) left [] vs x (inr w) e =
    let f : y ∷ w.1 ≡ x ∷ vs = sym w.2 ∙ e in
    let h : y ≡ x = cc in
    ([], ys, ap (λ u. u ∷ ys) h, tt)
stands {X} past (y ∷ ys) left (u ∷ us) vs x (inr w) e =
    let f : y ∷ w.1 ≡ u ∷ (us ++ x ∷ vs) = sym w.2 ∙ e in
    let q : y ≡ u = cc in
    let t : w.1 ≡ us ++ x ∷ vs = cc in
    let h = stands past ys w.1 us vs x w.3 t in
    (y ∷ h.0, h.1, ap (λ z. y ∷ z) h.2, (inr (inl q), each-map _ _ h.0 (λ a. more a) h.3))
  where
    more : (a : X) → In a past ⊎ In a us → In a past ⊎ In a (u ∷ us)
    more a (inl i) = inl i
    more a (inr i) = inr (inr i)

-- one that is no member may be taken
skip : {X : Type 0} (past xs left : List X) (x : X) → (In x xs → ⊥) → Without past xs left → Without (x ∷ past) xs left
skip past [] left x n w = w
skip past (y ∷ ys) left x n (inl w) = inl (inr w.0, skip past ys left x (λ i. n (inr i)) w.1)
skip {X} past (y ∷ ys) left x n (inr w) = inr (not_y, w.1, w.2, skip past ys w.1 x (λ i. n (inr i)) w.3)
  where
    not_y : (y ≡ x) ⊎ In y past → ⊥
    not_y (inl q) = n (inl (sym q))
    not_y (inr i) = w.0 i

not_member : {X : Type 0} (y : X) (ys : List X) → Each (λ b. y ≡ b → ⊥) ys → In y ys → ⊥
not_member y ys e i = each-in (λ b. y ≡ b → ⊥) ys y e i refl

-- one that is left is taken
pub taken : {X : Type 0} (past xs left us vs : List X) (x : X) → IsDistinct xs → Without past xs left → left ≡ us ++ x ∷ vs → Without (x ∷ past) xs (us ++ vs)
taken past [] left us vs x d w e = absurd (subst (In x) (sym e ∙ w) (in-middle us x vs))
taken past (y ∷ ys) left us vs x d (inl w) e = inl (inr w.0, taken past ys left us vs x d.1 w.1 e)
taken past (y ∷ ys) left [] vs x d (inr w) e =
    let f : y ∷ w.1 ≡ x ∷ vs = sym w.2 ∙ e in
    let h : y ≡ x = cc in
    let t : w.1 ≡ vs = cc in
    inl (inl h, subst (Without (x ∷ past) ys) t (skip past ys w.1 x (subst (λ u. In u ys → ⊥) h (not_member y ys d.0)) w.3))
taken {X} past (y ∷ ys) left (u ∷ us) vs x d (inr w) e = inr (not_y, us ++ vs, ap (λ z. z ∷ (us ++ vs)) (sym q), taken past ys w.1 us vs x d.1 w.3 t)
  where
    f : y ∷ w.1 ≡ u ∷ (us ++ x ∷ vs)
    f = sym w.2 ∙ e

    q : y ≡ u
    q = cons-head _ _ _ _ f

    t : w.1 ≡ us ++ x ∷ vs
    t = cons-tail _ _ _ _ f

    x_in : In x ys
    x_in = (remains past ys w.1 x w.3 (subst (In x) (sym t) (in-middle us x vs))).0

    not_y : (y ≡ x) ⊎ In y past → ⊥
    not_y (inl h) = not_member y ys d.0 (subst (λ z. In z ys) (sym h) x_in)
    not_y (inr i) = w.0 i
