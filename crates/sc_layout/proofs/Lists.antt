-- What f gives along a list, part by part.
use Rattle.std.proofs.Common.{◌≡◌, Ok, Err, List, [], ◌∷◌, ◌++◌, refl, ◌∙◌, ap}
use Rattle.std.specs.Prelude.{Result}
use Rattle.std.specs.Result.{result_map_both}
use Rattle.sc_layout.specs.Layout.{each_of, first_then}

-- the one after the other, or the first refusal
abbrev pub joined : {B E : Type 0} → Result (List B) E → Result (List B) E → Result (List B) E
joined (Ok a) r = result_map_both (λ b. a ++ b) (λ e. e) r
joined (Err e) r = Err e

joined-nil : {B E : Type 0} (r : Result (List B) E) → r ≡ joined (Ok []) r
joined-nil (Ok b) = refl
joined-nil (Err e) = refl

first_then-joined : {B E : Type 0} (p : Result B E) (q r : Result (List B) E) → first_then p (joined q r) ≡ joined (first_then p q) r
first_then-joined (Ok x) (Ok a) (Ok b) = refl
first_then-joined (Ok x) (Ok a) (Err e) = refl
first_then-joined (Ok x) (Err e) r = refl
first_then-joined (Err e) q r = refl

pub each_of-append : {A B E : Type 0} (f : A → Result B E) (xs ys : List A) → each_of f (xs ++ ys) ≡ joined (each_of f xs) (each_of f ys)
each_of-append f [] ys = joined-nil (each_of f ys)
each_of-append f (x ∷ xs) ys = ap (first_then (f x)) (each_of-append f xs ys) ∙ first_then-joined (f x) (each_of f xs) (each_of f ys)

pub each_of-both : {A B E : Type 0} (f : A → Result B E) (xs ys : List A) (a b : List B) → each_of f xs ≡ Ok a → each_of f ys ≡ Ok b → each_of f (xs ++ ys) ≡ Ok (a ++ b)
each_of-both f xs ys a b p q = rw (each_of-append f xs ys, p, q) refl

pub each_of-second : {A B E : Type 0} (f : A → Result B E) (xs ys : List A) (a : List B) (e : E) → each_of f xs ≡ Ok a → each_of f ys ≡ Err e → each_of f (xs ++ ys) ≡ Err e
each_of-second f xs ys a e p q = rw (each_of-append f xs ys, p, q) refl

pub each_of-first : {A B E : Type 0} (f : A → Result B E) (xs ys : List A) (e : E) → each_of f xs ≡ Err e → each_of f (xs ++ ys) ≡ Err e
each_of-first f xs ys e p = rw (each_of-append f xs ys, p) refl

one-ok : {A B E : Type 0} (f : A → Result B E) (x : A) (y : B) → f x ≡ Ok y → each_of f (x ∷ []) ≡ Ok (y ∷ [])
one-ok f x y p = rw p refl

one-err : {A B E : Type 0} (f : A → Result B E) (x : A) (xs : List A) (e : E) → f x ≡ Err e → each_of f (x ∷ xs) ≡ Err e
one-err f x xs e p = rw p refl

-- one more, behind the others
pub each_of-push : {A B E : Type 0} (f : A → Result B E) (xs : List A) (x : A) (a : List B) (y : B) → each_of f xs ≡ Ok a → f x ≡ Ok y → each_of f (xs ++ x ∷ []) ≡ Ok (a ++ y ∷ [])
each_of-push f xs x a y p q = each_of-both f xs (x ∷ []) a (y ∷ []) p (one-ok f x y q)

-- the first refusal
pub each_of-stop : {A B E : Type 0} (f : A → Result B E) (xs : List A) (x : A) (ys : List A) (a : List B) (e : E) → each_of f xs ≡ Ok a → f x ≡ Err e → each_of f (xs ++ x ∷ ys) ≡ Err e
each_of-stop f xs x ys a e p q = each_of-second f xs (x ∷ ys) a e p (one-err f x ys e q)
