-- How a loop that goes along a list gives what f gives along it, or the first refusal.
use Rattle.std.proofs.Common.{◌≡◌, ℕ, ◌+◌, ◌<◌, Ok, Err, List, [], ◌∷◌, ◌++◌, length, take, drop, get_or, sym, ◌∙◌, ap}
use Rattle.std.specs.Prelude.{Result}
use Rattle.std.proofs.lemmas.List.{take_more, drop_more, take-append-drop}
use Rattle.sc_layout.specs.Layout.{each_of, IsCause}
use Rattle.sc_layout.specs.declared.error.LayoutError.{LayoutError}
use Rattle.sc_layout.specs.declared.error.LayoutError.TheVariants.{TooManyObjects, BadBound, TooManyCells, OutOfMemory}
use Rattle.sc_layout.proofs.Lists.{each_of-push, each_of-stop}

-- a cause stays one where a refusal stays one
pub cause_kept : {A B : Type 0} (e : LayoutError) (p : Result A LayoutError) (q : Result B LayoutError) → (p ≡ Err e → q ≡ Err e) → IsCause e p → IsCause e q
cause_kept (TooManyObjects n) p q f c = f c
cause_kept (BadBound n) p q f c = f c
cause_kept (TooManyCells n) p q f c = f c
cause_kept OutOfMemory p q f c = tt

parts : {A : Type 0} (xs : List A) (i : ℕ) (x : A) → i < length xs → x ≡ get_or xs i x → take i xs ++ x ∷ drop (i + 1) xs ≡ xs
parts xs i x h is =
    ap (λ y. take i xs ++ y ∷ drop (i + 1) xs) is ∙ ap (λ ys. take i xs ++ ys) (sym (drop_more xs i x h)) ∙ take-append-drop i xs

pub loop_push : {A B : Type 0} (f : A → Result B LayoutError) (xs : List A) (i : ℕ) (x : A) (a : List B) (y : B) → i < length xs → x ≡ get_or xs i x → each_of f (take i xs) ≡ Ok a → f x ≡ Ok y → each_of f (take (i + 1) xs) ≡ Ok (a ++ y ∷ [])
loop_push f xs i x a y h is p q = rw (take_more xs i x h, ← is) (each_of-push f (take i xs) x a y p q)

pub loop_stop : {A B : Type 0} (f : A → Result B LayoutError) (xs : List A) (i : ℕ) (x : A) (a : List B) (e : LayoutError) → i < length xs → x ≡ get_or xs i x → each_of f (take i xs) ≡ Ok a → IsCause e (f x) → IsCause e (each_of f xs)
loop_stop f xs i x a e h is p c =
    cause_kept e (f x) (each_of f xs) (λ q. ap (each_of f) (sym (parts xs i x h is)) ∙ each_of-stop f (take i xs) x (drop (i + 1) xs) a e p q) c
