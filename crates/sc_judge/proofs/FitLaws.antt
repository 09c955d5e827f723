-- Arguments fit where they are as many as are wanted, and each pair fits.
use Rattle.std.proofs.Common.{◌≡◌, Bool, true, false, ◌&&◌, List, [], ◌∷◌, map, length, nat_eq, refl, sym}
use Prim.Native.Nat.compare
use Rattle.std.specs.List.{list_all, zip}
use Rattle.std.proofs.lemmas.List.Folds.{list_all-map}
use Rattle.sc_base.specs.declared.shape.Ty.{Ty}
use Rattle.sc_typing.specs.Arguments.{fit_all}
use Rattle.sc_typing.specs.Calls.{all_used}
use Rattle.sc_typing.specs.Known.{Judgement, is_used}
use Rattle.sc_typing.specs.Rules

-- a test before two others
swapped : (first long rest more : Bool) → more ≡ (long && rest) → (first && more) ≡ (long && (first && rest))
swapped true long rest more e = e
swapped false true rest more e = refl
swapped false false rest more e = refl

pub fit_all_is_zip : {X : Type 0} (f : X → Judgement) (wanted : List Ty) (given : List X) →
    fit_all wanted (map f given) ≡
    (nat_eq (length wanted) (length given) && list_all (λ pair. Rules.fit (f pair.1).known pair.0) (zip wanted given))
fit_all_is_zip f [] [] = refl
fit_all_is_zip f [] (x ∷ xs) = rw compare.zero-suc
fit_all_is_zip f (ty ∷ wanted) [] = rw compare.suc-zero
fit_all_is_zip f (ty ∷ wanted) (x ∷ xs) = rw compare.suc-suc
    (swapped (Rules.fit (f x).known ty) (nat_eq (length wanted) (length xs))
    (list_all (λ pair. Rules.fit (f pair.1).known pair.0) (zip wanted xs)) (fit_all wanted (map f xs))
    (fit_all_is_zip f wanted xs))

pub all_used_is : {X : Type 0} (f : X → Judgement) (given : List X) →
    all_used (map f given) ≡ list_all (λ x. is_used (f x)) given
all_used_is f given = list_all-map is_used f given
