-- The first of the names that is `splitc_main`.
use Rattle.std.proofs.Common.{◌≡◌, refl, ◌+◌, true, false, ◌-◌, List, ◌∷◌, length, map, drop, ap, add-one}
use Rattle.std.specs.Prelude.{codes}
use Rattle.std.proofs.lemmas.List.{length-map}
use Rattle.std.specs.Str.{bytes_eq}
use Rattle.sc_tree.specs.Names.{Text}
use Rattle.sc_core.specs.declared.statement.CoreFunction.{CoreFunction}
use Rattle.sc_core.specs.Lowering.{main_in}
use Rattle.sc_core.specs.ViewStatements.{plain_function}

pub main-here : (t : Text) (more : List Text) → bytes_eq t (codes "splitc_main") ≡ true → main_in (t ∷ more) ≡ 0
main-here t more h = rw h refl

pub main-on : (t : Text) (more : List Text) → bytes_eq t (codes "splitc_main") ≡ false → main_in (t ∷ more) ≡ main_in more + 1
main-on t more h = rw (h, add-one) refl

pub ruleset mains = (main-here, main-on)

-- the names of the functions are as many as they
pub names-are : (texts : List Text) (made : List CoreFunction) →
    main_in (drop (length texts - length (map plain_function made)) texts) ≡ main_in (drop (length texts - length made) texts)
names-are texts made = ap (λ n. main_in (drop (length texts - n) texts)) (length-map made plain_function)

pub ruleset names = (names-are)
