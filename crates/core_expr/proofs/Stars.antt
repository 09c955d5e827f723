-- The last star, and those before it, by their place in the list.
use Rattle.std.proofs.Common.{◌≡◌, refl, ap, suc, ◌-◌, List, [], ◌∷◌, length, take, slice_get, sym, arith}
use Rattle.sc_base.specs.declared.shape.Star.{Star}
use Rattle.sc_core.specs.Places.{last_of, without_last}

last-more : (s : Star) (stars : List Star) → slice_get (s ∷ stars) (length stars) ≡ last_of (s ∷ stars)
last-more s [] = refl
last-more s (t ∷ more) = last-more t more

pub last-is : (stars : List Star) → last_of stars ≡ slice_get stars (length stars - 1)
last-is [] = refl
last-is (s ∷ more) = let e : suc (length more) - 1 ≡ length more = omega arith in rw e (sym (last-more s more))

without_last-more : (s : Star) (stars : List Star) → without_last (s ∷ stars) ≡ take (length stars) (s ∷ stars)
without_last-more s [] = refl
without_last-more s (t ∷ more) = ap (λ l. s ∷ l) (without_last-more t more)

pub without_last-is : (stars : List Star) → without_last stars ≡ take (length stars - 1) stars
without_last-is [] = refl
without_last-is (s ∷ more) = let e : suc (length more) - 1 ≡ length more = omega arith in rw e (without_last-more s more)

pub ruleset stars = (last-is, without_last-is)
