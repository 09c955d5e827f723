-- Cases on a test and on numbers, with what is tested first, so that each case knows it.
use Rattle.std.proofs.Common.{◌≡◌, ⊎_elim, ℕ, ◌<◌, ◌≤◌, Bool, true, false}
use Rattle.std.proofs.lemmas.Bool.{cases_Bool, cases_eq, cases_lt}

pub decide_on : {P : Type 0} (b : Bool) → (b ≡ true → P) → (b ≡ false → P) → P
decide_on b yes_case no_case = ⊎_elim yes_case no_case (cases_Bool b)

pub decide_eq : {P : Type 0} (a b : ℕ) → (a ≡ b → P) → ((a ≡ b → ⊥) → P) → P
decide_eq a b yes_case no_case = ⊎_elim yes_case no_case (cases_eq a b)

pub decide_lt : {P : Type 0} (a b : ℕ) → (a < b → P) → (b ≤ a → P) → P
decide_lt a b yes_case no_case = ⊎_elim yes_case no_case (cases_lt a b)
