-- The local of a `for_my_1d`, by whether it is written.
use Rattle.std.proofs.Common.{◌≡◌, refl, ℕ, ◌==◌, true, false, [], ◌∷◌, ◌++◌, Some}
use Rattle.std.specs.List.{list_any}
use Rattle.sc_core.specs.Core.{Does}
use Rattle.flow_form.specs.Written.{written_in}
use Rattle.flow_form.specs.Statements.{mine_in}

pub mine-written : (x : ℕ) (before body : Does) → list_any (λ y. x == y) (written_in before ++ written_in body) ≡ true
    → mine_in (Some x) before body ≡ []
mine-written x before body h = rw h refl

pub mine-free : (x : ℕ) (before body : Does) → list_any (λ y. x == y) (written_in before ++ written_in body) ≡ false
    → mine_in (Some x) before body ≡ x ∷ []
mine-free x before body h = rw h refl

pub ruleset mines = (mine-written, mine-free)
