-- The points of a core tree: one for each step, test, turn and return, and for each function one at its beginning and
-- one at its end. Point 0 is the start.
use Rattle.std.specs.Prelude.{ℕ, zero, suc, ◌+◌, Option, Some, None, List, [], ◌∷◌}
use Rattle.sc_core.specs.declared.operation.Operation.{Operation}
use Rattle.sc_core.specs.Core.{Core, constant, step, choice, update, Arguments, none, argument, Does, nothing, break, continue, then_, act, choose, loop, return, Function}

abbrev pub one_if_some : Option Operation → ℕ
one_if_some None = 0
one_if_some (Some operation) = 1

abbrev mutual
  pub size : Core → ℕ
  size (constant c) = 0
  size (step operation arguments line) = sizes arguments + 1
  size (choice of_pointer test on off) = size test + 1 + size on + size off
  size (update pointer operation right back line) = size pointer + 1 + size right + 2 + one_if_some back

  pub sizes : Arguments → ℕ
  sizes none = 0
  sizes (argument e more) = size e + sizes more

abbrev pub size_of : Does → ℕ
size_of nothing = 0
size_of break = 0
size_of continue = 0
size_of (then_ a b) = size_of a + size_of b
size_of (act action arguments line) = sizes arguments + 1
size_of (choose of_pointer test on off) = size test + 1 + size_of on + size_of off
size_of (loop mine before body next) = size_of before + 1 + size_of body + size_of next
size_of (return e line) = size e + 1

-- the first point of the function, where the first of these functions begins at this point
abbrev pub first_from : (point : ℕ) → List Function → (function : ℕ) → ℕ
first_from point [] f = point
first_from point (g ∷ more) zero = point
first_from point (g ∷ more) (suc f) = first_from (point + size_of g.body + 2) more f

abbrev pub first_point : List Function → (function : ℕ) → ℕ
first_point functions f = first_from 1 functions f
