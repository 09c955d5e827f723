-- What the points of a core tree are, in their order: whether a loop's turn begins at a point, a call is made there, or
-- a function is entered or left.
use Rattle.std.specs.Prelude.{ℕ, Option, Some, None, List, [], ◌∷◌, ◌++◌, slice_get}
use Rattle.std.specs.Option.{option_map_or}
use Rattle.sc_core.specs.declared.operation.Operation.{Operation}
use Rattle.sc_core.specs.declared.operation.Operation.TheVariants.{Call}
use Rattle.sc_core.specs.Core.{Core, constant, step, choice, update, Arguments, none, argument, Does, nothing, break, continue, then_, act, choose, loop, return, Function, Program}

pub data Mark : Type 0 where
  plain : Mark
  turn : Mark
  call : Mark
  enters : Mark
  leaves : Mark

abbrev pub mark_of : Operation → Mark
mark_of (Call f n) = call
mark_of _ = plain

abbrev pub mark_if : Option Operation → List Mark
mark_if None = []
mark_if (Some operation) = mark_of operation ∷ []

abbrev mutual
  pub marks : Core → List Mark
  marks (constant c) = []
  marks (step operation arguments line) = marks_all arguments ++ mark_of operation ∷ []
  marks (choice of_pointer test on off) = marks test ++ plain ∷ (marks on ++ marks off)
  marks (update pointer operation right undo line) =
      marks pointer ++ plain ∷ (marks right ++ mark_of operation ∷ plain ∷ mark_if undo)

  pub marks_all : Arguments → List Mark
  marks_all none = []
  marks_all (argument e more) = marks e ++ marks_all more

abbrev pub marks_in : Does → List Mark
marks_in nothing = []
marks_in break = []
marks_in continue = []
marks_in (then_ a b) = marks_in a ++ marks_in b
marks_in (act action arguments line) = marks_all arguments ++ plain ∷ []
marks_in (choose of_pointer test on off) = marks test ++ plain ∷ (marks_in on ++ marks_in off)
marks_in (loop mine before body after) = marks_in before ++ turn ∷ (marks_in body ++ marks_in after)
marks_in (return e line) = marks e ++ leaves ∷ []

abbrev pub marks_of : List Function → List Mark
marks_of [] = []
marks_of (f ∷ more) = enters ∷ (marks_in f.body ++ leaves ∷ marks_of more)

-- the mark of a point; point 0 is the start
abbrev pub mark_at : Program → (point : ℕ) → Mark
mark_at program point = option_map_or (λ mark. mark) (slice_get (plain ∷ marks_of program.functions) point) plain
