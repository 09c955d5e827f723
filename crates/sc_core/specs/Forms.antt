-- What the places of accesses are, as far as their text tells, and which objects can be reached through pointers.
use Rattle.std.specs.Prelude.{ℕ, Bool, List, [], ◌∷◌, ◌++◌, flat_map}
use Rattle.sc_core.specs.declared.operation.Operation.{Operation}
use Rattle.sc_core.specs.declared.operation.Operation.TheVariants.{Element, Address, Own}
use Rattle.sc_core.specs.Core.{Core, constant, step, choice, update, Arguments, none, argument, Does, then_, act, choose, loop, return, Program}

-- the executing node's own cell of an object; a cell of a spread object, by its indices and whether they are plain;
-- a use of a local pointer; or a use of a pointer that names a node
pub data PlaceForm : Type 0 where
  own_object : (object : ℕ) → PlaceForm
  element : (object : ℕ) → (plain : Bool) → (indices : Arguments) → PlaceForm
  own_exposed : PlaceForm
  exposed : PlaceForm

abbrev pub form_of : Core → PlaceForm
form_of (step Own (argument (step (Element o n plain) indices at) none) line) = own_object o
form_of (step (Element o n plain) indices line) = element o plain indices
form_of (step Own arguments line) = own_exposed
form_of _ = exposed

abbrev pub exposed_by : Operation → List ℕ
exposed_by (Address o n) = o ∷ []
exposed_by _ = []

abbrev mutual
  -- the objects whose addresses are taken, in the order of the text
  pub exposes : Core → List ℕ
  exposes (constant c) = []
  exposes (step operation arguments line) = exposes_all arguments ++ exposed_by operation
  exposes (choice of_pointer test on off) = exposes test ++ exposes on ++ exposes off
  exposes (update pointer operation right back line) = exposes pointer ++ exposes right

  pub exposes_all : Arguments → List ℕ
  exposes_all none = []
  exposes_all (argument e more) = exposes e ++ exposes_all more

abbrev pub exposes_in : Does → List ℕ
exposes_in (then_ first second) = exposes_in first ++ exposes_in second
exposes_in (act action arguments line) = exposes_all arguments
exposes_in (choose of_pointer test on off) = exposes test ++ exposes_in on ++ exposes_in off
exposes_in (loop mine before body after) = exposes_in before ++ exposes_in body ++ exposes_in after
exposes_in (return e line) = exposes e
exposes_in _ = []

-- the objects that are exposed in the source
abbrev pub exposes_of : Program → List ℕ
exposes_of program = flat_map (λ f. exposes_in f.body) program.functions
