-- What a typed expression comes to before it is used: a value, a local, or a cell; and how it is then read, written and
-- changed. The lines are those at which a fault of the part is told.
use Rattle.std.specs.Prelude.{ℕ, pos, ◌+◌, Bool, true, false, not, ◌&&◌, Option, Some, None, List, [], ◌∷◌, length, slice_get, nat_eq, if◌then◌else◌}
use Rattle.std.specs.Option.{option_map_or}
use Rattle.sc_base.specs.declared.operator.Binary.{Binary}
use Rattle.sc_base.specs.declared.operator.Binary.TheVariants as op
use Rattle.sc_base.specs.declared.shape.Star.{Star}
use Rattle.sc_base.specs.declared.shape.Star.TheVariants as star
use Rattle.sc_base.specs.declared.shape.Shape.{Shape}
use Rattle.sc_core.specs.declared.operation.Constant.TheVariants.{Number}
use Rattle.sc_core.specs.declared.operation.Operation.{Operation}
use Rattle.sc_core.specs.declared.operation.Operation.TheVariants as does
use Rattle.sc_core.specs.Core.{Core, constant, step, update, Arguments, none, argument}

-- the last star of a pointer's type; an int has none
abbrev pub last_of : List Star → Option Star
last_of [] = None
last_of (s ∷ []) = Some s
last_of (_ ∷ more) = last_of more

-- a pointer that means the executing node's own memory
abbrev pub is_own : Option Star → Bool
is_own (Some star.Local) = true
is_own _ = false

-- a pointer that names a node
abbrev pub is_wide : Option Star → Bool
is_wide (Some star.Global) = true
is_wide (Some star.Spread) = true
is_wide _ = false

abbrev pub is_pointer : Option Star → Bool
is_pointer None = false
is_pointer (Some _) = true

abbrev pub number_one : Core
number_one = constant (Number (pos 1))

abbrev pub number_zero : Core
number_zero = constant (Number (pos 0))

abbrev pub with_one : Operation → Core → (line : ℕ) → Core
with_one operation e line = step operation (argument e none) line

abbrev pub with_two : Operation → Core → Core → (line : ℕ) → Core
with_two operation a b line = step operation (argument a (argument b none)) line

-- what an operator does, by the last star of its left operand's type
abbrev pub operation_on : Option Star → Binary → Operation
operation_on (Some s) op.Add = does.Forward s
operation_on (Some s) op.Sub = does.Back s
operation_on (Some s) op.Eq = does.Same
operation_on (Some s) op.Ne = does.Differ
operation_on _ operator = does.Binary operator

-- the last star of the type of what the operator gives
abbrev pub star_after : Binary → Option Star → Option Star
star_after op.Add left = left
star_after op.Sub left = left
star_after _ left = None

abbrev pub step_operator : (up : Bool) → Binary
step_operator true = op.Add
step_operator false = op.Sub

-- what takes back a step up or down
abbrev pub taken_back : (up : Bool) → Binary
taken_back true = op.Sub
taken_back false = op.Add

-- a local pointer becomes a global or spread one
abbrev pub converted : (from to : Option Star) → Core → (line : ℕ) → Core
converted from to e line = if is_own from && is_wide to then with_one does.Convert e line else e

-- A value; a local, at the line of its name; or the cell behind a pointer, which is one of the executing node's own
-- memory or names its node, and the line at which a plain read of the cell is told.
pub data Found : Type 0 where
  value : Core → Found
  local : (number line : ℕ) → Found
  cell : (pointer : Core) → (own : Bool) → (line : ℕ) → Found

-- the pointer as the place of an access or an argument of a bulk transfer
abbrev pub reaching : (own : Bool) → (pointer : Core) → (line : ℕ) → Core
reaching true pointer line = with_one does.Own pointer line
reaching false pointer line = pointer

abbrev pub fetched : Found → Core
fetched (value e) = e
fetched (local x line) = step (does.Use x) none line
fetched (cell pointer own line) = with_one does.Read (reaching own pointer line) line

-- a plain assignment of the value, told at this line
abbrev pub assigned : Found → Core → (line : ℕ) → Core
assigned (value e) right line = right
assigned (local x _) right line = with_one (does.Set x) right line
assigned (cell pointer own at) right line = with_two does.Write (reaching own pointer at) right line

-- a compound assignment, told at this line
abbrev pub changed : Found → Operation → (right : Core) → (line : ℕ) → Core
changed (value e) operation right line = e
changed (local x _) operation right line =
    with_one (does.Set x) (with_two operation (step (does.Use x) none line) right line) line
changed (cell pointer own at) operation right line = update (reaching own pointer at) operation right None line

-- `++` or `--` behind a place, whose value is the old one
abbrev pub changed_after : Found → (operation back : Operation) → (line : ℕ) → Core
changed_after (value e) operation back line = e
changed_after (local x at) operation back line =
    with_two back (changed (local x at) operation number_one line) number_one line
changed_after (cell pointer own at) operation back line =
    update (reaching own pointer at) operation number_one (Some back) line

-- an object's cell as a pointer to it
abbrev pub exposed : Core → Core
exposed (step (does.Element o count plain) indices line) = step (does.Address o count) indices line
exposed pointer = pointer

-- what `&` gives
abbrev pub address_of : Found → Core
address_of (value e) = e
address_of (local x line) = step (does.Use x) none line
address_of (cell pointer own line) = exposed pointer

-- the stars of what a pointer leads to
abbrev pub without_last : List Star → List Star
without_last [] = []
without_last (s ∷ []) = []
without_last (s ∷ more) = s ∷ without_last more

-- the cell that a pointer with this last star leads to
abbrev pub behind : Option Star → (pointer : Core) → (line : ℕ) → Found
behind s pointer line = cell pointer (is_own s) line

-- how many dimensions the object has, and whether its cells are spread over the nodes
abbrev pub dimensions_of : List Shape → ℕ → ℕ
dimensions_of objects o = option_map_or (λ s. length s.left + length s.right) (slice_get objects o) 0

abbrev pub is_spread : List Shape → ℕ → Bool
is_spread objects o = option_map_or (λ s. s.spread) (slice_get objects o) false

-- the object with so many indices: a cell where it has them all, and else the pointer to the first that remains
abbrev pub object_with : List Shape → (object count : ℕ) → (plain : Bool) → Arguments → (line : ℕ) → Found
object_with objects o count plain indices line =
    if nat_eq count (dimensions_of objects o)
    then cell (step (does.Element o count plain) indices line) (not (is_spread objects o)) line
    else value (step (does.Address o count) indices line)
