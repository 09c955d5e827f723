-- What is computed from values alone: by the machine for an instruction, and by the meaning of a source for the step
-- that the instruction stands for. Numbers follow the checked arithmetic of the language, and pointers that of a
-- layout.
use Rattle.std.specs.Prelude.{ℕ, zero, ◌==◌, ℤ, pos, nat_lt, if◌then◌else◌, Result, Ok, Err, Bool, true, false, ◌&&◌, List, [], ◌∷◌, length, slice_get}
use Rattle.std.specs.Ordering.{int_eq}
use Rattle.sc_base.specs.Arithmetic.{binary_of, unary_of}
use Rattle.sc_base.specs.declared.operator.Binary.{Binary}
use Rattle.sc_base.specs.declared.operator.Unary.{Unary}
use Rattle.sc_base.specs.declared.shape.Star.{Star}
use Rattle.sc_base.specs.declared.shape.Star.TheVariants.{Local, Global, Spread}
use Rattle.sc_base.specs.declared.value.FaultKind.{FaultKind}
use Rattle.sc_base.specs.declared.value.Value.{Value}
use Rattle.sc_base.specs.declared.value.Value.TheVariants.{Int, Null, Ptr}
use Rattle.sc_layout.specs.Layout.{Arrangement}
use Rattle.sc_layout.specs.Pointer.{global_step, spread_step, with_node, global_of, node_of}
pub use Rattle.sc_isa.specs.Elements.{Outcome, gives, fails, wrong, ints, element}

-- an operation that takes values and gives one
pub data Pure : Type 0 where
  push : ℤ → Pure
  null mine procs : Pure
  -- the cell of an object at so many indices
  elem : (object count : ℕ) → Pure
  step : Star → Pure
  glob to_local to_proc to_global : Pure
  bin : Binary → Pure
  un : Unary → Pure
  same truth : Pure

-- how many values it takes
abbrev pub arity : Pure → ℕ
arity (push n) = 0
arity null = 0
arity mine = 0
arity procs = 0
arity (elem object count) = count
arity (step star) = 2
arity to_global = 2
arity (bin op) = 2
arity same = 2
arity _ = 1

abbrev pub value_or_fault : Result Value FaultKind → Outcome
value_or_fault (Ok value) = gives value
value_or_fault (Err kind) = fails kind

abbrev pub int_or_fault : Result ℤ FaultKind → Outcome
int_or_fault (Ok n) = gives (Int n)
int_or_fault (Err kind) = fails kind

abbrev pub bit : Bool → Value
bit true = Int (pos 1)
bit false = Int (pos 0)

abbrev pub is_true : Value → Bool
is_true (Int (pos zero)) = false
is_true Null = false
is_true _ = true

abbrev pub same_value : Value → Value → Bool
same_value (Int a) (Int b) = int_eq a b
same_value Null Null = true
same_value (Ptr a b c) (Ptr object node offset) = (a == object) && ((b == node) && (c == offset))
same_value _ _ = false

-- null, or a pointer that names an object and a node of the layout
abbrev pub is_pointer : Arrangement → Value → Bool
is_pointer layout (Int n) = false
is_pointer layout Null = true
is_pointer layout (Ptr object node offset) = nat_lt object (length layout.objects) && nat_lt node layout.nodes

abbrev pub of_pointer : Arrangement → Value → Outcome → Outcome
of_pointer layout value outcome = if is_pointer layout value then outcome else wrong

abbrev pub stepped : ℕ → Star → Value → ℤ → Result Value FaultKind
stepped nodes Local pointer by = global_step pointer by
stepped nodes Global pointer by = global_step pointer by
stepped nodes Spread pointer by = spread_step nodes pointer by

-- ---- what each operation gives

abbrev pub on_none : Arrangement → (node : ℕ) → Pure → Outcome
on_none layout node (push n) = gives (Int n)
on_none layout node null = gives Null
on_none layout node mine = gives (Int (pos node))
on_none layout node procs = gives (Int (pos layout.nodes))
on_none layout node _ = wrong

abbrev pub on_one : Arrangement → (node : ℕ) → Pure → Value → Outcome
on_one layout node glob pointer = of_pointer layout pointer (gives (with_node node pointer))
on_one layout node to_local pointer = of_pointer layout pointer (gives (with_node 0 pointer))
on_one layout node to_proc pointer = of_pointer layout pointer (int_or_fault (node_of pointer))
on_one layout node (un op) (Int a) = int_or_fault (unary_of op a)
on_one layout node truth value = gives (bit (is_true value))
on_one layout node _ _ = wrong

abbrev pub on_two : Arrangement → Pure → Value → Value → Outcome
on_two layout (step star) pointer (Int by) =
    of_pointer layout pointer (value_or_fault (stepped layout.nodes star pointer by))
on_two layout to_global (Int node) pointer =
    of_pointer layout pointer (value_or_fault (global_of layout.nodes node pointer))
on_two layout (bin op) (Int a) (Int b) = int_or_fault (binary_of op a b)
on_two layout same a b = gives (bit (same_value a b))
on_two layout _ _ _ = wrong

-- the values in the order in which they were made
abbrev pub computed : Arrangement → (node : ℕ) → Pure → List Value → Outcome
computed layout node (elem object count) values =
    element layout object (slice_get layout.objects object) (ints values)
computed layout node op [] = on_none layout node op
computed layout node op (a ∷ []) = on_one layout node op a
computed layout node op (a ∷ b ∷ []) = on_two layout op a b
computed layout node op _ = wrong
