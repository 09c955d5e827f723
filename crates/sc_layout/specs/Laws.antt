-- Laws of layouts and of the arithmetic of pointers.
use Rattle.std.specs.Prelude.{◌≡◌, ℕ, zero, suc, ◌/◌, ◌%◌, ◌<◌, ◌≤◌, ℤ, pos, ◌+ℤ◌, true, Option, Some, Result, Ok, Err, List, [], ◌∷◌, ◌++◌, slice_get}
use Rattle.std.specs.Option.{option_and_then}
use Rattle.std.specs.Result.{result_ok}
use Rattle.sc_base.specs.Arithmetic.{binary_of}
use Rattle.sc_base.specs.declared.operator.Binary.{Binary}
use Rattle.sc_base.specs.declared.shape.BoundStep.{BoundStep}
use Rattle.sc_base.specs.declared.shape.BoundStep.TheVariants.{Op}
use Rattle.sc_base.specs.declared.value.FaultKind.{FaultKind}
use Rattle.sc_base.specs.declared.value.Place.{Place}
use Rattle.sc_base.specs.declared.value.Value.{Value}
use Rattle.sc_base.specs.declared.value.Value.TheVariants.{Ptr}
use Rattle.sc_layout.specs.Bound.{IsWhole, result_of}
use Rattle.sc_layout.specs.Layout.{Arrangement, LaidObject, IsLayout, product, cells_on}
use Rattle.sc_layout.specs.Place.{IsPlace, place_of}
use Rattle.sc_layout.specs.Pointer.{spread_step, global_of, node_of}

-- the value of an operator's expression, where both operands have one
abbrev pub combined : Binary → Option ℤ → Option ℤ → Option ℤ
combined op a b = option_and_then (λ x. option_and_then (λ y. result_ok (binary_of op x y)) b) a

-- a postfix expression has the value of its operator at the values of its two parts
abbrev pub PartsGiveTheValue : Type 0
PartsGiveTheValue =
    (nodes : ℕ) (op : Binary) (left right : List BoundStep) →
    IsWhole left → IsWhole right → result_of nodes (left ++ right ++ Op op ∷ []) ≡ combined op
    (result_of nodes left) (result_of nodes right)

-- an object's flat indices and its places correspond one to one
pub record OneToOne (layout : Arrangement) (object : ℕ) : Type 0 where
  pub within : (node index : ℕ) (place : Place) → place_of layout node object index ≡ Some place →
      (place.object ≡ object) × IsPlace layout place
  pub apart : (node i j : ℕ) (place : Place) → place_of layout node object i ≡ Some place →
      place_of layout node object j ≡ Some place → i ≡ j
  pub reached : (node : ℕ) (place : Place) → place.object ≡ object → IsPlace layout place → (index : ℕ)
      × (place_of layout node object index ≡ Some place)

abbrev pub SpreadElementsArePlaces : Type 0
SpreadElementsArePlaces =
    (layout : Arrangement) (object : ℕ) (o : LaidObject) →
    IsLayout layout → slice_get layout.objects object ≡ Some o → o.shape.spread ≡ true →
    OneToOne layout object

-- node 0 has at least as many cells as any other
abbrev pub NodeZeroIsFullest : Type 0
NodeZeroIsFullest = (layout : Arrangement) (node : ℕ) → IsLayout layout →
    cells_on layout node ≤ cells_on layout 0

-- two spread steps that do not fault are one by the sum
abbrev pub SpreadStepsAdd : Type 0
SpreadStepsAdd =
    (nodes : ℕ) (from over to : Value) (a b : ℤ) →
    spread_step nodes from a ≡ Ok over → spread_step nodes over b ≡ Ok to →
    spread_step nodes from (a +ℤ b) ≡ Ok to

-- the pointer after this many spread steps by one
abbrev pub walk_on : ℕ → Result Value FaultKind → Result Value FaultKind
walk_on nodes (Ok pointer) = spread_step nodes pointer (pos 1)
walk_on nodes (Err fault) = Err fault

abbrev pub walked : ℕ → Value → ℕ → Result Value FaultKind
walked nodes pointer zero = Ok pointer
walked nodes pointer (suc steps) = walk_on nodes (walked nodes pointer steps)

-- from element 0 of a spread array without right dimensions the i-th step by one is at element i, which is on
-- node i mod N as its element i div N
abbrev pub WalkIsCyclic : Type 0
WalkIsCyclic =
    (layout : Arrangement) (object node i : ℕ) (o : LaidObject) →
    IsLayout layout → slice_get layout.objects object ≡ Some o → o.shape.spread ≡ true →
    o.shape.right ≡ [] → i < product o.bounds →
    (walked layout.nodes (Ptr object 0 0) i ≡ Ok (Ptr object (i % layout.nodes) (i / layout.nodes)))
    × (place_of layout node object i ≡ Some
    (record { object = object; node = i % layout.nodes; offset = i / layout.nodes }))

-- a pointer that was given a node has it
abbrev pub ToprocOfToglobal : Type 0
ToprocOfToglobal =
    (nodes object from offset : ℕ) (node : ℤ) (pointer : Value) →
    global_of nodes node (Ptr object from offset) ≡ Ok pointer → node_of pointer ≡ Ok node
