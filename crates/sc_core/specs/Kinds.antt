-- What the values of a core tree's parts are. Which nodes a pointer may reach makes no difference to what it may be
-- used for, so the last star of a pointer's type is left out.
use Rattle.std.specs.Prelude.{◌≡◌, ℕ, zero, suc, ◌+◌, ◌<◌, ◌≤◌, Bool, true, false, List, [], ◌∷◌, ◌++◌, length, map, slice_get, Some, FitsSigned}
use Rattle.std.specs.Int.{w64}
use Rattle.std.specs.List.{Contains}
use Rattle.sc_base.specs.declared.shape.Star.{Star}
use Rattle.sc_base.specs.declared.shape.Shape.{Shape}
use Rattle.sc_base.specs.declared.shape.Ty.{Ty}
use Rattle.sc_core.specs.declared.operation.Constant.{Constant}
use Rattle.sc_core.specs.declared.operation.Constant.TheVariants.{Number, Null, Mine, Procs}
use Rattle.sc_core.specs.declared.operation.Operation.{Operation}
use Rattle.sc_core.specs.declared.operation.Operation.TheVariants.{Use, Element, Address, Own, Convert, Forward, Back, Binary, Unary, Same, Differ, IsNull, ToGlobal, ToProc, ToLocal, Set, Call, Read, Write}
use Rattle.sc_core.specs.declared.operation.Action.{Action}
use Rattle.sc_core.specs.declared.operation.Action.TheVariants.{Drop, Begin, Clear, Fill, Get, Put, Send, Copy, Print, Sync, Barrier, AllStoreSync}
use Rattle.sc_core.specs.Core.{Function}
use Rattle.sc_core.specs.Places.{without_last}

-- A whole number; a pointer to a cell whose type has these stars; or a cell that an object's name names, of which
-- `placed` says that its node is known. No local, parameter or cell has a value of the last kind.
pub data Kind : Type 0 where
  number : Kind
  to : (cell : List Star) → Kind
  named : (placed : Bool) → (cell : List Star) → Kind

-- what a value of a type with these stars is
abbrev pub kind_of : List Star → Kind
kind_of [] = number
kind_of (s ∷ more) = to (without_last (s ∷ more))

abbrev pub kind_of_type : Ty → Kind
kind_of_type ty = kind_of ty.stars

abbrev pub numbers : ℕ → List Kind
numbers zero = []
numbers (suc n) = number ∷ numbers n

-- what a part of a function may name: the declared objects, the functions, how many texts there are, what the
-- function's locals are, and which of them have begun
pub record Scope : Type 0 where
  pub objects : List Shape
  pub functions : List Function
  pub texts : ℕ
  pub locals : List Kind
  pub begun : List ℕ

-- the local has values of this kind, once it has begun
abbrev pub IsLocal : Scope → (local : ℕ) → Kind → Type 0
IsLocal scope x kind = slice_get scope.locals x ≡ Some kind

abbrev pub HasBegun : Scope → (local : ℕ) → Kind → Type 0
HasBegun scope x kind = IsLocal scope x kind × Contains scope.begun x

-- a constant of this kind
pub data IsConstant : Constant → Kind → Type 0 where
  of_number : {n : _} → FitsSigned w64 n → IsConstant (Number n) number
  of_null : {cell : List Star} → IsConstant Null (to cell)
  of_mine : IsConstant Mine number
  of_procs : IsConstant Procs number

-- the place of an access to a cell whose type has these stars
pub data IsPlaceOf (cell : List Star) : Kind → Type 0 where
  pointed : IsPlaceOf cell (to cell)
  by_name : IsPlaceOf cell (named true cell)

-- an object has as many indices as dimensions, or the last one is missing
pub record HasIndices (shape : Shape) (count : ℕ) : Type 0 where
  pub enough : length shape.left + length shape.right ≤ suc count
  pub not_more : count ≤ length shape.left + length shape.right

-- what an operation that computes takes, and what it gives; a compound assignment is by one of these
pub data Computes : Operation → List Kind → Kind → Type 0 where
  forward : {star : Star} {cell : List Star} → Computes (Forward star) (to cell ∷ number ∷ []) (to cell)
  back : {star : Star} {cell : List Star} → Computes (Back star) (to cell ∷ number ∷ []) (to cell)
  binary : {op : _} → Computes (Binary op) (number ∷ number ∷ []) number

-- what a step takes, and what it gives
pub data Takes (scope : Scope) : Operation → List Kind → Kind → Type 0 where
  use_ : {x : ℕ} {k : Kind} → HasBegun scope x k → Takes scope (Use x) [] k
  element : {o n : ℕ} {plain : Bool} {s : Shape} → slice_get scope.objects o ≡ Some s
      → n ≡ length s.left + length s.right
      → Takes scope (Element o n plain) (numbers n) (named s.spread s.ty.stars)
  address : {o n : ℕ} {s : Shape} → slice_get scope.objects o ≡ Some s → HasIndices s n
      → Takes scope (Address o n) (numbers n) (to s.ty.stars)
  own_pointer : {cell : List Star} → Takes scope Own (to cell ∷ []) (named true cell)
  own_cell : {cell : List Star} → Takes scope Own (named false cell ∷ []) (named true cell)
  convert : {cell : List Star} → Takes scope Convert (to cell ∷ []) (to cell)
  computes : {op : Operation} {kinds : List Kind} {k : Kind} → Computes op kinds k → Takes scope op kinds k
  unary : {op : _} → Takes scope (Unary op) (number ∷ []) number
  same : {cell : List Star} → Takes scope Same (to cell ∷ to cell ∷ []) number
  differ : {cell : List Star} → Takes scope Differ (to cell ∷ to cell ∷ []) number
  is_null : {cell : List Star} → Takes scope IsNull (to cell ∷ []) number
  to_global : {cell : List Star} → Takes scope ToGlobal (number ∷ to cell ∷ []) (to cell)
  to_proc : {cell : List Star} → Takes scope ToProc (to cell ∷ []) number
  to_local : {cell : List Star} → Takes scope ToLocal (to cell ∷ []) (to cell)
  set : {x : ℕ} {k : Kind} → HasBegun scope x k → Takes scope (Set x) (k ∷ []) k
  call : {f : Function} {called : ℕ} → slice_get scope.functions called ≡ Some f
      → Takes scope (Call called (length f.params)) (map kind_of_type f.params) (kind_of_type f.result)
  read : {p : Kind} {cell : List Star} → IsPlaceOf cell p → Takes scope Read (p ∷ []) (kind_of cell)
  write : {p : Kind} {cell : List Star} → IsPlaceOf cell p →
      Takes scope Write (p ∷ kind_of cell ∷ []) (kind_of cell)

-- what a step without a value takes
pub data Uses (scope : Scope) : Action → List Kind → Type 0 where
  drop : {k : Kind} → Uses scope Drop (k ∷ [])
  begin : {x : ℕ} {k : Kind} → IsLocal scope x k → Uses scope (Begin x) (k ∷ [])
  clear_number : {x : ℕ} → IsLocal scope x number → Uses scope (Clear x false) []
  clear_pointer : {x : ℕ} {cell : List Star} → IsLocal scope x (to cell) → Uses scope (Clear x true) []
  fill : {x : ℕ} {p : Kind} {cell : List Star} → IsPlaceOf cell p → IsLocal scope x (kind_of cell) →
      Uses scope (Fill x) (p ∷ [])
  get : {x : ℕ} {p : Kind} {cell : List Star} → IsPlaceOf cell p → HasBegun scope x (kind_of cell) →
      Uses scope (Get x) (p ∷ [])
  put : {p : Kind} {cell : List Star} → IsPlaceOf cell p → Uses scope Put (p ∷ kind_of cell ∷ [])
  send : {p : Kind} {cell : List Star} → IsPlaceOf cell p → Uses scope Send (p ∷ kind_of cell ∷ [])
  copy : {mode : _} {p q : Kind} {cell : List Star} → IsPlaceOf cell p → IsPlaceOf cell q
      → Uses scope (Copy mode) (p ∷ q ∷ number ∷ [])
  print : {text n : ℕ} → text < scope.texts → Uses scope (Print text n) (numbers n)
  sync : Uses scope Sync []
  barrier : Uses scope Barrier []
  all_store_sync : Uses scope AllStoreSync []
