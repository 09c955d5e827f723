-- The layout of the declared objects on the nodes, after the spread arrays of the report "Introduction to
-- Split-C" (Culler and others, 1995): an ordinary object has all its cells on every node, and the blocks of a
-- spread one are dealt out to the nodes in cyclic order.
use Rattle.std.specs.Prelude.{◌≡◌, ℕ, suc, ◌+◌, ◌-◌, ◌*◌, ◌/◌, ◌^◌, ◌<◌, min, true, false, if◌then◌else◌, nat_lt, Result, Ok, Err, List, [], ◌∷◌, ◌++◌, length, take, drop, map}
use Rattle.std.specs.Option.{ok_or}
use Rattle.std.specs.Result.{result_map_both}
use Rattle.std.specs.List.{sum_by, All}
use Rattle.sc_base.specs.declared.shape.Bound.{Bound}
use Rattle.sc_base.specs.declared.shape.Shape.{Shape}
use Rattle.sc_base.specs.declared.limits.TheConstants.{LIMITS}
use Rattle.sc_layout.specs.Bound.{IsWhole, value_of}
use Rattle.sc_layout.specs.declared.error.LayoutError.{LayoutError}
use Rattle.sc_layout.specs.declared.error.LayoutError.TheVariants.{TooManyObjects, BadBound, TooManyCells, OutOfMemory}

-- an object's shape, with the values of its bounds, the left ones first
pub record LaidObject : Type 0 where
  pub shape : Shape
  pub bounds : List ℕ

pub record Arrangement : Type 0 where
  pub nodes : ℕ
  pub objects : List LaidObject

-- what the front end gives: cells that are not void, each bound a whole expression, an ordinary object with no
-- right dimension, and a spread one with at least one left dimension
pub record IsLawful (shape : Shape) : Type 0 where
  pub not_void : shape.ty.void ≡ false
  pub ordinary : shape.spread ≡ false → shape.right ≡ []
  pub spread : shape.spread ≡ true → 0 < length shape.left
  pub whole : All (λ bound. IsWhole bound.steps) (shape.left ++ shape.right)

abbrev pub product : List ℕ → ℕ
product [] = 1
product (n ∷ ns) = n * product ns

-- how many blocks an object has, and how many cells each of them has
abbrev pub blocks_of : LaidObject → ℕ
blocks_of object = product (take (length object.shape.left) object.bounds)

abbrev pub block_of : LaidObject → ℕ
block_of object = product (drop (length object.shape.left) object.bounds)

-- how many of the numbers below `blocks` leave the remainder `node` when they are divided by `nodes`
abbrev pub share_of : ℕ → ℕ → ℕ → ℕ
share_of nodes blocks node = (blocks + (nodes - suc node)) / nodes

-- the object's cells on a node
unfoldable pub cells_of : ℕ → LaidObject → ℕ → ℕ
cells_of nodes object node =
    if object.shape.spread then share_of nodes (blocks_of object) node * block_of object else product object.bounds

-- the cells of all objects on a node
abbrev pub cells_on : Arrangement → ℕ → ℕ
cells_on layout node = sum_by (λ object. cells_of layout.nodes object node) layout.objects

-- what f gives along the list, or its first refusal
abbrev pub first_then : {A E : Type 0} → Result A E → Result (List A) E → Result (List A) E
first_then (Ok x) rest = result_map_both (λ xs. x ∷ xs) (λ e. e) rest
first_then (Err e) rest = Err e

abbrev pub each_of : {A B E : Type 0} → (A → Result B E) → List A → Result (List B) E
each_of f [] = Ok []
each_of f (x ∷ xs) = first_then (f x) (each_of f xs)

unfoldable pub bound_of : ℕ → Bound → Result ℕ LayoutError
bound_of nodes bound = ok_or (value_of nodes bound.steps) (BadBound bound.line)

unfoldable pub object_of : ℕ → Shape → Result LaidObject LayoutError
object_of nodes shape =
    result_map_both (λ values. record { shape = shape; bounds = values }) (λ e. e)
    (each_of (bound_of nodes) (shape.left ++ shape.right))

-- the layout, where the fullest node, which is node 0, has few enough cells; a number of them that does not
-- fit 64 bits is carried as the greatest that does
abbrev pub within_cells : ℕ → Result (List LaidObject) LayoutError → Result Arrangement LayoutError
within_cells nodes (Ok objects) =
    let layout : Arrangement = record { nodes = nodes; objects = objects } in
    if nat_lt LIMITS.cells (cells_on layout 0) then Err (TooManyCells (min (cells_on layout 0) (2 ^ 64 - 1)))
    else Ok layout
within_cells nodes (Err e) = Err e

-- the layout of the shapes, or the first refusal: too many objects, a bad bound, too many cells
unfoldable pub layout_of : List Shape → ℕ → Result Arrangement LayoutError
layout_of shapes nodes =
    if nat_lt LIMITS.objects (length shapes) then Err (TooManyObjects (min (length shapes) (2 ^ 32 - 1)))
    else within_cells nodes (each_of (object_of nodes) shapes)

-- the layout of lawful shapes, as `layout` gives it
pub record IsLayout (layout : Arrangement) : Type 0 where
  pub some_node : 0 < layout.nodes
  pub lawful : All IsLawful (map (λ object. object.shape) layout.objects)
  pub laid : layout_of (map (λ object. object.shape) layout.objects) layout.nodes ≡ Ok layout

-- the refusal is the one that is given, or is want of memory
abbrev pub IsCause : {A : Type 0} → LayoutError → Result A LayoutError → Type 0
IsCause OutOfMemory answer = Unit {0}
IsCause e answer = answer ≡ Err e
