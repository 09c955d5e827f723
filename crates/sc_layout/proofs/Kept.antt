-- What the layout of shapes keeps: few objects, positive bounds, few cells.
use Rattle.std.proofs.Common.{◌≡◌, ℕ, zero, suc, ◌+◌, ◌-◌, ◌*◌, ◌/◌, ◌%◌, ◌^◌, ◌<◌, ◌≤◌, inl, inr, Bool, true, false, min, Ok, Err, Some, None, List, [], ◌∷◌, ◌++◌, length, map, slice_get, get_or, ℤ, pos, negsuc, refl, sym, ap, subst, arith}
use Rattle.std.proofs.lemmas.List.{length-map}
use Rattle.std.specs.Prelude.{Result, Option, nat_lt, if◌then◌else◌}
use Rattle.std.specs.Option.{ok_or, option_and_then}
use Rattle.std.specs.Result.{result_map_both}
use Rattle.std.specs.List.{sum_by, All}
use Rattle.std.proofs.lemmas.Bool.{cases_lt}
use Rattle.std.proofs.lemmas.List.Sums.{get_or-le-sum_by}
use Rattle.std.proofs.lemmas.Option.{slice_get_within, get_or_from_slice_get}
use Rattle.std.proofs.lemmas.Nat.{mul-le, div_below, mod_below, mul-add-lt}
use Rattle.sc_base.specs.declared.shape.Shape.{Shape}
use Rattle.sc_base.specs.declared.shape.Bound.{Bound}
use Rattle.sc_layout.specs.Bound.{value_of, positive, result_of}
use Rattle.sc_layout.specs.Layout.{LaidObject, Arrangement, IsLawful, IsLayout, each_of, first_then, bound_of, object_of, layout_of, within_cells, product, blocks_of, block_of, cells_of, cells_on, share_of}
use Rattle.sc_layout.specs.Small.{IsSmall}
use Rattle.sc_layout.specs.declared.error.LayoutError.{LayoutError}
use Rattle.sc_layout.specs.declared.error.LayoutError.TheVariants.{TooManyObjects, BadBound, TooManyCells}
use Rattle.sc_layout.proofs.Numbers.{share-all, share-le-first, share-within, big_first, big_second}
use Rattle.sc_layout.proofs.Products.{product-parts}

-- what is taken after a test whose other answer is a refusal
passed : {A E : Type 0} (b : Bool) (e : E) (r : Result A E) (x : A) → (if b then Err e else r) ≡ Ok x → (b ≡ false) × (r ≡ Ok x)
passed true e r x h = cc
passed false e r x h = (refl, h)

nat_lt-low : (m n : ℕ) → nat_lt m n ≡ false → n ≤ m
nat_lt-low m n h = grind arith

record IsWithin (layout : Arrangement) (nodes : ℕ) (r : Result (List LaidObject) LayoutError) : Type 0 where
  pub nodes_are : layout.nodes ≡ nodes
  pub objects_are : r ≡ Ok layout.objects
  pub cells : cells_on layout 0 ≤ 65536

within : (nodes : ℕ) (r : Result (List LaidObject) LayoutError) (layout : Arrangement) → within_cells nodes r ≡ Ok layout → IsWithin layout nodes r
within nodes (Err e) layout h = cc
within nodes (Ok objects) layout h =
    let made : Arrangement = record { nodes = nodes; objects = objects } in
    let p = passed (nat_lt 65536 (cells_on made 0)) (TooManyCells (min (cells_on made 0) (2 ^ 64 - 1))) (Ok made) layout h in
    let same : made ≡ layout = cc in
    let P : Arrangement → Type 0 = λ l. IsWithin l nodes (Ok objects) in
    subst P same (record { nodes_are = refl; objects_are = refl; cells = nat_lt-low 65536 (cells_on made 0) p.0 })

pub record IsKept (layout : Arrangement) : Type 0 where
  pub count : length layout.objects ≤ 256
  pub objects : each_of (object_of layout.nodes) (map (λ o. o.shape) layout.objects) ≡ Ok layout.objects
  pub cells : cells_on layout 0 ≤ 65536

pub kept : (layout : Arrangement) → IsLayout layout → IsKept layout
unfolding layout_of
kept layout h =
    let shapes : List Shape = map (λ o. o.shape) layout.objects in
    let p = passed (nat_lt 256 (length shapes)) (TooManyObjects (min (length shapes) (2 ^ 32 - 1))) (within_cells layout.nodes (each_of (object_of layout.nodes) shapes)) layout h.laid in
    let w = within layout.nodes (each_of (object_of layout.nodes) shapes) layout p.1 in
    let few : length shapes ≤ 256 = nat_lt-low 256 (length shapes) p.0 in
    record { count = omega (arith, length-map layout.objects (λ (o : LaidObject). o.shape)); objects = w.objects_are; cells = w.cells }

positive-top : (o : Option ℤ) (e : LayoutError) (n : ℕ) → ok_or (option_and_then positive o) e ≡ Ok n → 0 < n
positive-top None e n h = cc
positive-top (Some (pos zero)) e n h = cc
positive-top (Some (pos (suc k))) e n h = let same : suc k ≡ n = cc in omega arith
positive-top (Some (negsuc k)) e n h = cc

-- the value of a bound is positive
positive-value : (nodes : ℕ) (bound : Bound) (n : ℕ) → bound_of nodes bound ≡ Ok n → 0 < n
unfolding bound_of value_of
positive-value nodes bound n h = positive-top (result_of nodes bound.steps) (BadBound bound.line) n h

record IsFirst {A E : Type 0} (p : Result A E) (r : Result (List A) E) (ys : List A) : Type 0 where
  pub head : A
  pub rest : List A
  pub head_is : p ≡ Ok head
  pub rest_is : r ≡ Ok rest
  pub is : head ∷ rest ≡ ys

first-ok : {A E : Type 0} (p : Result A E) (r : Result (List A) E) (ys : List A) → first_then p r ≡ Ok ys → IsFirst p r ys
first-ok (Ok x) (Ok xs) ys h = record { head = x; rest = xs; head_is = refl; rest_is = refl; is = cc }
first-ok (Ok x) (Err e) ys h = cc
first-ok (Err e) r ys h = cc

each-positive : (nodes : ℕ) (bounds : List Bound) (values : List ℕ) → each_of (bound_of nodes) bounds ≡ Ok values → 0 < product values
each-positive nodes [] values h = let same : [] ≡ values = cc in rw (← same) (omega arith)
each-positive nodes (b ∷ bs) values h =
    let w = first-ok (bound_of nodes b) (each_of (bound_of nodes) bs) values h in
    let one : 0 < w.head = positive-value nodes b w.head w.head_is in
    let others : 0 < product w.rest = each-positive nodes bs w.rest w.rest_is in
    rw (← w.is) (big_first 1 w.head (product w.rest) one others)

bounds-positive : (shape : Shape) (r : Result (List ℕ) LayoutError) (o : LaidObject) → ((values : List ℕ) → r ≡ Ok values → 0 < product values) → result_map_both (λ values. record { shape = shape; bounds = values }) (λ (e : LayoutError). e) r ≡ Ok o → 0 < product o.bounds
bounds-positive shape (Ok values) o f h =
    let made : LaidObject = record { shape = shape; bounds = values } in
    let same : made ≡ o = cc in
    let P : LaidObject → Type 0 = λ o. 0 < product o.bounds in
    subst P same (f values refl)
bounds-positive shape (Err e) o f h = cc

object-positive : (nodes : ℕ) (shape : Shape) (o : LaidObject) → object_of nodes shape ≡ Ok o → 0 < product o.bounds
unfolding object_of
object-positive nodes shape o h =
    bounds-positive shape (each_of (bound_of nodes) (shape.left ++ shape.right)) o (each-positive nodes (shape.left ++ shape.right)) h

pub record IsGiven {A B E : Type 0} (f : A → Result B E) (y : B) : Type 0 where
  pub from : A
  pub gives : f from ≡ Ok y

given-at : {A B E : Type 0} (f : A → Result B E) (x : B) (xs : List B) → IsGiven f x → ((j : ℕ) (y : B) → slice_get xs j ≡ Some y → IsGiven f y) → (k : ℕ) (y : B) → slice_get (x ∷ xs) k ≡ Some y → IsGiven f y
given-at {A} {B} {E} f x xs here there zero y h = let P : B → Type 0 = λ y. IsGiven f y in subst P (let e : x ≡ y = cc in e) here
given-at f x xs here there (suc j) y h = there j y h

none-found : {B : Type 0} (ys : List B) → [] ≡ ys → (k : ℕ) (y : B) → slice_get ys k ≡ Some y → ⊥
none-found [] e k y h = cc
none-found (z ∷ zs) e k y h = cc

-- each item of the results is given by an item of the list
pub each-given : {A B E : Type 0} (f : A → Result B E) (xs : List A) (ys : List B) → each_of f xs ≡ Ok ys → (k : ℕ) (y : B) → slice_get ys k ≡ Some y → IsGiven f y
each-given f [] ys h k y found = absurd (none-found ys (let e : [] ≡ ys = cc in e) k y found)
each-given {A} {B} {E} f (x ∷ xs) ys h k y found =
    let w = first-ok (f x) (each_of f xs) ys h in
    let at : slice_get (w.head ∷ w.rest) k ≡ Some y = subst (λ (zs : List B). slice_get zs k ≡ Some y) (sym w.is) found in
    given-at f w.head w.rest (record { from = x; gives = w.head_is }) (λ j z g. each-given f xs w.rest w.rest_is j z g) k y at

-- the object with this number, and the shape that gives it
pub object-given : (layout : Arrangement) → IsLayout layout → (k : ℕ) (o : LaidObject) → slice_get layout.objects k ≡ Some o → IsGiven (object_of layout.nodes) o
object-given layout h k o found = each-given (object_of layout.nodes) (map (λ o. o.shape) layout.objects) layout.objects (kept layout h).objects k o found

pub some_cells : (layout : Arrangement) → IsLayout layout → (k : ℕ) (o : LaidObject) → slice_get layout.objects k ≡ Some o → 0 < product o.bounds
some_cells layout h k o found =
    let w = object-given layout h k o found in
    object-positive layout.nodes w.from o w.gives

-- one term is at most the sum
pub sum_by-found : {A : Type 0} (f : A → ℕ) (xs : List A) (k : ℕ) (x : A) → slice_get xs k ≡ Some x → f x ≤ sum_by f xs
sum_by-found f xs k x h =
    let at : get_or xs k x ≡ x = get_or_from_slice_get xs k x x h in
    let le : f (get_or xs k x) ≤ sum_by f xs = get_or-le-sum_by f xs k x (slice_get_within xs k x h) in
    rw at at le

pub positive_second : (a b : ℕ) → 0 < a * b → 0 < b
positive_second a b h = elim (cases_lt 0 b) [ inl p ↦ p | inr p ↦ (let z : b ≡ 0 = omega arith in let none : a * b ≡ 0 = rw z (omega arith) in omega arith) ]

positive_first : (a b : ℕ) → 0 < a * b → 0 < a
positive_first a b h = let turned : 0 < b * a = omega arith in positive_second b a turned

record AreSmall (blocks block : ℕ) : Type 0 where
  pub some : 0 < block
  pub blocks_fit : blocks < 2 ^ 64
  pub block_fits : block < 2 ^ 64
  pub cells_fit : blocks * block < 2 ^ 64

small-shares : (nodes blocks block : ℕ) → 0 < nodes → nodes < 2 ^ 32 → 0 < blocks * block → share_of nodes blocks 0 * block ≤ 65536 → AreSmall blocks block
small-shares nodes blocks block some fits cells few =
    let share : ℕ = share_of nodes blocks 0 in
    small nodes blocks block share some fits (positive_first blocks block cells) (positive_second blocks block cells) (share-all nodes blocks some) few
  where
    small : (nodes blocks block share : ℕ) → 0 < nodes → nodes < 2 ^ 32 → 0 < blocks → 0 < block → blocks ≤ nodes * share → share * block ≤ 65536 → AreSmall blocks block
    small nodes blocks block share some fits b1 b2 all few =
        let s : 0 < share = positive_second nodes share (omega arith) in
        let block_le : block ≤ share * block = big_second block share block (omega arith) s in
        let share_le : share ≤ share * block = big_first share share block (omega arith) b2 in
        let rounds : nodes * share ≤ 2 ^ 32 * 65536 = mul-le nodes share (2 ^ 32) 65536 (omega arith) (omega arith) in
        let all_cells : blocks * block ≤ nodes * share * block = mul-le blocks block (nodes * share) block all (omega arith) in
        let most : nodes * (share * block) ≤ 2 ^ 32 * 65536 = mul-le nodes (share * block) (2 ^ 32) 65536 (omega arith) few in
        record { some = b2; blocks_fit = omega arith; block_fits = omega arith; cells_fit = omega arith }

small-product : (blocks block : ℕ) → 0 < blocks * block → blocks * block ≤ 65536 → AreSmall blocks block
small-product blocks block cells few =
    let b1 : 0 < blocks = positive_first blocks block cells in
    let b2 : 0 < block = positive_second blocks block cells in
    let blocks_le : blocks ≤ blocks * block = big_first blocks blocks block (omega arith) b2 in
    let block_le : block ≤ blocks * block = big_second block blocks block (omega arith) b1 in
    record { some = b2; blocks_fit = omega arith; block_fits = omega arith; cells_fit = omega arith }

pub cells-spread : (nodes : ℕ) (o : LaidObject) (node : ℕ) → o.shape.spread ≡ true → cells_of nodes o node ≡ share_of nodes (blocks_of o) node * block_of o
unfolding cells_of
cells-spread nodes o node h = rw h refl

pub cells-ordinary : (nodes : ℕ) (o : LaidObject) (node : ℕ) → o.shape.spread ≡ false → cells_of nodes o node ≡ product o.bounds
unfolding cells_of
cells-ordinary nodes o node h = rw h refl

pub all-blocks : (o : LaidObject) → product o.bounds ≡ blocks_of o * block_of o
all-blocks o = product-parts (length o.shape.left) o.bounds

-- no node has more of an object's cells than node 0
pub cells-le-first : (nodes : ℕ) (o : LaidObject) (node : ℕ) → 0 < nodes → cells_of nodes o node ≤ cells_of nodes o 0
cells-le-first nodes o node some = by_kind o.shape.spread refl
  where
    by_kind : (b : Bool) → o.shape.spread ≡ b → cells_of nodes o node ≤ cells_of nodes o 0
    by_kind true h =
        rw (cells-spread nodes o node h, cells-spread nodes o 0 h) (mul-le _ _ _ _ (share-le-first nodes (blocks_of o) node some) (omega arith))
    by_kind false h = rw (cells-ordinary nodes o node h, cells-ordinary nodes o 0 h) (omega arith)

small-by : (nodes : ℕ) (o : LaidObject) (b : Bool) → o.shape.spread ≡ b → 0 < nodes → nodes < 2 ^ 32 → 0 < blocks_of o * block_of o → cells_of nodes o 0 ≤ 65536 → AreSmall (blocks_of o) (block_of o)
small-by nodes o true h some fits cells few = small-shares nodes (blocks_of o) (block_of o) some fits cells (rw (cells-spread nodes o 0 h) at few)
small-by nodes o false h some fits cells few = small-product (blocks_of o) (block_of o) cells (rw (cells-ordinary nodes o 0 h, all-blocks o) at few)

pub few_cells : (layout : Arrangement) → IsLayout layout → (k : ℕ) (o : LaidObject) → slice_get layout.objects k ≡ Some o → cells_of layout.nodes o 0 ≤ 65536
few_cells layout h k o found =
    let w = kept layout h in
    let part : cells_of layout.nodes o 0 ≤ cells_on layout 0 = sum_by-found (λ o. cells_of layout.nodes o 0) layout.objects k o found in
    omega (arith, w.cells)

-- each object of a layout is small
pub small : (layout : Arrangement) → IsLayout layout → layout.nodes < 2 ^ 32 → (k : ℕ) (o : LaidObject) → slice_get layout.objects k ≡ Some o → IsSmall layout.nodes o
small layout h fits k o found =
    let cells : 0 < product o.bounds = some_cells layout h k o found in
    let few : cells_of layout.nodes o 0 ≤ 65536 = few_cells layout h k o found in
    let a = small-by layout.nodes o o.shape.spread refl h.some_node fits (rw (← all-blocks o) cells) few in
    record {
      some_node = h.some_node;
      some_cell = a.some;
      blocks = a.blocks_fit;
      block = a.block_fits;
      cells = a.cells_fit;
      on_node = λ node _. (let le : cells_of layout.nodes o node ≤ cells_of layout.nodes o 0 = cells-le-first layout.nodes o node h.some_node in omega arith);
    }

-- a spread cell's offset is below the extent on its node
pub spread-offset : (nodes blocks block index : ℕ) → 0 < nodes → 0 < block → index < blocks * block → index / block / nodes * block + index % block < share_of nodes blocks (index / block % nodes) * block
spread-offset nodes blocks block index some cell h =
    let i : index / block < blocks = div_below index block blocks cell h in
    let q : index / block / nodes < share_of nodes blocks (index / block % nodes) = share-within nodes blocks (index / block) some i in
    let r : index % block < block = mod_below index block cell in
    let e : index / block / nodes * block + index % block < block * share_of nodes blocks (index / block % nodes) = mul-add-lt (index / block / nodes) block (index % block) (share_of nodes blocks (index / block % nodes)) q r in
    omega arith

shape-of-bounds : (shape : Shape) (r : Result (List ℕ) LayoutError) (o : LaidObject) → result_map_both (λ values. record { shape = shape; bounds = values }) (λ (e : LayoutError). e) r ≡ Ok o → o.shape ≡ shape
shape-of-bounds shape (Ok values) o h =
    let made : LaidObject = record { shape = shape; bounds = values } in
    let same : made ≡ o = cc in
    sym (ap (λ (o : LaidObject). o.shape) same)
shape-of-bounds shape (Err e) o h = cc

pub shape-kept : (nodes : ℕ) (shape : Shape) (o : LaidObject) → object_of nodes shape ≡ Ok o → o.shape ≡ shape
unfolding object_of
shape-kept nodes shape o h = shape-of-bounds shape (each_of (bound_of nodes) (shape.left ++ shape.right)) o h

-- the shapes that a layout keeps are those that it was made of
shapes-kept : (nodes : ℕ) (shapes : List Shape) (objects : List LaidObject) → each_of (object_of nodes) shapes ≡ Ok objects → map (λ o. o.shape) objects ≡ shapes
shapes-kept nodes [] objects h = let same : [] ≡ objects = cc in rw (← same) refl
shapes-kept nodes (s ∷ ss) objects h =
    let w = first-ok (object_of nodes s) (each_of (object_of nodes) ss) objects h in
    let rest : map (λ o. o.shape) w.rest ≡ ss = shapes-kept nodes ss w.rest w.rest_is in
    let one : w.head.shape ≡ s = shape-kept nodes s w.head w.head_is in
    rw (← w.is, one, rest) refl

nat_lt-no : (m n : ℕ) → n ≤ m → nat_lt m n ≡ false
nat_lt-no m n h = grind arith

nat_lt-yes : (m n : ℕ) → m < n → nat_lt m n ≡ true
nat_lt-yes m n h = grind arith

pub too_many : (nodes : ℕ) (shapes : List Shape) (objects : List LaidObject) (cells : ℕ) → length shapes ≤ 256 → each_of (object_of nodes) shapes ≡ Ok objects → cells ≡ min (sum_by (λ o. cells_of nodes o 0) objects) (2 ^ 64 - 1) → 65536 < cells → layout_of shapes nodes ≡ Err (TooManyCells cells)
unfolding layout_of
too_many nodes shapes objects cells few made is many =
    let above : 65536 < sum_by (λ o. cells_of nodes o 0) objects = omega arith in
    rw (nat_lt-no 256 (length shapes) few, made, nat_lt-yes 65536 (sum_by (λ o. cells_of nodes o 0) objects) above, is) refl

pub accepted : (nodes : ℕ) (shapes : List Shape) (objects : List LaidObject) (cells : ℕ) → length shapes ≤ 256 → each_of (object_of nodes) shapes ≡ Ok objects → cells ≡ min (sum_by (λ o. cells_of nodes o 0) objects) (2 ^ 64 - 1) → cells ≤ 65536 → layout_of shapes nodes ≡ Ok (record { nodes = nodes; objects = objects })
unfolding layout_of
accepted nodes shapes objects cells few made is enough =
    let low : sum_by (λ o. cells_of nodes o 0) objects ≤ 65536 = omega arith in
    rw (nat_lt-no 256 (length shapes) few, made, nat_lt-no 65536 (sum_by (λ o. cells_of nodes o 0) objects) low) refl

pub laid : (nodes : ℕ) (shapes : List Shape) (objects : List LaidObject) (cells : ℕ) → 0 < nodes → All IsLawful shapes → length shapes ≤ 256 → each_of (object_of nodes) shapes ≡ Ok objects → cells ≡ min (sum_by (λ o. cells_of nodes o 0) objects) (2 ^ 64 - 1) → cells ≤ 65536 → IsLayout (record { nodes = nodes; objects = objects })
laid nodes shapes objects cells some lawful few made is enough =
    record {
      some_node = some;
      lawful = rw (shapes-kept nodes shapes objects made) lawful;
      laid = rw (shapes-kept nodes shapes objects made) (accepted nodes shapes objects cells few made is enough);
    }
