-- Laws of spread steps and of the nodes of pointers.
use Rattle.std.proofs.Common.{◌≡◌, ℕ, zero, suc, ◌+◌, ◌*◌, ◌/◌, ◌%◌, ◌<◌, ◌≤◌, pos, negsuc, Bool, true, false, Some, Ok, Err, refl, sym, ◌∙◌, ap, arith}
use Rattle.std.specs.Prelude.{Result, nat_lt, nat_le, if◌then◌else◌}
use Rattle.std.proofs.Math.Nat.{div-add-mod, zero-div, zero-mod, div-one, mod-one}
use Rattle.sc_base.specs.declared.value.FaultKind.TheVariants.{BadNode}
use Rattle.sc_base.specs.declared.value.Value.TheVariants.{Ptr}
use Rattle.sc_layout.specs.Pointer.{spread_step}
use Rattle.std.proofs.Common.{List, [], ◌++◌, length, drop, slice_get}
use Rattle.std.specs.List.{sum_by}
use Rattle.std.proofs.lemmas.List.{drop_all, append-nil}
use Rattle.std.proofs.lemmas.List.Sums.{sum_by-cons}
use Rattle.std.proofs.Common.{◌∷◌}
use Rattle.sc_base.specs.declared.shape.Shape.{Shape}
use Rattle.std.specs.Result.{result_map_both}
use Rattle.sc_layout.specs.declared.error.LayoutError.{LayoutError}
use Rattle.sc_layout.specs.Layout.{Arrangement, LaidObject, IsLayout, product, blocks_of, block_of, cells_of, share_of, object_of, bound_of, each_of}
use Rattle.sc_layout.specs.Place.{spread_place}
use Rattle.sc_layout.specs.Laws.{NodeZeroIsFullest, WalkIsCyclic, ToprocOfToglobal, walked}
use Rattle.sc_layout.proofs.Numbers.{share-within, big_first}
use Rattle.sc_layout.proofs.Extents.{each_of-length}
use Rattle.sc_layout.proofs.Kept.{few_cells, object-given, shape-kept, cells-spread, cells-le-first, all-blocks}
use Rattle.sc_layout.proofs.OneToOne.{at-object, of-object, block-positive}

taken : {A E : Type 0} (b : Bool) (x y : A) (e : E) → (if b then Ok x else Err e) ≡ Ok y → (b ≡ true) × (x ≡ y)
taken true x y e h = (refl, cc)
taken false x y e h = cc

pub toproc : ToprocOfToglobal
toproc nodes object from offset (pos node) pointer h =
    let w = taken (nat_lt node nodes) (Ptr object node offset) pointer BadNode h in
    rw (← w.1) refl
toproc nodes object from offset (negsuc node) pointer h = cc

sum_by-mono : {A : Type 0} (f g : A → ℕ) → ((x : A) → f x ≤ g x) → (xs : List A) → sum_by f xs ≤ sum_by g xs
sum_by-mono f g h [] = omega arith
sum_by-mono f g h (x ∷ xs) =
    let one : f x ≤ g x = h x in
    let rest : sum_by f xs ≤ sum_by g xs = sum_by-mono f g h xs in
    rw (sum_by-cons f x xs, sum_by-cons g x xs) (omega arith)

pub fullest : NodeZeroIsFullest
fullest layout node h = sum_by-mono (λ o. cells_of layout.nodes o node) (λ o. cells_of layout.nodes o 0) (λ o. cells-le-first layout.nodes o node h.some_node) layout.objects

nat_le-yes : (m n : ℕ) → m ≤ n → nat_le m n ≡ true
nat_le-yes m n h = grind arith

one-step : (nodes object i : ℕ) → suc i / nodes ≤ 65536 → spread_step nodes (Ptr object (i % nodes) (i / nodes)) (pos 1) ≡ Ok (Ptr object (suc i % nodes) (suc i / nodes))
one-step nodes object i h =
    let next : i / nodes * nodes + i % nodes + 1 ≡ suc i = omega (arith, div-add-mod i nodes) in
    rw (next, nat_le-yes (suc i / nodes) 65536 h) refl

walked-is : (nodes object i : ℕ) → ((j : ℕ) → j ≤ i → j / nodes ≤ 65536) → walked nodes (Ptr object 0 0) i ≡ Ok (Ptr object (i % nodes) (i / nodes))
walked-is nodes object zero h = rw (zero-mod nodes, zero-div nodes) refl
walked-is nodes object (suc i) h =
    let before : walked nodes (Ptr object 0 0) i ≡ Ok (Ptr object (i % nodes) (i / nodes)) = walked-is nodes object i (λ j le. h j (omega arith)) in
    rw before (one-step nodes object i (h (suc i) (omega arith)))

-- without right dimensions a block is one cell
lengths-of : (shape : Shape) (n : ℕ) (r : Result (List ℕ) LayoutError) (o : LaidObject) → ((values : List ℕ) → r ≡ Ok values → length values ≡ n) → result_map_both (λ values. record { shape = shape; bounds = values }) (λ (e : LayoutError). e) r ≡ Ok o → length o.bounds ≡ n
lengths-of shape n (Ok values) o f h =
    let made : LaidObject = record { shape = shape; bounds = values } in
    let same : made ≡ o = cc in
    sym (ap (λ (o : LaidObject). length o.bounds) same) ∙ f values refl
lengths-of shape n (Err e) o f h = cc

length-bounds : (nodes : ℕ) (shape : Shape) (o : LaidObject) → object_of nodes shape ≡ Ok o → length o.bounds ≡ length (shape.left ++ shape.right)
unfolding object_of
length-bounds nodes shape o h = lengths-of shape (length (shape.left ++ shape.right)) (each_of (bound_of nodes) (shape.left ++ shape.right)) o (each_of-length (bound_of nodes) (shape.left ++ shape.right)) h

one-cell : (layout : Arrangement) (object : ℕ) (o : LaidObject) → IsLayout layout → slice_get layout.objects object ≡ Some o → o.shape.right ≡ [] → block_of o ≡ 1
one-cell layout object o h found flat =
    let w = object-given layout h object o found in
    let e : o.shape ≡ w.from = shape-kept layout.nodes w.from o w.gives in
    let all : length o.bounds ≡ length (o.shape.left ++ o.shape.right) = length-bounds layout.nodes w.from o w.gives ∙ ap (λ (s : Shape). length (s.left ++ s.right)) (sym e) in
    let lefts : length o.bounds ≡ length o.shape.left = all ∙ ap (λ bs. length (o.shape.left ++ bs)) flat ∙ ap length (append-nil o.shape.left) in
    let none : drop (length o.shape.left) o.bounds ≡ [] = drop_all (length o.shape.left) o.bounds (omega arith) in
    ap product none

flat-place : (nodes b object i : ℕ) → b ≡ 1 → spread_place nodes b object i ≡ record { object = object; node = i % nodes; offset = i / nodes }
flat-place nodes b object i h =
    let offset : i / nodes * 1 + 0 ≡ i / nodes = omega arith in
    rw (h, div-one i, mod-one i, offset) refl

few-rounds : (layout : Arrangement) (object : ℕ) (o : LaidObject) → IsLayout layout → slice_get layout.objects object ≡ Some o → o.shape.spread ≡ true → (j : ℕ) → j < blocks_of o → j / layout.nodes ≤ 65536
few-rounds layout object o h found spread j below =
    let share : j / layout.nodes < share_of layout.nodes (blocks_of o) (j % layout.nodes) = share-within layout.nodes (blocks_of o) j h.some_node below in
    let cells : share_of layout.nodes (blocks_of o) (j % layout.nodes) ≤ share_of layout.nodes (blocks_of o) (j % layout.nodes) * block_of o = big_first _ _ _ (omega arith) (block-positive layout object o h found) in
    let is : cells_of layout.nodes o (j % layout.nodes) ≡ share_of layout.nodes (blocks_of o) (j % layout.nodes) * block_of o = cells-spread layout.nodes o (j % layout.nodes) spread in
    let most : cells_of layout.nodes o (j % layout.nodes) ≤ cells_of layout.nodes o 0 = cells-le-first layout.nodes o (j % layout.nodes) h.some_node in
    let few : cells_of layout.nodes o 0 ≤ 65536 = few_cells layout h object o found in
    omega arith

pub cyclic : WalkIsCyclic
cyclic layout object node i o h found spread flat below =
    let one : block_of o ≡ 1 = one-cell layout object o h found flat in
    let blocks : product o.bounds ≡ blocks_of o = all-blocks o ∙ ap (λ b. blocks_of o * b) one ∙ omega arith in (
      walked-is layout.nodes object i (λ j le. few-rounds layout object o h found spread j (omega arith)),
      at-object layout object node i o found ∙ of-object layout.nodes o node object i spread below ∙ ap Some (flat-place layout.nodes (block_of o) object i one),
    )
