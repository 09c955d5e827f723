-- The flat indices of a layout's cells.
use Rattle.std.proofs.Common.{◌≡◌, ◌⊎◌, ℕ, ◌^◌, ◌<◌, Bool, true, false, Option, Some, None, length, inl, inr, ⊎_elim, refl, sym, ap, ◌∙◌, subst, arith, slice_get}
use Rattle.std.specs.Prelude.{nat_lt, if◌then◌else◌}
use Rattle.std.specs.Option.{option_and_then, option_map}
use Rattle.sc_base.specs.declared.shape.Shape.{Shape}
use Rattle.std.proofs.lemmas.Option.{slice_get_within, slice_get_cases}
use Rattle.sc_base.specs.declared.value.Place.{Place}
use Rattle.sc_layout.specs.Layout.{Arrangement, LaidObject, IsLayout, product, block_of, cells_of}
use Rattle.sc_layout.specs.Place.{IsPlace, place_of, place_in, spread_place, extent_of}
use Rattle.sc_layout.proofs.Kept.{small, all-blocks, cells-ordinary}
use Rattle.sc_layout.proofs.OneToOne.{elements_are_places}

some_from : {A B : Type 0} (x : Option A) (f : A → Option B) (y : B) → option_and_then f x ≡ Some y → (a : A) × (x ≡ Some a)
some_from None f y h = cc
some_from (Some a) f y h = (a, refl)

pub object_from : (layout : Arrangement) (node object i : ℕ) (cell : Place) → place_of layout node object i ≡ Some cell → (o : LaidObject) × (slice_get layout.objects object ≡ Some o)
object_from layout node object i cell h = some_from (slice_get layout.objects object) (λ o. place_in layout.nodes o node object i) cell h

pub object_at : (layout : Arrangement) (object : ℕ) → object < length layout.objects → (o : LaidObject) × (slice_get layout.objects object ≡ Some o)
object_at layout object h =
    ⊎_elim (λ s. (s.0, s.2)) (λ s. absurd (let le = s.0 in omega arith)) (slice_get_cases layout.objects object).1

-- the place that a flat index has, if it is below the number of cells
place_with : ℕ → LaidObject → (node object i : ℕ) → Place
place_with nodes o node object i = if o.shape.spread then spread_place nodes (block_of o) object i else record { object = object; node = node; offset = i }

test_passed : (b : Bool) (p q : Place) → (if b then Some p else None) ≡ Some q → (b ≡ true) × (p ≡ q)
test_passed true p q h = (refl, cc)
test_passed false p q h = cc

below_from : (m n : ℕ) → nat_lt m n ≡ true → m < n
below_from m n h = grind arith

below_to : (m n : ℕ) → m < n → nat_lt m n ≡ true
below_to m n h = grind arith

record IsInside (nodes : ℕ) (o : LaidObject) (node object i : ℕ) (cell : Place) : Type 0 where
  pub below : i < product o.bounds
  pub is : place_with nodes o node object i ≡ cell

inside : (layout : Arrangement) (node object i : ℕ) (cell : Place) (o : LaidObject) → slice_get layout.objects object ≡ Some o → place_of layout node object i ≡ Some cell → IsInside layout.nodes o node object i cell
unfolding place_in place_with
inside layout node object i cell o found h =
    let t = test_passed (nat_lt i (product o.bounds)) (place_with layout.nodes o node object i) cell (rw found at h) in
    record { below = below_from i (product o.bounds) t.0; is = t.1 }

outside : (layout : Arrangement) (node object i : ℕ) (o : LaidObject) → slice_get layout.objects object ≡ Some o → i < product o.bounds → place_of layout node object i ≡ Some (place_with layout.nodes o node object i)
unfolding place_in place_with
outside layout node object i o found h = rw (found, below_to i (product o.bounds) h) refl

with_spread : (nodes : ℕ) (o : LaidObject) (node object i : ℕ) → o.shape.spread ≡ true → place_with nodes o node object i ≡ spread_place nodes (block_of o) object i
unfolding place_with
with_spread nodes o node object i h = rw h refl

with_ordinary : (nodes : ℕ) (o : LaidObject) (node object i : ℕ) → o.shape.spread ≡ false → place_with nodes o node object i ≡ record { object = object; node = node; offset = i }
unfolding place_with
with_ordinary nodes o node object i h = rw h refl

pub spread_cases : (o : LaidObject) → (o.shape.spread ≡ true) ⊎ (o.shape.spread ≡ false)
spread_cases o = by o.shape.spread refl
  where
    by : (b : Bool) → o.shape.spread ≡ b → (o.shape.spread ≡ true) ⊎ (o.shape.spread ≡ false)
    by true h = inl h
    by false h = inr h

-- ---- spread objects

pub spread_at : (layout : Arrangement) (node object i : ℕ) (o : LaidObject) → slice_get layout.objects object ≡ Some o → o.shape.spread ≡ true → i < product o.bounds → place_of layout node object i ≡ Some (spread_place layout.nodes (block_of o) object i)
spread_at layout node object i o found h below = outside layout node object i o found below ∙ ap Some (with_spread layout.nodes o node object i h)

pub record IsSpreadCell (layout : Arrangement) (o : LaidObject) (object i : ℕ) (cell : Place) : Type 0 where
  pub below : i < product o.bounds
  pub is : spread_place layout.nodes (block_of o) object i ≡ cell

pub spread_from : (layout : Arrangement) (node object i : ℕ) (cell : Place) (o : LaidObject) → slice_get layout.objects object ≡ Some o → o.shape.spread ≡ true → place_of layout node object i ≡ Some cell → IsSpreadCell layout o object i cell
spread_from layout node object i cell o found s h =
    let w = inside layout node object i cell o found h in
    record { below = w.below; is = sym (with_spread layout.nodes o node object i s) ∙ w.is }

-- the node from which an element is named does not matter
pub spread_any : (layout : Arrangement) (n m object i : ℕ) (cell : Place) (o : LaidObject) → slice_get layout.objects object ≡ Some o → o.shape.spread ≡ true → place_of layout n object i ≡ Some cell → place_of layout m object i ≡ Some cell
spread_any layout n m object i cell o found s h =
    let w = spread_from layout n object i cell o found s h in
    spread_at layout m object i o found s w.below ∙ ap Some w.is

-- ---- ordinary objects

pub ordinary_at : (layout : Arrangement) (node object i : ℕ) (o : LaidObject) → slice_get layout.objects object ≡ Some o → o.shape.spread ≡ false → i < product o.bounds → place_of layout node object i ≡ Some (record { object = object; node = node; offset = i })
ordinary_at layout node object i o found h below = outside layout node object i o found below ∙ ap Some (with_ordinary layout.nodes o node object i h)

pub record IsOrdinaryCell (o : LaidObject) (node object i : ℕ) (cell : Place) : Type 0 where
  pub below : i < product o.bounds
  pub object_is : cell.object ≡ object
  pub node_is : cell.node ≡ node
  pub offset_is : cell.offset ≡ i

pub ordinary_from : (layout : Arrangement) (node object i : ℕ) (cell : Place) (o : LaidObject) → slice_get layout.objects object ≡ Some o → o.shape.spread ≡ false → place_of layout node object i ≡ Some cell → IsOrdinaryCell o node object i cell
ordinary_from layout node object i cell o found s h =
    let w = inside layout node object i cell o found h in
    let is = sym (with_ordinary layout.nodes o node object i s) ∙ w.is in
    record {
      below = w.below;
      object_is = sym (ap (λ (p : Place). p.object) is);
      node_is = sym (ap (λ (p : Place). p.node) is);
      offset_is = sym (ap (λ (p : Place). p.offset) is);
    }

-- ---- both

pub record IsCell (layout : Arrangement) (object i : ℕ) (cell : Place) : Type 0 where
  pub object_is : cell.object ≡ object
  pub place : IsPlace layout cell
  pub at : place_of layout cell.node object i ≡ Some cell

pub cell_from : (layout : Arrangement) (node object i : ℕ) (cell : Place) → IsLayout layout → node < layout.nodes → place_of layout node object i ≡ Some cell → IsCell layout object i cell
cell_from layout node object i cell h low at =
    let f = object_from layout node object i cell at in
    ⊎_elim
    (λ s. (let laws = elements_are_places layout object f.0 h f.1 s in
    let w = laws.within node i cell at in
    record { object_is = w.0; place = w.1; at = spread_any layout node cell.node object i cell f.0 f.1 s at }))
    (λ s. (let w = ordinary_from layout node object i cell f.0 f.1 s at in
    let bound : cell.object < length layout.objects = subst (λ k. k < length layout.objects) (sym w.object_is) (slice_get_within layout.objects object f.0 f.1) in
    let extent : extent_of layout cell.node cell.object ≡ product f.0.bounds =
    ap (λ k. extent_of layout cell.node k) w.object_is ∙ extent_at layout object cell.node f.0 f.1 ∙ cells-ordinary layout.nodes f.0 cell.node s in
    let offset : cell.offset < product f.0.bounds = subst (λ k. k < product f.0.bounds) (sym w.offset_is) w.below in
    record {
      object_is = w.object_is;
      place = record { object = bound; node = subst (λ k. k < layout.nodes) (sym w.node_is) low; offset = subst (λ k. cell.offset < k) (sym extent) offset };
      at = subst (λ n. place_of layout n object i ≡ Some cell) (sym w.node_is) at;
    }))
    (spread_cases f.0)
  where
    extent_at : (layout : Arrangement) (object node : ℕ) (o : LaidObject) → slice_get layout.objects object ≡ Some o → extent_of layout node object ≡ cells_of layout.nodes o node
    extent_at layout object node o found = rw found refl

-- each cell has a flat index
pub index_of : (layout : Arrangement) (cell : Place) → IsLayout layout → IsPlace layout cell → (i : ℕ) × (place_of layout cell.node cell.object i ≡ Some cell)
index_of layout cell h is =
    let f = object_at layout cell.object is.object in
    ⊎_elim
    (λ s. (elements_are_places layout cell.object f.0 h f.1 s).reached cell.node cell refl is)
    (λ s. (let extent : extent_of layout cell.node cell.object ≡ product f.0.bounds = extent_at layout cell.object cell.node f.0 f.1 ∙ cells-ordinary layout.nodes f.0 cell.node s in
    let below : cell.offset < product f.0.bounds = subst (λ k. cell.offset < k) extent is.offset in
    (cell.offset, ordinary_at layout cell.node cell.object cell.offset f.0 f.1 s below)))
    (spread_cases f.0)
  where
    extent_at : (layout : Arrangement) (object node : ℕ) (o : LaidObject) → slice_get layout.objects object ≡ Some o → extent_of layout node object ≡ cells_of layout.nodes o node
    extent_at layout object node o found = rw found refl

-- and only one
pub one_index : (layout : Arrangement) (cell : Place) (object i j : ℕ) → IsLayout layout → place_of layout cell.node object i ≡ Some cell → place_of layout cell.node object j ≡ Some cell → i ≡ j
one_index layout cell object i j h p q =
    let f = object_from layout cell.node object i cell p in
    ⊎_elim
    (λ s. (elements_are_places layout object f.0 h f.1 s).apart cell.node i j cell p q)
    (λ s. sym (ordinary_from layout cell.node object i cell f.0 f.1 s p).offset_is ∙ (ordinary_from layout cell.node object j cell f.0 f.1 s q).offset_is)
    (spread_cases f.0)

pub below_product : (layout : Arrangement) (node object i : ℕ) (cell : Place) (o : LaidObject) → slice_get layout.objects object ≡ Some o → place_of layout node object i ≡ Some cell → i < product o.bounds
below_product layout node object i cell o found at = (inside layout node object i cell o found at).below

pub fits_word : (layout : Arrangement) (node object i : ℕ) (cell : Place) → IsLayout layout → layout.nodes < 2 ^ 32 → place_of layout node object i ≡ Some cell → i < 2 ^ 64
fits_word layout node object i cell h few at =
    let f = object_from layout node object i cell at in
    let low : i < product f.0.bounds = below_product layout node object i cell f.0 f.1 at in
    let s = small layout h few object f.0 f.1 in
    omega (arith, all-blocks f.0, s.cells)

pub shape_from : (x : Option LaidObject) (s : Shape) → option_map (λ o. o.shape) x ≡ Some s → (o : LaidObject) × (x ≡ Some o) × (o.shape ≡ s)
shape_from None s h = cc
shape_from (Some o) s h = (o, refl, cc)
