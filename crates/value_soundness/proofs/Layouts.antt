-- What is known of a layout's objects: their cells are not void, they have as many bounds as dimensions, and the cell
-- at a flat index is one of the layout.
use Rattle.std.proofs.Common.{◌≡◌, ℕ, suc, ◌+◌, ◌^◌, ◌<◌, ◌≤◌, Result, Ok, Err, Some, None, Bool, true, false, List, [], ◌∷◌, ◌++◌, length, map, slice_get, refl, sym, ap, ◌∙◌, subst, arith}
use Rattle.std.specs.Prelude.{nat_lt, if◌then◌else◌}
use Rattle.std.specs.Result.{result_map_both}
use Rattle.std.proofs.lemmas.List.{length-append}
use Rattle.std.proofs.lemmas.Option.{slice_get_within, slice_get-map, get_or_from_slice_get}
use Rattle.std.proofs.lemmas.Bool.{ltb-true}
use Rattle.sc_base.specs.declared.shape.Shape.{Shape}
use Rattle.sc_base.specs.declared.value.Place.{Place}
use Rattle.sc_layout.specs.Layout.{Arrangement, LaidObject, IsLayout, IsLawful as IsLawfulShape, each_of, first_then, bound_of, object_of, product, cells_of}
use Rattle.sc_layout.specs.Place.{IsPlace, place_of, place_in, extent_of}
use Rattle.sc_layout.specs.declared.error.LayoutError.{LayoutError}
use Rattle.sc_layout.proofs.Kept.{object-given, small}
use Rattle.sc_layout.proofs.OneToOne.{elements_are_places}

-- ---- shapes

pub lawful_shape : (layout : Arrangement) → IsLayout layout → (k : ℕ) (o : LaidObject)
    → slice_get layout.objects k ≡ Some o → IsLawfulShape o.shape
lawful_shape layout laid k o e =
    let shapes : List Shape = map (λ o. o.shape) layout.objects in
    let at : slice_get shapes k ≡ Some o.shape = slice_get-map (λ (o : LaidObject). o.shape) layout.objects k ∙
    (rw e refl) in
    subst IsLawfulShape (get_or_from_slice_get shapes k o.shape o.shape at)
    (laid.lawful k o.shape (slice_get_within shapes k o.shape at))

pub not_void : (layout : Arrangement) → IsLayout layout → (k : ℕ) (o : LaidObject)
    → slice_get layout.objects k ≡ Some o → o.shape.ty.void ≡ false
not_void layout laid k o e = (lawful_shape layout laid k o e).not_void

-- ---- bounds

each_length : {A B E : Type 0} (f : A → Result B E) (xs : List A) (ys : List B) → each_of f xs ≡ Ok ys
    → length ys ≡ length xs
each_length f [] ys h = let e : [] ≡ ys = cc in rw (← e) refl
each_length {A} {B} {E} f (x ∷ xs) ys h = split (f x) (each_of f xs) (λ zs e. each_length f xs zs e) h
  where
    split : (p : Result B E) (r : Result (List B) E) → ((zs : List B) → r ≡ Ok zs → length zs ≡ length xs)
        → first_then p r ≡ Ok ys → length ys ≡ suc (length xs)
    split (Ok y) (Ok zs) ih h = let e : y ∷ zs ≡ ys = cc in rw (← e) (ap suc (ih zs refl))
    split (Ok y) (Err e) ih h = absurd (cc)
    split (Err e) r ih h = absurd (cc)

bounds_of : (shape : Shape) (r : Result (List ℕ) LayoutError) (o : LaidObject)
    → ((values : List ℕ) → r ≡ Ok values → length values ≡ length (shape.left ++ shape.right))
    → result_map_both (λ values. record { shape = shape; bounds = values }) (λ (e : LayoutError). e) r ≡ Ok o
    → length o.bounds ≡ length (o.shape.left ++ o.shape.right)
bounds_of shape (Ok values) o f h =
    let made : LaidObject = record { shape = shape; bounds = values } in
    let same : made ≡ o = cc in
    subst (λ (o : LaidObject). length o.bounds ≡ length (o.shape.left ++ o.shape.right)) same (f values refl)
bounds_of shape (Err e) o f h = absurd (cc)

object_bounds : (nodes : ℕ) (shape : Shape) (o : LaidObject) → object_of nodes shape ≡ Ok o
    → length o.bounds ≡ length (o.shape.left ++ o.shape.right)
unfolding object_of
object_bounds nodes shape o h =
    bounds_of shape (each_of (bound_of nodes) (shape.left ++ shape.right)) o
    (each_length (bound_of nodes) (shape.left ++ shape.right)) h

-- an object has a bound for each dimension
pub as_many_bounds : (layout : Arrangement) → IsLayout layout → (k : ℕ) (o : LaidObject)
    → slice_get layout.objects k ≡ Some o → length o.bounds ≡ length o.shape.left + length o.shape.right
as_many_bounds layout laid k o e =
    let w = object-given layout laid k o e in
    object_bounds layout.nodes w.from o w.gives ∙ length-append o.shape.left o.shape.right

-- ---- places

record IsChosen (b : Bool) (p q : Place) : Type 0 where
  pub holds : b ≡ true
  pub is : p ≡ q

chosen : (b : Bool) (p q : Place) → (if b then Some p else None) ≡ Some q → IsChosen b p q
chosen true p q h = record { holds = refl; is = cc }
chosen false p q h = absurd (cc)

own_only : (nodes : ℕ) (o : LaidObject) (node object index : ℕ) → o.shape.spread ≡ false
    → place_in nodes o node object index
    ≡ (if nat_lt index (product o.bounds) then Some (record { object = object; node = node; offset = index }) else None)
unfolding place_in
own_only nodes o node object index h = rw h refl

own_cells : (nodes : ℕ) (o : LaidObject) (node : ℕ) → o.shape.spread ≡ false → cells_of nodes o node ≡ product o.bounds
unfolding cells_of
own_cells nodes o node h = rw h refl

extent_at : (layout : Arrangement) (object node : ℕ) (o : LaidObject) → slice_get layout.objects object ≡ Some o
    → extent_of layout node object ≡ cells_of layout.nodes o node
extent_at layout object node o e = rw e refl

pub record IsFoundPlace (layout : Arrangement) (object : ℕ) (place : Place) : Type 0 where
  pub object_is : place.object ≡ object
  pub placed : IsPlace layout place

own_place : (layout : Arrangement) (object node index : ℕ) (o : LaidObject) (place : Place)
    → slice_get layout.objects object ≡ Some o → o.shape.spread ≡ false → node < layout.nodes
    → place_of layout node object index ≡ Some place → IsFoundPlace layout object place
own_place layout object node index o place e ordinary within h =
    let at : place_of layout node object index ≡ place_in layout.nodes o node object index = rw e refl in
    let made : Place = record { object = object; node = node; offset = index } in
    let w = chosen (nat_lt index (product o.bounds)) made place
    (sym (own_only layout.nodes o node object index ordinary) ∙ sym at ∙ h) in
    let below : index < product o.bounds = ltb-true index (product o.bounds) w.holds in
    let extent : extent_of layout node object ≡ product o.bounds =
    extent_at layout object node o e ∙ own_cells layout.nodes o node ordinary in
    subst (λ (place : Place). IsFoundPlace layout object place) w.is
    (record {
      object_is = refl;
      placed = record { object = slice_get_within layout.objects object o e; node = within; offset = rw extent below };
    })

pub found_place : (layout : Arrangement) → IsLayout layout → (object node index : ℕ) (o : LaidObject) (place : Place)
    → slice_get layout.objects object ≡ Some o → node < layout.nodes → place_of layout node object index ≡ Some place
    → IsFoundPlace layout object place
found_place layout laid object node index o place e within h = by o.shape.spread refl
  where
    by : (b : Bool) → o.shape.spread ≡ b → IsFoundPlace layout object place
    by true s =
        let w = (elements_are_places layout object o laid e s).within node index place h in
        record { object_is = w.0; placed = w.1 }
    by false s = own_place layout object node index o place e s within h

-- the offset of a cell is far below what 32 bits count
pub low_offset : (layout : Arrangement) → IsLayout layout → layout.nodes < 2 ^ 32 → (place : Place) (o : LaidObject)
    → slice_get layout.objects place.object ≡ Some o → IsPlace layout place → place.offset < 2 ^ 32
low_offset layout laid few place o e p =
    let s = small layout laid few place.object o e in
    let low : cells_of layout.nodes o place.node ≤ 65536 = s.on_node place.node p.node in
    let within : place.offset < cells_of layout.nodes o place.node =
    subst (λ n. place.offset < n) (extent_at layout place.object place.node o e) p.offset in
    omega (arith, low, within)
