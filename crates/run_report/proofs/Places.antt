-- The places that a layout gives to the flat indices of its objects are cells of it.
use Rattle.std.proofs.Common.{◌≡◌, ℕ, ◌<◌, Bool, true, false, Option, Some, None, slice_get}
use Rattle.std.proofs.Common.{refl, sym, ◌∙◌, subst, arith}
use Rattle.std.specs.Prelude.{nat_lt, if◌then◌else◌}
use Rattle.std.specs.Option.{option_and_then}
use Rattle.std.proofs.lemmas.Option.{slice_get_within}
use Rattle.sc_base.specs.declared.value.Place.{Place}
use Rattle.sc_layout.specs.Layout.{Arrangement, LaidObject, IsLayout, product, cells_of}
use Rattle.sc_layout.specs.Place.{IsPlace, place_of, place_in, extent_of}
use Rattle.sc_layout.proofs.Kept.{cells-ordinary}
use Rattle.sc_layout.proofs.OneToOne.{at-object, elements_are_places}

given : (b : Bool) (p q : Place) → (if b then Some p else None) ≡ Some q → (b ≡ true) × (p ≡ q)
given true p q h = (refl, cc)
given false p q h = cc

nat_lt-true : (m n : ℕ) → nat_lt m n ≡ true → m < n
nat_lt-true m n h = grind arith

own_copy : (nodes : ℕ) (o : LaidObject) (node object index : ℕ) → o.shape.spread ≡ false
    → place_in nodes o node object index
    ≡ (if nat_lt index (product o.bounds) then Some (record { object = object; node = node; offset = index }) else None)
unfolding place_in
own_copy nodes o node object index h = rw h refl

extent_at : (layout : Arrangement) (object node : ℕ) (o : LaidObject) → slice_get layout.objects object ≡ Some o
    → extent_of layout node object ≡ cells_of layout.nodes o node
extent_at layout object node o found = rw found refl

module _ (layout : Arrangement) (node object index : ℕ) (place : Place) (laid : IsLayout layout)
    (within : node < layout.nodes) (h : place_of layout node object index ≡ Some place) where
  is_own : (o : LaidObject) → slice_get layout.objects object ≡ Some o → o.shape.spread ≡ false → IsPlace layout place
  is_own o found own =
      let here = given (nat_lt index (product o.bounds)) (record { object = object; node = node; offset = index }) place
      (sym (own_copy layout.nodes o node object index own) ∙ sym (at-object layout object node index o found) ∙ h) in
      let below : index < product o.bounds = nat_lt-true index (product o.bounds) here.0 in
      subst (IsPlace layout) here.1 (record {
        object = slice_get_within layout.objects object o found;
        node = within;
        offset = rw (extent_at layout object node o found, cells-ordinary layout.nodes o node own) below;
      })

  is_either : (o : LaidObject) → slice_get layout.objects object ≡ Some o → (spread : Bool) → o.shape.spread ≡ spread
      → IsPlace layout place
  is_either o found true spread =
      let one = elements_are_places layout object o laid found spread in (one.within node index place h).1
  is_either o found false own = is_own o found own

  is_found : (found : Option LaidObject) → slice_get layout.objects object ≡ found
      → option_and_then (λ o. place_in layout.nodes o node object index) found ≡ Some place → IsPlace layout place
  is_found None none at = cc
  is_found (Some o) found at = is_either o found o.shape.spread refl

  pub is_place : IsPlace layout place
  is_place = is_found (slice_get layout.objects object) refl h
