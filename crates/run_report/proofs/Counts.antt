-- The flat indices of an object's cells.
use Rattle.std.proofs.Common.{◌≡◌, ℕ, ◌^◌, ◌<◌, ◌≤◌, Bool, true, false, Some, None, slice_get, refl, lit<, arith}
use Rattle.std.specs.Prelude.{Option, nat_lt, if◌then◌else◌}
use Rattle.std.specs.Option.{option_and_then, option_map_or}
use Rattle.sc_base.specs.declared.value.Place.{Place}
use Rattle.sc_layout.specs.Layout.{Arrangement, LaidObject, IsLayout, product}
use Rattle.sc_layout.specs.Place.{place_of, place_in}
use Rattle.sc_layout.proofs.Kept.{small, all-blocks}
use Rattle.run_report.specs.Report.{count_of}

nat_lt-true : (m n : ℕ) → nat_lt m n ≡ true → m < n
nat_lt-true m n h = grind arith

nat_lt-false : (m n : ℕ) → nat_lt m n ≡ false → n ≤ m
nat_lt-false m n h = grind arith

some-then : (b : Bool) (p q : Place) → (if b then Some p else None) ≡ Some q → b ≡ true
some-then true p q h = refl
some-then false p q h = cc

none-then : (b : Bool) (p : Place) → (if b then Some p else None) ≡ None → b ≡ false
none-then true p h = cc
none-then false p h = refl

in-below : (nodes : ℕ) (o : LaidObject) (node object index : ℕ) (place : Place) →
    place_in nodes o node object index ≡ Some place → index < product o.bounds
unfolding place_in
in-below nodes o node object index place h = nat_lt-true index (product o.bounds) (some-then _ _ place h)

in-past : (nodes : ℕ) (o : LaidObject) (node object index : ℕ) → place_in nodes o node object index ≡ None →
    product o.bounds ≤ index
unfolding place_in
in-past nodes o node object index h = nat_lt-false index (product o.bounds) (none-then _ _ h)

-- a place was given, so its flat index is below the count
pub below_count : (layout : Arrangement) (node object index : ℕ) (place : Place) →
    place_of layout node object index ≡ Some place → index < count_of layout object
below_count layout node object index place h = by_object (slice_get layout.objects object) h
  where
    by_object : (found : Option LaidObject) →
        option_and_then (λ o. place_in layout.nodes o node object index) found ≡ Some place →
        index < option_map_or (λ o. product o.bounds) found 0
    by_object None h = cc
    by_object (Some o) h = in-below layout.nodes o node object index place h

-- none was given, so all are below the flat index
pub past_count : (layout : Arrangement) (node object index : ℕ) → place_of layout node object index ≡ None →
    count_of layout object ≤ index
past_count layout node object index h = by_object (slice_get layout.objects object) h
  where
    by_object : (found : Option LaidObject) →
        option_and_then (λ o. place_in layout.nodes o node object index) found ≡ None →
        option_map_or (λ o. product o.bounds) found 0 ≤ index
    by_object None h = omega arith
    by_object (Some o) h = in-past layout.nodes o node object index h

-- the count fits a machine word
pub count_fits : (layout : Arrangement) (object : ℕ) → IsLayout layout → layout.nodes < 2 ^ 32 →
    count_of layout object < 2 ^ 64
count_fits layout object laid few = by_object (slice_get layout.objects object) refl
  where
    by_object : (found : Option LaidObject) → slice_get layout.objects object ≡ found →
        option_map_or (λ o. product o.bounds) found 0 < 2 ^ 64
    by_object None h = lit< tt
    by_object (Some o) h = rw (all-blocks o) (small layout laid few object o h).cells
