-- The elements of a spread object and its places correspond one to one.
use Rattle.std.proofs.Common.{◌≡◌, ℕ, suc, ◌+◌, ◌-◌, ◌*◌, ◌/◌, ◌%◌, ◌<◌, ◌≤◌, Bool, true, false, Some, None, slice_get, refl, sym, ◌∙◌, ap, subst, arith}
use Rattle.std.specs.Prelude.{nat_lt, if◌then◌else◌}
use Rattle.std.proofs.lemmas.Nat.{same_from_place, div_below, mod_below, div-mul-add, mod-mul-add, mul-add-lt}
use Rattle.std.proofs.Math.Nat.{div-add-mod, div-mul-le_self}
use Rattle.std.proofs.lemmas.Option.{slice_get_within}
use Rattle.sc_base.specs.declared.value.Place.{Place}
use Rattle.sc_layout.specs.Layout.{Arrangement, LaidObject, IsLayout, product, blocks_of, block_of, cells_of, share_of}
use Rattle.sc_layout.specs.Place.{IsPlace, place_of, place_in, spread_place, extent_of}
use Rattle.sc_layout.specs.Laws.{OneToOne, SpreadElementsArePlaces}
use Rattle.sc_layout.proofs.Kept.{some_cells, cells-spread, all-blocks, spread-offset, positive_second}

record IsIn (nodes : ℕ) (o : LaidObject) (object index : ℕ) (place : Place) : Type 0 where
  pub below : index < product o.bounds
  pub is : spread_place nodes (block_of o) object index ≡ place

-- what place_in says of a spread object
cell-of : (b : Bool) (p q : Place) → (if b then Some p else None) ≡ Some q → (b ≡ true) × (p ≡ q)
cell-of true p q h = (refl, cc)
cell-of false p q h = cc

nat_lt-true : (m n : ℕ) → nat_lt m n ≡ true → m < n
nat_lt-true m n h = grind arith

nat_lt-yes : (m n : ℕ) → m < n → nat_lt m n ≡ true
nat_lt-yes m n h = grind arith

spread-only : (nodes : ℕ) (o : LaidObject) (node object index : ℕ) → o.shape.spread ≡ true → place_in nodes o node object index ≡ (if nat_lt index (product o.bounds) then Some (spread_place nodes (block_of o) object index) else None)
unfolding place_in
spread-only nodes o node object index h = rw h refl

in-object : (nodes : ℕ) (o : LaidObject) (node object index : ℕ) (place : Place) → o.shape.spread ≡ true → place_in nodes o node object index ≡ Some place → IsIn nodes o object index place
in-object nodes o node object index place h p =
    let w = cell-of (nat_lt index (product o.bounds)) (spread_place nodes (block_of o) object index) place (sym (spread-only nodes o node object index h) ∙ p) in
    record { below = nat_lt-true index (product o.bounds) w.0; is = w.1 }

pub of-object : (nodes : ℕ) (o : LaidObject) (node object index : ℕ) → o.shape.spread ≡ true → index < product o.bounds → place_in nodes o node object index ≡ Some (spread_place nodes (block_of o) object index)
of-object nodes o node object index h below = spread-only nodes o node object index h ∙ (rw (nat_lt-yes index (product o.bounds) below) refl)

same-index : (nodes b i j : ℕ) → 0 < nodes → 0 < b → i / b % nodes ≡ j / b % nodes → i / b / nodes * b + i % b ≡ j / b / nodes * b + j % b → i ≡ j
same-index nodes b i j some cell node offset =
    let parts = same_from_place (i / b / nodes) (i % b) (j / b / nodes) (j % b) b (mod_below i b cell) (mod_below j b cell) offset in
    let round : i / b ≡ j / b = sym (div-add-mod (i / b) nodes) ∙ ap (λ q. nodes * q + i / b % nodes) parts.0 ∙ ap (λ r. nodes * (j / b / nodes) + r) node ∙ div-add-mod (j / b) nodes in
    sym (div-add-mod i b) ∙ ap (λ q. b * q + i % b) round ∙ ap (λ r. b * (j / b) + r) parts.1 ∙ div-add-mod j b

-- the flat index of the cell at this offset on the node
index_at : ℕ → ℕ → ℕ → ℕ → ℕ
index_at nodes b node offset = (offset / b * nodes + node) * b + offset % b

block-below : (nodes blocks node q : ℕ) → node < nodes → q < share_of nodes blocks node → q * nodes + node < blocks
block-below nodes blocks node q within h =
    let down : share_of nodes blocks node * nodes ≤ blocks + (nodes - suc node) = div-mul-le_self (blocks + (nodes - suc node)) nodes in
    let up : suc q * nodes ≤ share_of nodes blocks node * nodes = mul-mono (suc q) (share_of nodes blocks node) nodes (omega arith) in
    omega arith
  where
    mul-mono : (a c n : ℕ) → a ≤ c → a * n ≤ c * n
    mul-mono a c n h = grind arith

index-below : (nodes blocks b node offset : ℕ) → 0 < b → node < nodes → offset < share_of nodes blocks node * b → (offset / b * nodes + node) * b + offset % b < blocks * b
index-below nodes blocks b node offset cell within h =
    let q : offset / b < share_of nodes blocks node = div_below offset b (share_of nodes blocks node) cell h in
    let i : offset / b * nodes + node < blocks = block-below nodes blocks node (offset / b) within q in
    let e : (offset / b * nodes + node) * b + offset % b < b * blocks = mul-add-lt (offset / b * nodes + node) b (offset % b) blocks i (mod_below offset b cell) in
    omega arith

place-back : (nodes b object node offset : ℕ) → 0 < b → node < nodes → spread_place nodes b object ((offset / b * nodes + node) * b + offset % b) ≡ record { object = object; node = node; offset = offset }
place-back nodes b object node offset cell within =
    let r : offset % b < b = mod_below offset b cell in
    let round : ((offset / b * nodes + node) * b + offset % b) / b ≡ offset / b * nodes + node = div-mul-add (offset / b * nodes + node) b (offset % b) r in
    let rest : ((offset / b * nodes + node) * b + offset % b) % b ≡ offset % b = mod-mul-add (offset / b * nodes + node) b (offset % b) r in
    let turn : (offset / b * nodes + node) / nodes ≡ offset / b = div-mul-add (offset / b) nodes node within in
    let home : (offset / b * nodes + node) % nodes ≡ node = mod-mul-add (offset / b) nodes node within in
    let whole : offset / b * b + offset % b ≡ offset = omega (arith, div-add-mod offset b) in
    rw (round, rest, turn, home, whole) refl

pub at-object : (layout : Arrangement) (object node index : ℕ) (o : LaidObject) → slice_get layout.objects object ≡ Some o → place_of layout node object index ≡ place_in layout.nodes o node object index
at-object layout object node index o found = rw found refl

extent-at : (layout : Arrangement) (object node : ℕ) (o : LaidObject) → slice_get layout.objects object ≡ Some o → extent_of layout node object ≡ cells_of layout.nodes o node
extent-at layout object node o found = rw found refl

one-to-one : (layout : Arrangement) (object : ℕ) (o : LaidObject) → 0 < layout.nodes → 0 < block_of o → slice_get layout.objects object ≡ Some o → o.shape.spread ≡ true → OneToOne layout object
one-to-one layout object o some cell found spread =
    record {
      within = λ node index place h.
          (let w = in-object layout.nodes o node object index place spread (sym (at-object layout object node index o found) ∙ h) in
          let P : Place → Type 0 = λ place. (place.object ≡ object) × IsPlace layout place in
          subst P w.is (here index w.below));
      apart = λ node i j place p q.
          (let v = in-object layout.nodes o node object i place spread (sym (at-object layout object node i o found) ∙ p) in
          let w = in-object layout.nodes o node object j place spread (sym (at-object layout object node j o found) ∙ q) in
          let same : spread_place layout.nodes (block_of o) object i ≡ spread_place layout.nodes (block_of o) object j = v.is ∙ sym w.is in
          same-index layout.nodes (block_of o) i j some cell (ap (λ (p : Place). p.node) same) (ap (λ (p : Place). p.offset) same));
      reached = λ node place is p.
          (let offset : place.offset < share_of layout.nodes (blocks_of o) place.node * block_of o = at-node place is p in
          let below : (place.offset / block_of o * layout.nodes + place.node) * block_of o + place.offset % block_of o < product o.bounds =
          rw (all-blocks o) (index-below layout.nodes (blocks_of o) (block_of o) place.node place.offset cell p.node offset) in
          let back = place-back layout.nodes (block_of o) object place.node place.offset cell p.node in
          let whole : spread_place layout.nodes (block_of o) object ((place.offset / block_of o * layout.nodes + place.node) * block_of o + place.offset % block_of o) ≡ place = back ∙ ap (λ object. record { object = object; node = place.node; offset = place.offset }) (sym is) in (
            (place.offset / block_of o * layout.nodes + place.node) * block_of o + place.offset % block_of o,
            at-object layout object node _ o found ∙ of-object layout.nodes o node object _ spread below ∙ ap Some whole,
          ));
    }
  where
    here : (index : ℕ) → index < product o.bounds → ((spread_place layout.nodes (block_of o) object index).object ≡ object) × IsPlace layout (spread_place layout.nodes (block_of o) object index)
    here index below =
        let offset : index / block_of o / layout.nodes * block_of o + index % block_of o < share_of layout.nodes (blocks_of o) (index / block_of o % layout.nodes) * block_of o =
        spread-offset layout.nodes (blocks_of o) (block_of o) index some cell (rw (all-blocks o) at below) in (
          refl,
          record {
            object = slice_get_within layout.objects object o found;
            node = mod_below (index / block_of o) layout.nodes some;
            offset = rw (extent-at layout object (index / block_of o % layout.nodes) o found, cells-spread layout.nodes o (index / block_of o % layout.nodes) spread) offset;
          },
        )

    at-node : (place : Place) → place.object ≡ object → IsPlace layout place → place.offset < share_of layout.nodes (blocks_of o) place.node * block_of o
    at-node place is p =
        let e : extent_of layout place.node place.object ≡ share_of layout.nodes (blocks_of o) place.node * block_of o =
        ap (λ object. extent_of layout place.node object) is ∙ extent-at layout object place.node o found ∙ cells-spread layout.nodes o place.node spread in
        subst (λ (n : ℕ). place.offset < n) e p.offset

pub block-positive : (layout : Arrangement) (object : ℕ) (o : LaidObject) → IsLayout layout → slice_get layout.objects object ≡ Some o → 0 < block_of o
block-positive layout object o h found =
    positive_second (blocks_of o) (block_of o) (rw (← all-blocks o) (some_cells layout h object o found))

pub elements_are_places : SpreadElementsArePlaces
elements_are_places layout object o h found spread = one-to-one layout object o h.some_node (block-positive layout object o h found) found spread
