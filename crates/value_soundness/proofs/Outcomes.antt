-- What is computed from values of their kinds is of its kind, or a fault.
use Rattle.std.proofs.Common.{◌≡◌, ℕ, zero, suc, ◌+◌, ◌*◌, ◌/◌, ◌%◌, ◌^◌, ◌<◌, ◌≤◌, ℤ, pos, negsuc, ◌+ℤ◌, Result, Ok, Err, Option, Some, None, Bool, true, false, List, [], ◌∷◌, length, slice_get, refl, ap, ◌∙◌, arith}
use Rattle.std.specs.Prelude.{nat_lt, nat_le, if◌then◌else◌, FitsSigned}
use Rattle.std.specs.Int.{w64}
use Rattle.std.specs.Option.{option_map}
use Rattle.std.specs.List.{Contains}
use Rattle.std.proofs.lemmas.Bool.{and_from, ltb-true, leb-true, lt-ltb}
use Rattle.std.proofs.lemmas.Nat.{mod_below}
use Rattle.std.proofs.lemmas.Option.{slice_get_within}
use Rattle.sc_base.specs.Arithmetic.{binary_of, unary_of}
use Rattle.sc_base.specs.declared.operator.Binary.{Binary}
use Rattle.sc_base.specs.declared.operator.Unary.{Unary}
use Rattle.sc_base.specs.declared.shape.Star.{Star}
use Rattle.sc_base.specs.declared.shape.Star.TheVariants.{Local, Global, Spread}
use Rattle.sc_base.specs.declared.value.FaultKind.{FaultKind}
use Rattle.sc_base.specs.declared.value.Place.{Place}
use Rattle.sc_base.specs.declared.value.Value.{Value}
use Rattle.sc_base.specs.declared.value.Value.TheVariants.{Int, Null, Ptr}
use Rattle.sc_layout.specs.Layout.{Arrangement, LaidObject, IsLayout}
use Rattle.sc_layout.specs.Place.{place_of}
use Rattle.sc_layout.specs.Pointer.{pointer_at, at_offset, at_round, with_node, global_of, node_of}
use Rattle.sc_isa.specs.Elements.{Outcome, gives, fails, wrong, Flat, within, outside, amiss, flat_index, ints, pointer_to, pointer_at_flat, element}
use Rattle.sc_isa.specs.Pure.{value_or_fault, int_or_fault, bit, is_pointer, of_pointer, stepped}
use Rattle.sc_core.specs.Kinds.{Kind, number, to, named, numbers}
use Rattle.value_soundness.proofs.Numbers.{OkFits, binary_fits, unary_fits}
use Rattle.value_soundness.proofs.Values.{Points, IsOf, AreOf}
use Rattle.value_soundness.proofs.Layouts.{as_many_bounds, found_place, low_offset}

-- a value of the kind, or a fault
abbrev pub Given : Arrangement → (exposed : List ℕ) → Kind → Outcome → Type 0
Given layout exposed kind (gives v) = IsOf layout exposed kind v
Given layout exposed kind (fails fault) = Unit {0}
Given layout exposed kind wrong = ⊥

-- ---- indices

-- the values are whole numbers, so many of them
pub record AreInts (vs : List Value) (n : ℕ) : Type 0 where
  pub all : List ℤ
  pub are : ints vs ≡ Some all
  pub many : length all ≡ n

-- there are neither too many indices nor too few
abbrev IsFlat : Flat → Type 0
IsFlat amiss = ⊥
IsFlat _ = Unit {0}

flat_or_outside : (b : Bool) (f : Flat) → IsFlat f → IsFlat (if b then f else outside)
flat_or_outside true f h = h
flat_or_outside false f h = tt

is_flat : (bounds : List ℕ) (is : List ℤ) (flat : ℕ) → length bounds ≤ suc (length is) → length is ≤ length bounds
    → IsFlat (flat_index bounds is flat)
is_flat [] [] flat few many = tt
is_flat [] (i ∷ is) flat few many = absurd (let e : ⊥ = omega arith in e)
is_flat (b ∷ []) [] flat few many = tt
is_flat (b ∷ c ∷ bs) [] flat few many = absurd (let e : ⊥ = omega arith in e)
is_flat (b ∷ []) (pos i ∷ is) flat few many =
    flat_or_outside (nat_lt i b) _ (is_flat [] is (flat * b + i) (omega arith) (omega arith))
is_flat (b ∷ c ∷ bs) (pos i ∷ is) flat few many =
    flat_or_outside (nat_lt i b) _ (is_flat (c ∷ bs) is (flat * b + i) (omega arith) (omega arith))
is_flat (b ∷ []) (negsuc i ∷ is) flat few many = tt
is_flat (b ∷ c ∷ bs) (negsuc i ∷ is) flat few many = tt

module _ (layout : Arrangement) (exposed : List ℕ) where
  pub all_ints : (n : ℕ) (vs : List Value) → AreOf layout exposed (numbers n) vs → AreInts vs n
  all_ints zero [] h = record { all = []; are = refl; many = refl }
  all_ints zero (v ∷ vs) h = absurd h
  all_ints (suc n) [] h = absurd h
  all_ints (suc n) (Int i ∷ vs) h =
      let more = all_ints n vs h.1 in
      record { all = i ∷ more.all; are = ap (λ ns. option_map (λ ns. i ∷ ns) ns) more.are; many = ap suc more.many }
  all_ints (suc n) (Null ∷ vs) h = absurd h.0
  all_ints (suc n) (Ptr o node offset ∷ vs) h = absurd h.0

  pub bit_is : (b : Bool) → IsOf layout exposed number (bit b)
  bit_is true = record { sfits = omega arith }
  bit_is false = record { sfits = omega arith }

  ok_given : (r : Result ℤ FaultKind) → OkFits r → Given layout exposed number (int_or_fault r)
  ok_given (Ok n) h = h
  ok_given (Err kind) h = tt

  pub binary_given : (op : Binary) (a b : ℤ) → Given layout exposed number (int_or_fault (binary_of op a b))
  binary_given op a b = ok_given (binary_of op a b) (binary_fits op a b)

  pub unary_given : (op : Unary) (a : ℤ) → FitsSigned w64 a → Given layout exposed number (int_or_fault (unary_of op a))
  unary_given op a h = ok_given (unary_of op a) (unary_fits op a h)

  -- ---- elements

  module _ (laid : IsLayout layout) (few : layout.nodes < 2 ^ 32) where
    -- what is given of each pointer to a cell of the object
    abbrev GivenAt : Kind → ℕ → LaidObject → Type 0
    GivenAt kind object o =
        (node offset : ℕ) → Points layout o.shape.ty.stars object node offset
        → IsOf layout exposed kind (Ptr object node offset)

    pointer_given : (kind : Kind) (object flat : ℕ) (o : LaidObject) → slice_get layout.objects object ≡ Some o
        → GivenAt kind object o → (p : Option Place) → place_of layout 0 object flat ≡ p
        → Given layout exposed kind (pointer_to p)
    pointer_given kind object flat o e give None at = tt
    pointer_given kind object flat o e give (Some place) at =
        let w = found_place layout laid object 0 flat o place e laid.some_node at in
        let here : slice_get layout.objects place.object ≡ Some o = ap (slice_get layout.objects) w.object_is ∙ e in
        let low = low_offset layout laid few place o here w.placed in
        rw (w.object_is) (give place.node place.offset
        (record { laid = o; laid_is = e; stars = refl; node_within = w.placed.node; offset_within = low }))

    flat_given : (kind : Kind) (object : ℕ) (o : LaidObject) → slice_get layout.objects object ≡ Some o
        → GivenAt kind object o → (f : Flat) → IsFlat f → Given layout exposed kind (pointer_at_flat layout object f)
    flat_given kind object o e give (within flat) h =
        pointer_given kind object flat o e give (place_of layout 0 object flat) refl
    flat_given kind object o e give outside h = tt
    flat_given kind object o e give amiss h = absurd h

    -- with an index for each dimension but perhaps the last
    pub element_given : (kind : Kind) (object n : ℕ) (o : LaidObject) (vs : List Value)
        → slice_get layout.objects object ≡ Some o → length o.shape.left + length o.shape.right ≤ suc n
        → n ≤ length o.shape.left + length o.shape.right → GivenAt kind object o → AreOf layout exposed (numbers n) vs
        → Given layout exposed kind (element layout object (slice_get layout.objects object) (ints vs))
    element_given kind object n o vs e enough not_more give h =
        let all = all_ints n vs h in
        let many = as_many_bounds layout laid object o e in
        rw (e, all.are) (flat_given kind object o e give (flat_index o.bounds all.all 0)
        (is_flat o.bounds all.all 0 (omega (arith, many, all.many)) (omega (arith, many, all.many))))

  -- ---- pointers

  -- of a null pointer or of one of the layout
  of_pointer_given : (kind : Kind) (v : Value) (o : Outcome) → is_pointer layout v ≡ true → Given layout exposed kind o
      → Given layout exposed kind (of_pointer layout v o)
  of_pointer_given kind v o e h = rw e h

  pub points_is_pointer : (cell : List Star) (object node offset : ℕ) → Points layout cell object node offset
      → is_pointer layout (Ptr object node offset) ≡ true
  points_is_pointer cell object node offset p =
      and_from (nat_lt object (length layout.objects)) (nat_lt node layout.nodes)
      (lt-ltb object (length layout.objects) (slice_get_within layout.objects object p.laid p.laid_is))
      (lt-ltb node layout.nodes p.node_within)

  moved : (cell : List Star) (object node offset : ℕ) (to_node to_offset : ℕ) → to_node < layout.nodes
      → to_offset < 2 ^ 32
      → Points layout cell object node offset → Points layout cell object to_node to_offset
  moved cell object node offset to_node to_offset h k p = record {
    laid = p.laid;
    laid_is = p.laid_is;
    stars = p.stars;
    node_within = h;
    offset_within = k;
  }

  at_given : (cell : List Star) (object node offset : ℕ) → Contains exposed object
      → (offset < 2 ^ 32 → Points layout cell object node offset) → (b : Bool) (kind : FaultKind)
      → nat_le offset 65536 ≡ b
      → Given layout exposed (to cell) (value_or_fault (if b then Ok (Ptr object node offset) else Err kind))
  at_given cell object node offset c p true kind e =
      let low = leb-true offset 65536 e in (p (omega (arith, low)), c)
  at_given cell object node offset c p false kind e = tt

  -- the pointer on the node at the offset
  offset_given : (cell : List Star) (object from at node offset : ℕ) → Contains exposed object → node < layout.nodes
      → Points layout cell object from at
      → Given layout exposed (to cell) (value_or_fault (pointer_at object node offset))
  offset_given cell object from at node offset c h p =
      at_given cell object node offset c (λ low. moved cell object from at node offset h low p) _ _ refl

  global_given : (cell : List Star) (object node offset : ℕ) (z : ℤ) → Contains exposed object
      → Points layout cell object node offset
      → Given layout exposed (to cell) (value_or_fault (at_offset object node z))
  global_given cell object node offset (pos n) c p = offset_given cell object node offset node n c p.node_within p
  global_given cell object node offset (negsuc n) c p = tt

  spread_given : (cell : List Star) (object node offset : ℕ) (z : ℤ) → Contains exposed object
      → Points layout cell object node offset
      → Given layout exposed (to cell) (value_or_fault (at_round layout.nodes object z))
  spread_given cell object node offset (pos n) c p =
      let below = p.node_within in
      offset_given cell object node offset (n % layout.nodes) (n / layout.nodes) c
      (mod_below n layout.nodes (omega (arith, below))) p
  spread_given cell object node offset (negsuc n) c p = tt

  stepped_given : (star : Star) (cell : List Star) (v : Value) (by : ℤ) → IsOf layout exposed (to cell) v
      → Given layout exposed (to cell) (value_or_fault (stepped layout.nodes star v by))
  stepped_given star cell (Int n) by h = absurd h
  stepped_given Local cell Null by h = tt
  stepped_given Global cell Null by h = tt
  stepped_given Spread cell Null by h = tt
  stepped_given Local cell (Ptr object node offset) by h =
      global_given cell object node offset (pos offset +ℤ by) h.1 h.0
  stepped_given Global cell (Ptr object node offset) by h =
      global_given cell object node offset (pos offset +ℤ by) h.1 h.0
  stepped_given Spread cell (Ptr object node offset) by h =
      spread_given cell object node offset (pos (offset * layout.nodes + node) +ℤ by) h.1 h.0

  pub is_a_pointer : (cell : List Star) (v : Value) → IsOf layout exposed (to cell) v → is_pointer layout v ≡ true
  is_a_pointer cell (Int n) h = absurd h
  is_a_pointer cell Null h = refl
  is_a_pointer cell (Ptr object node offset) h = points_is_pointer cell object node offset h.0

  pub is_named : (placed : Bool) (cell : List Star) (v : Value) → IsOf layout exposed (named placed cell) v
      → is_pointer layout v ≡ true
  is_named placed cell (Int n) h = absurd h
  is_named placed cell Null h = refl
  is_named placed cell (Ptr object node offset) h = points_is_pointer cell object node offset h

  pub step_given : (star : Star) (cell : List Star) (v : Value) (by : ℤ) → IsOf layout exposed (to cell) v
      → Given layout exposed (to cell) (of_pointer layout v (value_or_fault (stepped layout.nodes star v by)))
  step_given star cell v by h = of_pointer_given (to cell) v _ (is_a_pointer cell v h) (stepped_given star cell v by h)

  with_node_is : (cell : List Star) (node : ℕ) (v : Value) → node < layout.nodes → IsOf layout exposed (to cell) v
      → IsOf layout exposed (to cell) (with_node node v)
  with_node_is cell node (Int n) below h = absurd h
  with_node_is cell node Null below h = tt
  with_node_is cell node (Ptr object from offset) below h =
      (moved cell object from offset node offset below h.0.offset_within h.0, h.1)

  with_node_named : (placed : Bool) (cell : List Star) (node : ℕ) (v : Value) → node < layout.nodes
      → IsOf layout exposed (to cell) v → IsOf layout exposed (named placed cell) (with_node node v)
  with_node_named placed cell node (Int n) below h = absurd h
  with_node_named placed cell node Null below h = tt
  with_node_named placed cell node (Ptr object from offset) below h =
      moved cell object from offset node offset below h.0.offset_within h.0

  with_node_again : (placed of : Bool) (cell : List Star) (node : ℕ) (v : Value) → node < layout.nodes
      → IsOf layout exposed (named of cell) v → IsOf layout exposed (named placed cell) (with_node node v)
  with_node_again placed of cell node (Int n) below h = absurd h
  with_node_again placed of cell node Null below h = tt
  with_node_again placed of cell node (Ptr object from offset) below h =
      moved cell object from offset node offset below h.offset_within h

  pub convert_given : (cell : List Star) (node : ℕ) (v : Value) → node < layout.nodes → IsOf layout exposed (to cell) v
      → Given layout exposed (to cell) (of_pointer layout v (gives (with_node node v)))
  convert_given cell node v below h =
      of_pointer_given (to cell) v _ (is_a_pointer cell v h) (with_node_is cell node v below h)

  pub own_given : (placed : Bool) (cell : List Star) (node : ℕ) (v : Value) → node < layout.nodes
      → IsOf layout exposed (to cell) v
      → Given layout exposed (named placed cell) (of_pointer layout v (gives (with_node node v)))
  own_given placed cell node v below h =
      of_pointer_given (named placed cell) v _ (is_a_pointer cell v h) (with_node_named placed cell node v below h)

  pub own_named_given : (placed of : Bool) (cell : List Star) (node : ℕ) (v : Value) → node < layout.nodes
      → IsOf layout exposed (named of cell) v
      → Given layout exposed (named placed cell) (of_pointer layout v (gives (with_node node v)))
  own_named_given placed of cell node v below h =
      of_pointer_given (named placed cell) v _ (is_named of cell v h) (with_node_again placed of cell node v below h)

  node_if : (cell : List Star) (node : ℕ) (v : Value) (b : Bool) (kind : FaultKind) → nat_lt node layout.nodes ≡ b
      → IsOf layout exposed (to cell) v
      → Given layout exposed (to cell) (value_or_fault (if b then Ok (with_node node v) else Err kind))
  node_if cell node v true kind e h = with_node_is cell node v (ltb-true node layout.nodes e) h
  node_if cell node v false kind e h = tt

  global_of_given : (cell : List Star) (node : ℤ) (v : Value) → IsOf layout exposed (to cell) v
      → Given layout exposed (to cell) (value_or_fault (global_of layout.nodes node v))
  global_of_given cell (pos n) v h = node_if cell n v _ _ refl h
  global_of_given cell (negsuc n) v h = tt

  pub to_global_given : (cell : List Star) (node : ℤ) (v : Value) → IsOf layout exposed (to cell) v
      → Given layout exposed (to cell) (of_pointer layout v (value_or_fault (global_of layout.nodes node v)))
  to_global_given cell node v h = of_pointer_given (to cell) v _ (is_a_pointer cell v h) (global_of_given cell node v h)

  node_of_given : (cell : List Star) (v : Value) → layout.nodes < 2 ^ 32 → IsOf layout exposed (to cell) v
      → Given layout exposed number (int_or_fault (node_of v))
  node_of_given cell (Int n) few h = absurd h
  node_of_given cell Null few h = tt
  node_of_given cell (Ptr object node offset) few h =
      let below = h.0.node_within in record { sfits = omega (arith, few, below) }

  pub to_proc_given : (cell : List Star) (v : Value) → layout.nodes < 2 ^ 32 → IsOf layout exposed (to cell) v
      → Given layout exposed number (of_pointer layout v (int_or_fault (node_of v)))
  to_proc_given cell v few h = of_pointer_given number v _ (is_a_pointer cell v h) (node_of_given cell v few h)
