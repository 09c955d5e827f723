-- A flat index past the greatest word names no cell.
use Rattle.std.proofs.Common.{◌≡◌, ℕ, zero, suc, ◌+◌, ◌-◌, ◌*◌, ◌<◌, ◌≤◌, ◌^◌, min, ℤ, pos, negsuc, nat_lt, if◌then◌else◌, Bool, true, false, Some, None, List, [], ◌∷◌, length, map, slice_get, refl, sym, ap, ◌∙◌, arith, ltb-true, ◌⊎◌, inl, inr}
use Rattle.std.specs.List.{list_all}
use Rattle.std.proofs.lemmas.Bool.{ltb-false}
use Rattle.std.proofs.lemmas.Option.{slice_get_cases}
use Rattle.sc_layout.specs.Layout.{Arrangement, LaidObject, IsLayout, blocks_of, block_of}
use Rattle.sc_layout.specs.Place.{place_in, place_of}
use Rattle.sc_layout.specs.Small.{IsSmall}
use Rattle.sc_layout.proofs.Extents.{Keeps, exact_blocks, exact_block, past}
use Rattle.sc_layout.proofs.Kept.{small}
use Rattle.sc_isa.specs.declared.operand.Operand.{Operand}
use Rattle.sc_isa.specs.Elements.{Flat, within, outside, amiss, flat_index, pointer_to, pointer_at_flat}
use Rattle.node_values.specs.Elements.{bounds_of, short, short_flat, element_of}
use Rattle.node_values.specs.Operands.{is_int, int_in}

below_or : (n most : ℕ) → (n ≤ most) ⊎ (most < n)
below_or n most = (elim (nat_lt most n) as (λ b. nat_lt most n ≡ b → (n ≤ most) ⊎ (most < n)) [
  | true ↦ λ e. inr (ltb-true most n e)
  | false ↦ λ e. inl (ltb-false most n e)
]) refl

module _ (most : ℕ) where
  step_exact : (n b i : ℕ) → i < b → min (min (min n most * b) most + i) most ≡ min (n * b + i) most
  step_exact n zero i h = absurd (omega arith)
  step_exact n (suc b) i h = elim (below_or n most) [
    | inl le ↦ let same : min n most ≡ n = omega arith in rw same (omega arith)
    | inr gt ↦ let same : min n most ≡ most = omega arith in rw same (omega arith)
  ]

  end_exact : (n b : ℕ) → min (min n most * b) most ≡ min (n * b) most
  end_exact n zero = omega arith
  end_exact n (suc b) = elim (below_or n most) [
    | inl le ↦ let same : min n most ≡ n = omega arith in rw same refl
    | inr gt ↦ let same : min n most ≡ most = omega arith in rw same (omega arith)
  ]

-- ---- the flat index, as far as it fits

abbrev shortened : Flat → Flat
shortened (within n) = within (short n)
shortened outside = outside
shortened amiss = amiss

-- by one index, where the rest is exact
step_short : (c : Bool) (bound i n : ℕ) (f g : ℕ → Flat) → nat_lt i bound ≡ c
    → ((m : ℕ) → f (short m) ≡ shortened (g m))
    → (if c then f (short (short (short n * bound) + i)) else outside)
    ≡ shortened (if c then g (n * bound + i) else outside)
step_short true bound i n f g e ih =
    ap f (step_exact (2 ^ 64 - 1) n bound i (ltb-true i bound e)) ∙ ih (n * bound + i)
step_short false bound i n f g e ih = refl

exactly : (bounds : List ℕ) (is : List ℤ) (n : ℕ) → short_flat bounds is (short n) ≡ shortened (flat_index bounds is n)
exactly [] [] n = refl
exactly [] (i ∷ is) n = refl
exactly (bound ∷ []) [] n = ap within (end_exact (2 ^ 64 - 1) n bound)
exactly (bound ∷ b ∷ bs) [] n = refl
exactly (bound ∷ []) (negsuc i ∷ is) n = refl
exactly (bound ∷ b ∷ bs) (negsuc i ∷ is) n = refl
exactly (bound ∷ []) (pos i ∷ is) n =
    step_short (nat_lt i bound) bound i n (short_flat [] is) (flat_index [] is) refl (exactly [] is)
exactly (bound ∷ b ∷ bs) (pos i ∷ is) n =
    step_short (nat_lt i bound) bound i n (short_flat (b ∷ bs) is) (flat_index (b ∷ bs) is) refl (exactly (b ∷ bs) is)

-- ---- past the last cell

none_past : (layout : Arrangement) (object index : ℕ) (o : LaidObject) → IsSmall layout.nodes o → 2 ^ 64 - 1 ≤ index
    → place_in layout.nodes o 0 object index ≡ None
none_past layout object index o s h =
    let blocks = min (blocks_of o) (2 ^ 128 - 1) in
    let block = min (block_of o) (2 ^ 128 - 1) in
    let keeps : Keeps o blocks block = record { blocks_are = refl; block_is = refl } in
    let all : blocks * block ≡ blocks_of o * block_of o =
    rw (exact_blocks layout.nodes blocks block o keeps s, exact_block layout.nodes blocks block o keeps s) refl in
    sym (past layout.nodes 0 object index blocks block o keeps s (omega (arith, all, s.cells)))

module _ (layout : Arrangement) (object : ℕ) (o : LaidObject) (is : slice_get layout.objects object ≡ Some o)
    (s : IsSmall layout.nodes o) where
  place_short : (n : ℕ) → place_of layout 0 object (short n) ≡ place_of layout 0 object n
  place_short n = elim (below_or n (2 ^ 64 - 1)) [
    | inl le ↦ let same : short n ≡ n = omega arith in ap (place_of layout 0 object) same
    | inr gt ↦
        let most : 2 ^ 64 - 1 ≤ short n = omega arith in
        let large : 2 ^ 64 - 1 ≤ n = omega arith in
        rw is (none_past layout object (short n) o s most ∙ sym (none_past layout object n o s large))
  ]

  pointer_short : (f : Flat) → pointer_at_flat layout object (shortened f) ≡ pointer_at_flat layout object f
  pointer_short (within n) = ap pointer_to (place_short n)
  pointer_short outside = refl
  pointer_short amiss = refl

  element_with : (operands : List Operand) → list_all is_int operands ≡ true
      → element_of layout object operands
      ≡ pointer_at_flat layout object (short_flat (bounds_of layout object) (map int_in operands) 0)
  element_with operands h =
      rw (h, is) (sym (ap (pointer_at_flat layout object) (exactly o.bounds (map int_in operands) 0)
      ∙ pointer_short (flat_index o.bounds (map int_in operands) 0)))

pub element_as : (layout : Arrangement) (object : ℕ) (operands : List Operand) (flat : Flat)
    → IsLayout layout → layout.nodes < 2 ^ 32 → object < length layout.objects → list_all is_int operands ≡ true
    → flat ≡ short_flat (bounds_of layout object) (map int_in operands) 0
    → element_of layout object operands ≡ pointer_at_flat layout object flat
element_as layout object operands flat lawful few within_ h e = elim ((slice_get_cases layout.objects object).1) [
  | inl t ↦
      element_with layout object t.0 t.2 (small layout lawful few object t.0 t.2) operands h
      ∙ ap (pointer_at_flat layout object) (sym e)
  | inr t ↦ absurd (omega (arith, t.0))
]
