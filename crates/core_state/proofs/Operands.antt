-- Operands that are values.
use Rattle.std.proofs.Common.{◌≡◌, ℕ, ℤ, Bool, true, false, if◌then◌else◌, Option, Some, None, List, [], ◌∷◌, map, slice_get, refl, sym, ap, ◌∙◌}
use Rattle.std.specs.List.{list_all}
use Rattle.std.specs.Option.{option_map}
use Rattle.sc_base.specs.declared.value.Value.TheVariants.{Int, Null, Ptr}
use Rattle.sc_layout.specs.Layout.{Arrangement, LaidObject}
use Rattle.sc_isa.specs.declared.operand.Operand.{Operand}
use Rattle.sc_isa.specs.declared.operand.Operand.TheVariants.{Here, Landing}
use Rattle.sc_isa.specs.Elements.{Outcome, wrong, element, ints}
use Rattle.node_values.specs.Elements.{element_of}
use Rattle.node_values.specs.Operands.{is_here, is_int, value_in, int_in}

not_true : {A : Type 0} → false ≡ true → A
not_true e = absurd cc

-- the numbers, if all are such
abbrev numbers_if : Bool → List Operand → Option (List ℤ)
numbers_if b os = if b then Some (map int_in os) else None

numbers_more : (os : List Operand) (n : ℤ) (b : Bool) → option_map (λ ns. n ∷ ns) (numbers_if b os) ≡ numbers_if b (Here (Int n) ∷ os)
numbers_more os n true = refl
numbers_more os n false = refl

ints_are : (os : List Operand) → list_all is_here os ≡ true → ints (map value_in os) ≡ numbers_if (list_all is_int os) os
ints_are [] h = refl
ints_are (Here (Int n) ∷ os) h = ap (option_map (λ ns. n ∷ ns)) (ints_are os h) ∙ numbers_more os n (list_all is_int os)
ints_are (Here Null ∷ os) h = refl
ints_are (Here (Ptr object node offset) ∷ os) h = refl
ints_are (Landing counter number ∷ os) h = not_true h

no_element : (layout : Arrangement) (object : ℕ) (laid : Option LaidObject) → wrong ≡ element layout object laid None
no_element layout object None = refl
no_element layout object (Some laid) = refl

chosen : (layout : Arrangement) (object : ℕ) (os : List Operand) (b : Bool)
    → (if b then element layout object (slice_get layout.objects object) (Some (map int_in os)) else wrong)
    ≡ element layout object (slice_get layout.objects object) (numbers_if b os)
chosen layout object os true = refl
chosen layout object os false = no_element layout object (slice_get layout.objects object)

pub element_is : (layout : Arrangement) (object : ℕ) (os : List Operand) → list_all is_here os ≡ true
    → element_of layout object os ≡ element layout object (slice_get layout.objects object) (ints (map value_in os))
element_is layout object os h =
    chosen layout object os (list_all is_int os)
    ∙ ap (element layout object (slice_get layout.objects object)) (sym (ints_are os h))
