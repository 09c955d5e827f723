-- The flat index of an element, as far as it fits a word: past the greatest word there is no cell.
use Rattle.std.specs.Prelude.{ℕ, ◌+◌, ◌-◌, ◌*◌, ◌^◌, min, ℤ, pos, negsuc, nat_lt, if◌then◌else◌, Option, Some, None, List, [], ◌∷◌, map, slice_get}
use Rattle.std.specs.List.{list_all}
use Rattle.std.specs.Option.{option_map_or}
use Rattle.sc_layout.specs.Layout.{Arrangement}
use Rattle.sc_isa.specs.declared.operand.Operand.{Operand}
use Rattle.sc_isa.specs.Elements.{Flat, within, outside, amiss, Outcome, wrong, element}
use Rattle.node_values.specs.declared.element.Flat.{Flat as Indexed}
use Rattle.node_values.specs.declared.element.Flat.TheVariants.{Within, Outside, Amiss}
use Rattle.node_values.specs.Operands.{is_int, int_in}

abbrev pub plain_flat : Indexed → Flat
plain_flat (Within flat) = within flat
plain_flat Outside = outside
plain_flat Amiss = amiss

abbrev pub bounds_of : Arrangement → ℕ → List ℕ
bounds_of layout object = option_map_or (λ o. o.bounds) (slice_get layout.objects object) []

abbrev pub short : ℕ → ℕ
short n = min n (2 ^ 64 - 1)

-- by one more index, if there is a bound for it
abbrev pub next_flat : Option ℕ → ℤ → ℕ → Flat
next_flat None i flat = amiss
next_flat (Some bound) (pos i) flat = if nat_lt i bound then within (short (short (flat * bound) + i)) else outside
next_flat (Some bound) (negsuc i) flat = outside

-- after all indices, where a missing last one is 0
abbrev pub last_flat : Option ℕ → Option ℕ → ℕ → Flat
last_flat None more flat = within flat
last_flat (Some bound) None flat = within (short (flat * bound))
last_flat (Some bound) (Some more) flat = amiss

abbrev pub short_flat : List ℕ → List ℤ → ℕ → Flat
short_flat [] [] flat = within flat
short_flat (bound ∷ []) [] flat = within (short (flat * bound))
short_flat (bound ∷ bounds) (pos i ∷ is) flat =
    if nat_lt i bound then short_flat bounds is (short (short (flat * bound) + i)) else outside
short_flat (bound ∷ bounds) (negsuc i ∷ is) flat = outside
short_flat _ _ flat = amiss

-- the element at these operands
abbrev pub element_of : Arrangement → ℕ → List Operand → Outcome
element_of layout object operands =
    if list_all is_int operands
    then element layout object (slice_get layout.objects object) (Some (map int_in operands))
    else wrong
