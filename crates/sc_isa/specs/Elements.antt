-- The cell of an object at its indices: the row-major order of the C standard, each index tested against its own
-- bound.
use Rattle.std.specs.Prelude.{ℕ, ◌+◌, ◌*◌, ℤ, pos, negsuc, nat_lt, if◌then◌else◌, Option, Some, None, List, [], ◌∷◌}
use Rattle.std.specs.Option.{option_map}
use Rattle.sc_base.specs.declared.value.FaultKind.{FaultKind}
use Rattle.sc_base.specs.declared.value.FaultKind.TheVariants.{Index}
use Rattle.sc_base.specs.declared.value.Place.{Place}
use Rattle.sc_base.specs.declared.value.Value.{Value}
use Rattle.sc_base.specs.declared.value.Value.TheVariants.{Int, Ptr}
use Rattle.sc_layout.specs.Layout.{LaidObject, Arrangement}
use Rattle.sc_layout.specs.Place.{place_of}

-- a value, a fault, or that the values are of a wrong kind or number
pub data Outcome : Type 0 where
  gives : Value → Outcome
  fails : FaultKind → Outcome
  wrong : Outcome

pub data Flat : Type 0 where
  within : ℕ → Flat
  outside : Flat
  amiss : Flat

-- The flat index by Horner's rule over the bounds in order, each index tested against its own bound; a missing last
-- index is 0.
abbrev pub flat_index : List ℕ → List ℤ → ℕ → Flat
flat_index [] [] flat = within flat
flat_index (bound ∷ []) [] flat = within (flat * bound)
flat_index (bound ∷ bounds) (pos i ∷ is) flat =
    if nat_lt i bound then flat_index bounds is (flat * bound + i) else outside
flat_index (bound ∷ bounds) (negsuc i ∷ is) flat = outside
flat_index _ _ flat = amiss

-- the whole numbers, where all values are such
abbrev pub and_int : Value → Option (List ℤ) → Option (List ℤ)
and_int (Int n) ns = option_map (λ ns. n ∷ ns) ns
and_int _ ns = None

abbrev pub ints : List Value → Option (List ℤ)
ints [] = Some []
ints (value ∷ values) = and_int value (ints values)

abbrev pub pointer_to : Option Place → Outcome
pointer_to (Some place) = gives (Ptr place.object place.node place.offset)
pointer_to None = fails Index

-- of an ordinary object it is a local pointer, whose node is 0
abbrev pub pointer_at_flat : Arrangement → ℕ → Flat → Outcome
pointer_at_flat layout object (within flat) = pointer_to (place_of layout 0 object flat)
pointer_at_flat layout object outside = fails Index
pointer_at_flat layout object amiss = wrong

abbrev pub element : Arrangement → ℕ → Option LaidObject → Option (List ℤ) → Outcome
element layout object (Some laid) (Some indices) = pointer_at_flat layout object (flat_index laid.bounds indices 0)
element layout object _ _ = wrong
