-- The rows of a memory before any write hold what the cells of a layout begin with.
use Rattle.std.proofs.Common.{◌≡◌, ℕ, zero, suc, ◌+◌, ◌*◌, ◌<◌, ◌≤◌, List, [], ◌∷◌, ◌++◌, Option, Some, None, take, get_or, add-one, rules, refl, sym, ap, ◌∙◌, subst, arith, length, replicate}
use Rattle.std.specs.Prelude.{slice_get, IsSomeAnd}
use Rattle.std.specs.Option.{option_map, option_map_or}
use Rattle.std.proofs.lemmas.Nat.{mul-add-lt}
use Rattle.std.proofs.lemmas.Option.{slice_get-map, slice_get_within, get_or_from_slice_get}
use Rattle.std.proofs.Math.Seq.{take-suc}
use Rattle.sc_base.specs.declared.value.Value.{Value}
use Rattle.sc_base.specs.declared.value.Place.{Place}
use Rattle.sc_base.specs.declared.shape.Star.{Star}
use Rattle.sc_base.specs.declared.shape.Ty.{Ty}
use Rattle.sc_layout.specs.Layout.{Arrangement, LaidObject, cells_of}
use Rattle.sc_layout.specs.Place.{IsPlace, Fits, FitsType}
use Rattle.sc_layout.specs.Start.{zero_of, zero_in, start}
use Rattle.sc_layout.proofs.Kept.{cells-le-first}
use Rattle.node_memory.specs.Rows.{row_at_start, rows_at_start}
use Rattle.node_memory.specs.Memory.{Memory, row_or_none, index_at, Holds, AllFit}

-- the memory of a layout before any write
abbrev pub memory_at_start : Arrangement → Memory
memory_at_start layout = record { layout = layout; rows = rows_at_start layout }

get_replicated : (n i : ℕ) (v : Value) → i < n → slice_get (replicate n v) i ≡ Some v
get_replicated zero i v h = absurd (omega arith)
get_replicated (suc n) zero v h = refl
get_replicated (suc n) (suc i) v h = get_replicated n i v (omega arith)

-- a cell within the row of an object begins with the object's value
row-at : (nodes offset node : ℕ) (o : Option LaidObject) → node < nodes → offset < option_map_or (λ o. cells_of nodes o node) o 0
    → slice_get (row_or_none (option_map (λ o. row_at_start nodes o) o)) (offset * nodes + node) ≡ Some (zero_in o)
row-at nodes offset node None within h = absurd (omega arith)
row-at nodes offset node (Some o) within h =
    let least : cells_of nodes o node ≤ cells_of nodes o 0 = cells-le-first nodes o node (omega arith) in
    let first : offset < cells_of nodes o 0 = omega arith in
    get_replicated (nodes * cells_of nodes o 0) (offset * nodes + node) (zero_of o.shape.ty.stars) (mul-add-lt offset nodes node (cells_of nodes o 0) first within)

pub holds_start : (layout : Arrangement) → Holds (memory_at_start layout) (start layout)
holds_start layout place p =
    ap (λ r. slice_get (row_or_none r) (index_at layout.nodes place)) (slice_get-map (λ o. row_at_start layout.nodes o) layout.objects place.object)
    ∙ row-at layout.nodes place.offset place.node (slice_get layout.objects place.object) p.node p.offset

zero_fits : (layout : Arrangement) (ty : Ty) (stars : List Star) → ty.stars ≡ stars → FitsType layout ty (zero_of stars)
zero_fits layout ty [] e = (e, search rules)
zero_fits layout ty (s ∷ ss) e = λ none. (let both : s ∷ ss ≡ [] = sym e ∙ none in cc)

start_in_fits : (layout : Arrangement) (nodes node offset : ℕ) (o : Option LaidObject) → offset < option_map_or (λ o. cells_of nodes o node) o 0
    → IsSomeAnd o (λ o. FitsType layout o.shape.ty (zero_of o.shape.ty.stars))
start_in_fits layout nodes node offset None h = absurd (omega arith)
start_in_fits layout nodes node offset (Some o) h = zero_fits layout o.shape.ty o.shape.ty.stars refl

fits_of : (layout : Arrangement) (o : Option LaidObject) → IsSomeAnd o (λ o. FitsType layout o.shape.ty (zero_of o.shape.ty.stars))
    → IsSomeAnd o (λ x. FitsType layout x.shape.ty (zero_in o))
fits_of layout None h = h
fits_of layout (Some o) h = h

-- what a cell begins with fits it
pub start_fits : (layout : Arrangement) (place : Place) → IsPlace layout place → Fits layout place (start layout place)
start_fits layout place p =
    fits_of layout (slice_get layout.objects place.object)
    (start_in_fits layout layout.nodes place.node place.offset (slice_get layout.objects place.object) p.offset)

pub all_fit_start : (layout : Arrangement) → AllFit (memory_at_start layout)
all_fit_start layout place p =
    subst (λ o. IsSomeAnd o (λ value. Fits layout place value)) (sym (holds_start layout place p)) (start_fits layout place p)

-- one row more
pub one_row : (before after all : List (List Value)) (i : ℕ) (r : List Value) → before ≡ take i all → after ≡ before ++ r ∷ [] → slice_get all i ≡ Some r → after ≡ take (i + 1) all
one_row before after all i r b a at =
    let within : i < length all = slice_get_within all i r at in
    let is : get_or all i r ≡ r = get_or_from_slice_get all i r r at in
    a ∙ ap (λ l. l ++ r ∷ []) b ∙ ap (λ x. take i all ++ x ∷ []) (sym is) ∙ sym (rw add-one (take-suc all i r within))
