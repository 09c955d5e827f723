-- What the cells of a node begin with.
use Rattle.std.proofs.Common.{◌≡◌, ℕ, zero, suc, ◌+◌, ◌<◌, List, [], ◌∷◌, ◌++◌, Option, Some, None, take, get_or, add-one, refl, sym, ap, ◌∙◌, arith, length, replicate}
use Rattle.std.specs.Prelude.{slice_get, slice_set, ◌≤◌}
use Rattle.std.specs.Option.{option_map, option_map_or}
use Rattle.std.proofs.lemmas.Option.{slice_get-map, slice_get_within, get_or_from_slice_get}
use Rattle.std.proofs.Math.Seq.{take-suc}
use Rattle.sc_base.specs.declared.value.Value.{Value}
use Rattle.sc_layout.specs.Layout.{Arrangement, LaidObject, cells_of}
use Rattle.sc_layout.specs.Place.{extent_of}
use Rattle.sc_layout.specs.Start.{zero_in}
use Rattle.replay_tables.specs.Cells.{object_start, node_start}

some_object : (layout : Arrangement) (node : ℕ) (o : Option LaidObject) (x : LaidObject) → o ≡ Some x
    → option_map (object_start layout node) o ≡ Some (replicate (option_map_or (λ o. cells_of layout.nodes o node) o 0) (zero_in o))
some_object layout node None x e = absurd cc
some_object layout node (Some y) x e = refl

none_past : {A : Type 0} (xs : List A) (i : ℕ) → i < length xs → None ≡ slice_get xs i → ⊥
none_past [] i lt e = omega arith
none_past (x ∷ xs) zero lt e = cc
none_past (x ∷ xs) (suc i) lt e = none_past xs i (omega arith) e

-- so many cells, each with the object's value
pub object_is : (layout : Arrangement) (node object : ℕ) (values : List Value) (extent : ℕ) (value : Value)
    → object < length layout.objects → extent ≡ extent_of layout node object → value ≡ zero_in (slice_get layout.objects object)
    → values ≡ replicate extent value → slice_get (node_start layout node) object ≡ Some values
object_is layout node object values extent value h e v r =
    slice_get-map (object_start layout node) layout.objects object
    ∙ by (slice_get layout.objects object) refl
    ∙ ap Some (sym (r ∙ ap (λ n. replicate n value) e ∙ ap (replicate (extent_of layout node object)) v))
  where
    by : (o : Option LaidObject) → o ≡ slice_get layout.objects object
        → option_map (object_start layout node) (slice_get layout.objects object)
        ≡ Some (replicate (extent_of layout node object) (zero_in (slice_get layout.objects object)))
    by None g = absurd (none_past layout.objects object h g)
    by (Some x) g = some_object layout node (slice_get layout.objects object) x (sym g)

-- one object more
pub one_more : (before after all : List (List Value)) (i : ℕ) (r : List Value) → before ≡ take i all
    → after ≡ before ++ r ∷ [] → slice_get all i ≡ Some r → after ≡ take (i + 1) all
one_more before after all i r b a at =
    let within : i < length all = slice_get_within all i r at in
    let is : get_or all i r ≡ r = get_or_from_slice_get all i r r at in
    a ∙ ap (λ l. l ++ r ∷ []) b ∙ ap (λ x. take i all ++ x ∷ []) (sym is) ∙ sym (rw add-one (take-suc all i r within))

-- nothing is set past the end
pub set_past : {A : Type 0} (xs : List A) (i : ℕ) (v : A) → length xs ≤ i → slice_set xs i v ≡ xs
set_past [] i v h = refl
set_past (x ∷ xs) zero v h = absurd (omega arith)
set_past (x ∷ xs) (suc i) v h = ap (λ ys. x ∷ ys) (set_past xs i v (omega arith))
