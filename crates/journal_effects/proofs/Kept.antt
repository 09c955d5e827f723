-- What code keeps of the effects: the values of parts, and what was last written to each cell.
use Rattle.std.proofs.Common.{◌≡◌, ℕ, ◌+◌, List, [], ◌∷◌, ◌++◌, map, reverse, Option, Some, None, unwrap_or, Bool, true, false, ◌==◌, ◌&&◌, if◌then◌else◌, refl, sym, ap, ap₂, ◌∙◌, add-one, eq-eqb}
use Rattle.std.proofs.lemmas.List.{map-append, reverse-append}
use Rattle.std.specs.Bool.{beq}
use Rattle.std.specs.HashMap.{HashMap, Updates}
use Rattle.sc_base.specs.declared.value.Place.{Place}
use Rattle.sc_base.specs.declared.value.Value.{Value}
use Rattle.effect_order.specs.Effect.{Effect, held, same_place}
use Rattle.effect_order.specs.Transfer.{Transfer, same_flag}
use Rattle.std.specs.Option.{option_map}
use Rattle.fabric.specs.Effects.{occurs_on, cell_at_issue, at_issue}
use Rattle.journal_effects.specs.declared.effect.CellEffect.{CellEffect}
use Rattle.journal_effects.specs.Occurred.{effect_of, newest_first, PartKey, same_part, ArePartsOf, CellKey, same_cell, last_written, IsWrittenBy}

-- one effect more
pub newest_push : (effects : List CellEffect) (e : CellEffect) → newest_first (effects ++ e ∷ []) ≡ effect_of e ∷ newest_first effects
newest_push effects e =
    ap reverse (map-append effect_of effects (e ∷ [])) ∙ reverse-append (map effect_of effects) (effect_of e ∷ [])

-- what a place holds, by what was last written there
pub held_is : (start : Place → Value) (place : Place) (earlier : List Effect) →
    unwrap_or (last_written place earlier) (start place) ≡ held start place earlier
held_is start place [] = refl
held_is start place (e ∷ earlier) = by (e.wrote && same_place e.place place) (held_is start place earlier)
  where
    by : (b : Bool) → unwrap_or (last_written place earlier) (start place) ≡ held start place earlier →
        unwrap_or (if b then Some e.value else last_written place earlier) (start place) ≡ (if b then e.value else held start place earlier)
    by true rest = refl
    by false rest = rest

-- it is what was noted
pub held_found : (start : Place → Value) (place : Place) (earlier : List Effect) (o : Option Value) (value : Value) →
    o ≡ last_written place earlier → o ≡ Some value → value ≡ held start place earlier
held_found start place earlier o value is some =
    ap (λ o. unwrap_or o (start place)) (sym some ∙ is) ∙ held_is start place earlier

-- it is what the place held at the start
pub held_begun : (start : Place → Value) (place : Place) (earlier : List Effect) (o : Option Value) (value : Value) →
    o ≡ last_written place earlier → o ≡ None → value ≡ start place → value ≡ held start place earlier
held_begun start place earlier o value is none begun =
    begun ∙ ap (λ o. unwrap_or o (start place)) (sym none ∙ is) ∙ held_is start place earlier

same_test : (a b : Bool) → beq a b ≡ same_flag a b
same_test true true = refl
same_test true false = refl
same_test false true = refl
same_test false false = refl

-- the effect's part is noted
pub parts_more : {S : Type 0} (old new : HashMap PartKey Value S) (e : CellEffect) →
    Updates same_part old new (e.node, e.number, e.cell, e.wrote) (Some e.value) → (earlier : List Effect) →
    ArePartsOf old earlier → ArePartsOf new (effect_of e ∷ earlier)
parts_more old new e noted earlier are = λ node number cell wrote.
    noted.0 (node, number, cell, wrote)
    ∙ ap₂ (λ (b : Bool) (rest : Option Value). if (e.node == node) && (e.number == number) && (e.cell == cell) && b then Some e.value else rest)
    (same_test e.wrote wrote) (are node number cell wrote)

-- what the effect has written is noted
pub written_more : {S : Type 0} (old new : HashMap CellKey Value S) (e : CellEffect) → e.wrote ≡ true →
    Updates same_cell old new (e.place.object, e.place.node, e.place.offset) (Some e.value) → (earlier : List Effect) →
    IsWrittenBy old earlier → IsWrittenBy new (effect_of e ∷ earlier)
written_more old new e wrote noted earlier is = λ place.
    noted.0 (place.object, place.node, place.offset)
    ∙ ap (λ (rest : Option Value). if same_place e.place place then Some e.value else rest) (is place)
    ∙ ap (λ b. if b && same_place e.place place then Some e.value else last_written place earlier) (sym wrote)

-- an effect that only reads leaves what was written
pub written_same : {S : Type 0} (old : HashMap CellKey Value S) (e : CellEffect) → e.wrote ≡ false → (earlier : List Effect) →
    IsWrittenBy old earlier → IsWrittenBy old (effect_of e ∷ earlier)
written_same old e wrote earlier is = λ place.
    is place ∙ ap (λ b. if b && same_place e.place place then Some e.value else last_written place earlier) (sym wrote)

-- one cell more
pub issue_more : (start : Place → Value) (transfer : Transfer) (node number cell : ℕ) (earlier : List Effect) →
    at_issue start transfer node number (cell + 1) earlier
    ≡ cell_at_issue start transfer node number cell (at_issue start transfer node number cell earlier)
issue_more start transfer node number cell earlier = ap (λ n. at_issue start transfer node number n earlier) (add-one cell)

-- an effect on the node
pub own_more : (node : ℕ) (effect : Option CellEffect) (e : CellEffect) (earlier : List Effect) → effect ≡ Some e → e.place.node ≡ node →
    effect_of e ∷ earlier ≡ occurs_on node (option_map effect_of effect) earlier
own_more node effect e earlier is own =
    sym (ap (λ o. occurs_on node (option_map effect_of o) earlier) is
    ∙ ap (λ b. if b then effect_of e ∷ earlier else earlier) (eq-eqb e.place.node node own))
