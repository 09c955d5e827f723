-- The slab after the message of one key is changed.
use Rattle.std.proofs.Common.{◌≡◌, ◌≢◌, ℕ, cond, List, length, count_by, get_or, Option, Some, None, is_some, refl, sym, ap, ◌∙◌, subst, ⊎_elim, arith}
use Rattle.std.proofs.lemmas.Bool.{cases_eq, cases_lt}
use Rattle.std.proofs.lemmas.List.{get_or-set_same, get_or-set_other, get_or_past, set_past}
use Rattle.std.proofs.lemmas.List.Sums.{sum_by-set}
use Rattle.std.specs.Option.{option_map}
use Rattle.slab.specs.Slab.{Slab, get, slab_len}
use Rattle.msg_pool.specs.declared.slot.Grouping.{Grouping}
use Rattle.msg_pool.specs.declared.slot.Grouping.TheVariants.{Every, Issuer, Target}
use Rattle.msg_pool.specs.declared.slot.Link.{Link}
use Rattle.msg_pool.specs.declared.slot.Slot.{Slot}
use Rattle.msg_pool.specs.Slots.{link_of, with_next, with_previous, changed, link_at}
use Rattle.msg_pool.proofs.Segments.{updated, to_next, to_previous, updated_at, updated_off}

get-changed_same : (change : Slot → Slot) (at : ℕ) (slots : Slab Slot) → get (changed change (Some at) slots) at ≡ option_map change (get slots at)
get-changed_same change at slots =
    ⊎_elim {C = get (changed change (Some at) slots) at ≡ option_map change (get slots at)}
    (λ within. get_or-set_same slots.slots at (option_map change (get slots at)) None within)
    (λ past.
    let none : get slots at ≡ None = get_or_past slots.slots at None past in
    ap (λ (found : List (Option Slot)). get_or found at None) (set_past slots.slots at (option_map change (get slots at)) past) ∙ none ∙ sym (ap (option_map change) none))
    (cases_lt at (length slots.slots))

get-changed_other : (change : Slot → Slot) (at : ℕ) (slots : Slab Slot) (key : ℕ) → key ≢ at → get (changed change (Some at) slots) key ≡ get slots key
get-changed_other change at slots key differs = get_or-set_other slots.slots at key (option_map change (get slots at)) None differs

-- what no change of a message changes is the same for each key
pub kept : {A : Type 0} (seen : Option Slot → A) (change : Slot → Slot) → ((found : Option Slot) → seen (option_map change found) ≡ seen found) → (at : Option ℕ) (slots : Slab Slot) (key : ℕ) → seen (get (changed change at slots) key) ≡ seen (get slots key)
kept seen change same None slots key = refl
kept {A} seen change same (Some at) slots key =
    ⊎_elim {C = seen (get (changed change (Some at) slots) key) ≡ seen (get slots key)}
    (λ here.
    let P : ℕ → Type 0 = λ found. seen (get (changed change (Some at) slots) found) ≡ seen (get slots found) in
    subst P (sym here) (ap seen (get-changed_same change at slots) ∙ same (get slots at)))
    (λ differs. ap seen (get-changed_other change at slots key differs))
    (cases_eq key at)

-- and what it changes in one way, it changes so for that key
pub link_at-changed : (grouping : Grouping) (change : Slot → Slot) (effect : Link → Link) → ((slot : Slot) → link_of grouping (change slot) ≡ effect (link_of grouping slot)) → (at : Option ℕ) (slots : Slab Slot) (key : ℕ) → link_at grouping (changed change at slots) key ≡ updated effect at (link_at grouping slots) key
link_at-changed grouping change effect does None slots key = refl
link_at-changed grouping change effect does (Some at) slots key =
    ⊎_elim {C = link_at grouping (changed change (Some at) slots) key ≡ updated effect (Some at) (link_at grouping slots) key}
    (λ here.
    let P : ℕ → Type 0 = λ found. link_at grouping (changed change (Some at) slots) found ≡ updated effect (Some at) (link_at grouping slots) found in
    subst P (sym here)
    (ap (option_map (link_of grouping)) (get-changed_same change at slots) ∙ of_option grouping change effect does (get slots at)
    ∙ sym (updated_at effect at (link_at grouping slots))))
    (λ differs.
    ap (option_map (link_of grouping)) (get-changed_other change at slots key differs)
    ∙ sym (updated_off effect (Some at) (link_at grouping slots) key (λ e. differs (sym e))))
    (cases_eq key at)
  where
    of_option : (grouping : Grouping) (change : Slot → Slot) (effect : Link → Link) → ((slot : Slot) → link_of grouping (change slot) ≡ effect (link_of grouping slot)) → (found : Option Slot) → option_map (link_of grouping) (option_map change found) ≡ option_map effect (option_map (link_of grouping) found)
    of_option grouping change effect does None = refl
    of_option grouping change effect does (Some slot) = ap (λ link. Some link) (does slot)

pub slab_len-changed : (change : Slot → Slot) (at : Option ℕ) (slots : Slab Slot) → slab_len (changed change at slots) ≡ slab_len slots
slab_len-changed change None slots = refl
slab_len-changed change (Some at) slots =
    ⊎_elim {C = slab_len (changed change (Some at) slots) ≡ slab_len slots}
    (λ within.
    let sums = sum_by-set (λ found. cond (is_some found) 1 0) slots.slots at (option_map change (get slots at)) None within in
    let same = by_option change (get slots at) in
    omega (arith, sums, same))
    (λ past. ap (count_by is_some) (set_past slots.slots at (option_map change (get slots at)) past))
    (cases_lt at (length slots.slots))
  where
    by_option : (change : Slot → Slot) (found : Option Slot) → cond {A = ℕ} (is_some (option_map change found)) 1 0 ≡ cond {A = ℕ} (is_some found) 1 0
    by_option change None = refl
    by_option change (Some slot) = refl

pub capacity-changed : (change : Slot → Slot) (at : Option ℕ) (slots : Slab Slot) → (changed change at slots).capacity ≡ slots.capacity
capacity-changed change None slots = refl
capacity-changed change (Some at) slots = refl

next_does : (grouping : Grouping) (next : Option ℕ) (slot : Slot) → link_of grouping (with_next grouping next slot) ≡ to_next next (link_of grouping slot)
next_does Every next slot = refl
next_does Issuer next slot = refl
next_does Target next slot = refl

previous_does : (grouping : Grouping) (previous : Option ℕ) (slot : Slot) → link_of grouping (with_previous grouping previous slot) ≡ to_previous previous (link_of grouping slot)
previous_does Every previous slot = refl
previous_does Issuer previous slot = refl
previous_does Target previous slot = refl

pub link_at-next : (grouping : Grouping) (next at : Option ℕ) (slots : Slab Slot) (key : ℕ) → link_at grouping (changed (with_next grouping next) at slots) key ≡ updated (to_next next) at (link_at grouping slots) key
link_at-next grouping next at slots key =
    link_at-changed grouping (with_next grouping next) (to_next next) (next_does grouping next) at slots key

pub link_at-previous : (grouping : Grouping) (previous at : Option ℕ) (slots : Slab Slot) (key : ℕ) → link_at grouping (changed (with_previous grouping previous) at slots) key ≡ updated (to_previous previous) at (link_at grouping slots) key
link_at-previous grouping previous at slots key =
    link_at-changed grouping (with_previous grouping previous) (to_previous previous) (previous_does grouping previous) at slots key
