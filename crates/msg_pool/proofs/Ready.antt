-- What a step of a chain asks for: that the neighbours it writes to are there, and that the count fits.
use Rattle.std.proofs.Common.{◌≡◌, ℕ, ◌<◌, ◌≤◌, ◌==◌, List, ◌∷◌, ◌++◌, length, Option, Some, None, is_some, sym, ap, ◌∙◌, subst, ⊎_elim, arith, length-append}
use Rattle.std.proofs.lemmas.Bool.{cases_eq}
use Rattle.std.proofs.lemmas.List.Sums.{length-filter, count_by-le-length}
use Rattle.std.specs.Option.{option_map}
use Rattle.slab.specs.Slab.{Slab, get, Updates}
use Rattle.msg_pool.specs.declared.slot.Grouping.{Grouping}
use Rattle.msg_pool.specs.declared.slot.Link.{Link}
use Rattle.msg_pool.specs.declared.slot.Slot.{Slot}
use Rattle.msg_pool.specs.declared.chain.Chain.{Chain}
use Rattle.msg_pool.specs.Chains.{Links, first_or, last_or, neighbours, IsLinked, chain_at, members, AreChains}
use Rattle.msg_pool.specs.Slots.{link_of, link_at, group_at, Holds}
use Rattle.msg_pool.proofs.Segments.{IsLinked-left, IsLinked-right}
use Rattle.msg_pool.proofs.Families.{members_split, some_same}
use Rattle.msg_pool.proofs.Keys.{first_held, last_held, held_holds}

pub tail_holds : (grouping : Grouping) (slots : Slab Slot) (chains : List Chain) (keys : List ℕ) (group : ℕ) → AreChains (link_at grouping slots) (group_at grouping slots) chains keys → Holds slots (chain_at chains group).tail
tail_holds grouping slots chains keys group was =
    let found = members (group_at grouping slots) group keys in
    let P : Option ℕ → Type 0 = λ at. Holds slots at in
    subst P (sym (was group).tail)
    (held_holds slots (link_of grouping) (last_or None found) (last_held (link_at grouping slots) None found None None (was group).linked tt))

pub holds_inserted : (old new : Slab Slot) (key : ℕ) (slot : Slot) → Updates old new key (Some slot) → (at : Option ℕ) → Holds old at → Holds new at
holds_inserted old new key slot updates None held = tt
holds_inserted old new key slot updates (Some at) held =
    ⊎_elim {C = Holds new (Some at)}
    (λ same. ap is_some (ap (get new) same ∙ updates.changed))
    (λ differs. ap is_some (updates.others at differs) ∙ held)
    (cases_eq at key)

pub holds_same : (new old : Slab Slot) → ((key : ℕ) → is_some (get new key) ≡ is_some (get old key)) → (at : Option ℕ) → Holds old at → Holds new at
holds_same new old same None held = tt
holds_same new old same (Some at) held = same at ∙ held

pub count_few : (links : Links) (group_of : ℕ → ℕ) (chains : List Chain) (keys : List ℕ) (group : ℕ) → AreChains links group_of chains keys → (chain_at chains group).count ≤ length keys
count_few links group_of chains keys group was =
    omega (arith, (was group).count, length-filter (λ key. group_of key == group) keys, count_by-le-length (λ key. group_of key == group) keys)

pub count_some : (links : Links) (group_of : ℕ → ℕ) (chains : List Chain) (xs : List ℕ) (key : ℕ) (ys : List ℕ) → AreChains links group_of chains (xs ++ key ∷ ys) → 0 < (chain_at chains (group_of key)).count
count_some links group_of chains xs key ys was =
    let mine = group_of key in
    let counted : (chain_at chains mine).count ≡ length (members group_of mine xs ++ key ∷ members group_of mine ys) =
    (was mine).count ∙ ap length (members_split group_of xs key ys) in
    omega (arith, counted, length-append (members group_of mine xs) (key ∷ members group_of mine ys))

-- both neighbours of a message on a list are there
pub neighbours_hold : (grouping : Grouping) (slots : Slab Slot) (chains : List Chain) (xs : List ℕ) (key : ℕ) (ys : List ℕ) (slot : Slot) → AreChains (link_at grouping slots) (group_at grouping slots) chains (xs ++ key ∷ ys) → get slots key ≡ Some slot → Holds slots (link_of grouping slot).next × Holds slots (link_of grouping slot).previous
neighbours_hold grouping slots chains xs key ys slot was here =
    let links : Links = link_at grouping slots in
    let mine = group_at grouping slots key in
    let left = members (group_at grouping slots) mine xs in
    let right = members (group_at grouping slots) mine ys in
    let P : List ℕ → Type 0 = λ found. IsLinked links None found None in
    let linked : IsLinked links None (left ++ key ∷ right) None = subst P (members_split (group_at grouping slots) xs key ys) (was mine).linked in
    let behind = IsLinked-right links None left (key ∷ right) None linked in
    let before = IsLinked-left links None left (key ∷ right) None linked in
    let same : neighbours (last_or None left) (first_or right None) ≡ link_of grouping slot =
    some_same (sym behind.0 ∙ ap (option_map (link_of grouping)) here) in
    let Q : Link → Type 0 = λ link. Holds slots link.next × Holds slots link.previous in
    subst Q same (
      held_holds slots (link_of grouping) (first_or right None) (first_held links (Some key) right None behind.1),
      held_holds slots (link_of grouping) (last_or None left) (last_held links None left (Some key) None before tt),
    )
