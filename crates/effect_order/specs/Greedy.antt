-- The source order of a run's items: again and again the first item that a law of histories allows after those taken,
-- and before which no conflicting earlier item is left. What it is to be, and what the law has to be for it.
use Rattle.std.specs.Prelude.{◌≡◌, ◌↔◌, ◌⊎◌, ℕ, zero, suc, List, [], ◌∷◌, ◌++◌, length, Bool, true, false, not, ◌&&◌, ◌||◌, cond, Option, Some, None}
use Rattle.sc_base.specs.declared.value.Place.{Place}
use Rattle.sc_base.specs.declared.value.Value.{Value}
use Rattle.effect_order.specs.Effect.{Effect, IsShown}
use Rattle.effect_order.specs.Items.{memory_after, memory_of, Shows, items_conflict}
use Rattle.effect_order.specs.Lists.{In, Each, Pairs, IsDistinct, is_held}
use Rattle.effect_order.specs.Walk.{HasNoCycle}

-- x before those that were left beside the one taken
abbrev pub behind : {X : Type 0} → X → Option (X × List X) → Option (X × List X)
behind x None = None
behind x (Some p) = Some (p.0, x ∷ p.1)

-- the first member that passes the test, and the others
abbrev pub pick_by : {X : Type 0} → (X → Bool) → List X → Option (X × List X)
pick_by test [] = None
pick_by test (x ∷ xs) = cond (test x) (Some (x, xs)) (behind x (pick_by test xs))

-- the one taken, and then what follows from the others
abbrev pub then_rest : {X : Type 0} → (X → List X → List X) → Option (X × List X) → List X
then_rest f None = []
then_rest f (Some p) = p.0 ∷ f p.0 p.1

-- up to n times the first member left that may be taken after those taken, the newest first, and beside those left
abbrev pub grow : {X : Type 0} → (List X → List X → X → Bool) → ℕ → List X → List X → List X
grow may_take zero past left = []
grow may_take (suc n) past left =
    then_rest (λ x rest. grow may_take n (x ∷ past) rest) (pick_by (may_take past left) left)

-- the law of histories allows x after those taken, and no item left that is earlier in the run conflicts with it
abbrev pub may_take : {X : Type 0} →
    (X → List Effect) → (X → X → Bool) → (List X → X → Bool) → List X → List X → X → Bool
may_take does earlier allowed past left x =
    allowed past x && not (is_held (λ a b. items_conflict does a b && earlier a b) x left)

-- The source order of all items; where several may be taken, the first of them in the list is. `does` gives the
-- effects of an item, `earlier` says that the first item comes before the second in the run, and `allowed` is the law
-- of histories.
abbrev pub ordered : {X : Type 0} → (X → List Effect) → (X → X → Bool) → (List X → X → Bool) →
    List X → List X
ordered does earlier allowed all = grow (may_take does earlier allowed) (length all) [] all

-- each item is allowed after those before it; past: those before the list, the newest first
abbrev pub IsAllowed : {X : Type 0} → (List X → X → Bool) → List X → List X → Type 0
IsAllowed allowed past [] = Unit {0}
IsAllowed allowed past (x ∷ out) = (allowed past x ≡ true) × IsAllowed allowed (x ∷ past) out

-- by the law of histories, or as an earlier item that conflicts with it, a has to come before b
abbrev pub comes_before : {X : Type 0} → (X → List Effect) → (X → X → Bool) → (X → X → Bool) →
    X → X → Bool
comes_before does earlier needs a b = needs a b || (items_conflict does a b && earlier a b)

-- the members of left in another order, each of which is taken when none of those left has to come before it
abbrev pub Reorder : {X : Type 0} → (X → X → Bool) → List X → List X → Type 0
Reorder before left [] = left ≡ []
Reorder {X} before left (x ∷ out) =
    (us vs : List X) × (left ≡ us ++ x ∷ vs) × (is_held before x left ≡ false) × Reorder before (us ++ vs) out

-- each item comes after all members of `all` that have to come before it; past: those before the list, the newest first
abbrev pub Lawful : {X : Type 0} → (X → X → Bool) → List X → List X → List X → Type 0
Lawful before all past [] = Unit {0}
Lawful before all past (x ∷ out) = Each (λ a. before a x ≡ true → In a past) all
    × Lawful before all (x ∷ past) out

-- what the source order is: all items, each after what it needs, with the values and the memory of the run
pub record IsSourced {X : Type 0}
    (does : X → List Effect) (start : Place → Value) (before : X → X → Bool) (all out : List X) : Type 0 where
  -- every item is taken once, when none of those left has to come before it
  pub reorder : Reorder before all out
  -- each item comes after all that have to come before it
  pub lawful : Lawful before all [] out
  -- each read shows the last write before it
  pub shows : Shows does start out
  -- in the end the places hold what they do in the run
  pub memory : memory_after does start out ≡ memory_after does start all

-- the relation among the members of a list
abbrev pub Among : {X : Type 0} → (X → X → Bool) → List X → X → X → Type 0
Among before all a b = In a all × In b all × (before a b ≡ true)

-- each of those taken, the newest first, came after those that it needs
abbrev pub Closed : {X : Type 0} → (X → X → Bool) → List X → List X → Type 0
Closed needs all [] = Unit {0}
Closed needs all (x ∷ past) = Each (λ a. needs a x ≡ true → In a past) all × Closed needs all past

-- each of those taken, the newest first, was allowed after those before it
abbrev pub WereAllowed : {X : Type 0} → (List X → X → Bool) → List X → Type 0
WereAllowed allowed [] = Unit {0}
WereAllowed allowed (x ∷ past) = (allowed past x ≡ true) × WereAllowed allowed past

-- what holds of those taken and those left while the order grows
pub record Reached {X : Type 0}
    (does : X → List Effect) (start : Place → Value) (earlier needs : X → X → Bool)
    (allowed : List X → X → Bool)
    (all past left : List X) : Type 0 where
  -- each item was taken or is left
  pub cover : Each (λ a. In a past ⊎ In a left) all
  -- those taken are items
  pub past_within : Each (λ a. In a all) past
  -- those left are items
  pub left_within : Each (λ a. In a all) left
  -- none of those left was taken
  pub apart : Each (λ a. In a past → ⊥) left
  -- none was taken twice
  pub past_distinct : IsDistinct past
  -- none is left twice
  pub distinct : IsDistinct left
  -- each was taken after those that have to come before it
  pub closed : Closed (comes_before does earlier needs) all past
  -- each was taken when it was allowed
  pub were_allowed : WereAllowed allowed past
  -- conflicting items are left in their order
  pub order : Pairs (λ a x. items_conflict does a x ≡ true → comes_before does earlier needs a x ≡ true) left
  -- taken in that order they show their values
  pub shows : Shows does (memory_of does start past) left

-- What the law of histories has to be: it allows an item that is left exactly where all that the item needs was taken,
-- and what the item reads is what the places hold.
abbrev pub AllowedIs : {X : Type 0} →
    (X → List Effect) → (Place → Value) → (X → X → Bool) → (X → X → Bool) →
    (List X → X → Bool) → List X → Type 0
AllowedIs {X} does start earlier needs allowed all =
    (past left : List X) (x : X) → Reached does start earlier needs allowed all past left → In x left →
    (allowed past x ≡ true) ↔
    (Each (λ a. needs a x ≡ true → In a past) all × IsShown (memory_of does start past) (does x))

-- what has to hold of the items for the source order to be what it is to be
pub record Orderable {X : Type 0}
    (does : X → List Effect) (start : Place → Value) (earlier needs : X → X → Bool)
    (allowed : List X → X → Bool)
    (all : List X) : Type 0 where
  -- what has to come before what has no cycle
  pub no_cycle : HasNoCycle (Among (comes_before does earlier needs) all)
  -- no item stands twice
  pub distinct : IsDistinct all
  -- the items stand in the order of the run, where they conflict
  pub in_order : Pairs (λ a x. items_conflict does a x ≡ true → earlier a x ≡ true) all
  -- the run's reads show the last write before them
  pub shows : Shows does start all
  -- the law of histories is what it has to be
  pub allowed_is : AllowedIs does start earlier needs allowed all
