-- The law of histories of the smallest run with a barrier: an item is allowed where all that it needs was taken, and
-- where what it reads is what the places hold.
use Rattle.std.specs.Prelude.{ℕ, zero, suc, List, [], ◌∷◌, map, filter, ltb, Bool, true, false, not, ◌==◌, ◌&&◌, ◌||◌}
use Rattle.sc_base.specs.declared.value.Place.{Place}
use Rattle.sc_base.specs.declared.value.Value.{Value}
use Rattle.effect_order.specs.Effect.{Effect, same_value, held}
use Rattle.effect_order.specs.Items.{memory_of}
use Rattle.effect_order.specs.Rules.{Sorted}
use Rattle.effect_order.specs.Meeting.{Row, rows, release, has_effect, arrives, line, at_start}

abbrev pub of_node : Row → Row → Bool
of_node a b = (a.node == b.node) && not b.is_release

-- an own step needs the node's earlier ones and its blocking effects
abbrev pub needs_own : Row → Row → Bool
needs_own a b =
    of_node a b && (ltb a.step b.step && (not a.is_release && (not (has_effect a.does) || line.is_blocking a.point)))

-- a part needs its issue, and a copy's write its read
abbrev pub needs_issue : Row → Row → Bool
needs_issue a b = of_node a b && ((a.step == b.step) && (has_effect b.does && ltb a.number b.number))

-- a sync needs the effects of the split accesses before it
abbrev pub needs_split : Row → Row → Bool
needs_split a b =
    of_node a b && ltb a.step b.step && has_effect a.does && line.is_split a.point && not (has_effect b.does) &&
    line.is_sync b.point

-- the release needs the arrivals and the effects of the stores, and what follows the arrivals needs the release
abbrev pub needs_release : Row → Row → Bool
needs_release a b =
    (b.is_release && (arrives a || (has_effect a.does && (a.point == 2)))) || (a.is_release && ltb 4 b.step)

-- the source needs the first before the second
abbrev pub needs : Row → Row → Bool
needs a b = needs_own a b || (needs_issue a b || (needs_split a b || needs_release a b))

-- the row is one of these
abbrev pub is_in : Row → List Row → Bool
is_in a [] = false
is_in a (b ∷ bs) = (a.number == b.number) || is_in a bs

-- each of these that x needs was taken
abbrev pub all_taken : List Row → Row → List Row → Bool
all_taken past x [] = true
all_taken past x (a ∷ others) = (not (needs a x) || is_in a past) && all_taken past x others

-- what is read is what the places hold
abbrev pub is_shown : (Place → Value) → List Effect → Bool
is_shown memory [] = true
is_shown memory (effect ∷ earlier) =
    (effect.wrote || same_value effect.value (held memory effect.place earlier)) && is_shown memory earlier

abbrev pub may_follow : List Row → Row → Bool
may_follow past x = all_taken past x rows && is_shown (memory_of (λ e. e.does) at_start past) x.does

-- the row with this number
abbrev pub row_at : List Row → ℕ → Row
row_at [] n = release 0 0
row_at (e ∷ es) zero = e
row_at (e ∷ es) (suc n) = row_at es n

-- the rows with these numbers
abbrev pub rows_at : List ℕ → List Row
rows_at numbers = map (row_at rows) numbers

-- the own steps of node 0, and of node 1
abbrev pub steps_of : Bool → List Row
steps_of true = rows_at (0 ∷ 2 ∷ 7 ∷ 13 ∷ 10 ∷ 17 ∷ 19 ∷ 21 ∷ [])
steps_of false = rows_at (3 ∷ 5 ∷ 9 ∷ 12 ∷ 11 ∷ 18 ∷ 20 ∷ 22 ∷ [])

-- the rows by their kinds
abbrev pub sorted : Sorted Row
sorted = record {
  nodes = 2;
  own = λ p. steps_of (p == 0);
  is_effect = λ e. has_effect e.does;
  releases = row_at rows 16 ∷ [];
  effects = filter (λ e. has_effect e.does) rows;
}
