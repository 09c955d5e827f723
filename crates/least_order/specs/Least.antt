-- The least order of the numbers below a bound, of which some have to come before others: again and again the least
-- number left before which none of those left has to come. It is the topological sorting of Knuth, "The Art of Computer
-- Programming", 2.2.3, with the least of those that are ready.
use Rattle.std.specs.Prelude.{ℕ, ◌<◌, List, [], ◌∷◌, length, Option, Some, None, Bool, false, not, ◌==◌, ◌&&◌, ◌||◌}
use Rattle.std.specs.Prelude.{if◌then◌else◌}
use Rattle.std.specs.List.{range_with_len}
use Rattle.effect_order.specs.Greedy.{grow}
use Rattle.effect_order.specs.Lists.{is_held}
use Rattle.least_order.specs.declared.edge.Edge.{Edge}

-- both items are below the bound
pub record IsWithin (count : ℕ) (edge : Edge) : Type 0 where
  pub before_within : edge.before < count
  pub after_within : edge.after < count

-- the edge leads from a to b
abbrev pub joins : Edge → ℕ → ℕ → Bool
joins edge a b = (edge.before == a) && (edge.after == b)

-- some edge does
abbrev pub leads : List Edge → ℕ → ℕ → Bool
leads [] a b = false
leads (edge ∷ edges) a b = joins edge a b || leads edges a b

-- no edge leads to x from one of those left
abbrev pub is_free : List Edge → List ℕ → List ℕ → ℕ → Bool
is_free edges past left x = not (is_held (leads edges) x left)

-- the items that are taken, in their order
abbrev pub taken : List Edge → (count : ℕ) → List ℕ
taken edges count = grow (is_free edges) count [] (range_with_len 0 count)

-- the least order, where every item is taken
abbrev pub least_order : List Edge → (count : ℕ) → Option (List ℕ)
least_order edges count = if length (taken edges count) == count then Some (taken edges count) else None
