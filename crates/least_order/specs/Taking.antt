-- How the least order is found: what holds while items are taken one after another.
use Rattle.std.specs.Prelude.{◌≡◌, ℕ, zero, suc, ◌+◌, ◌<◌, List, [], ◌∷◌, length, slice_get, slice_index}
use Rattle.std.specs.Prelude.{Bool, true, false}
use Rattle.std.specs.Prelude.{not, ◌==◌, ◌&&◌, ◌||◌, cond, nat_lt, Some}
use Rattle.std.specs.Option.{option_map_or}
use Rattle.std.specs.List.{sum_by}
use Rattle.std.specs.BinaryHeap.{heap_items, IsHeap}
use Rattle.std.specs.Ordering.{nat_cmp}
use Rattle.std.specs.declared.cmp.Reverse.{Reverse}
use Rattle.least_order.specs.declared.edge.Edge.{Edge}
use Rattle.least_order.specs.declared.links.Links.{Links}
use Rattle.least_order.specs.declared.taking.Taking.{Taking}

abbrev pub bit : Bool → ℕ
bit b = cond b 1 0

abbrev pub is_in : List ℕ → ℕ → Bool
is_in [] x = false
is_in (y ∷ ys) x = (y == x) || is_in ys x

module _ (edges : List Edge) where
  -- the edge with this number has this
  abbrev pub at_edge : (Edge → Bool) → ℕ → Bool
  at_edge test k = option_map_or test (slice_get edges k) false

  -- how many of the first edges, so many of them, pass the test
  abbrev pub how_many : (Edge → Bool) → ℕ → ℕ
  how_many test zero = 0
  how_many test (suc k) = how_many test k + bit (at_edge test k)

  -- the last of the first edges, so many of them, that leads from x, counted from 1; 0 is none
  abbrev pub last : (x : ℕ) → ℕ → ℕ
  last x zero = 0
  last x (suc k) = cond (at_edge (λ e. e.before == x) k) (suc k) (last x k)

-- the edge leads to y from an item that is not taken
abbrev pub is_unmet : (out : List ℕ) (y : ℕ) → Edge → Bool
is_unmet out y edge = (edge.after == y) && not (is_in out edge.before)

-- the edge leads from x to y
abbrev pub is_link : (x y : ℕ) → Edge → Bool
is_link x y edge = (edge.before == x) && (edge.after == y)

pub record AreLinks (edges : List Edge) (count : ℕ) (links : Links) : Type 0 where
  pub items : length links.lasts.items ≡ count
  pub each : length links.earlier.items ≡ length edges
  pub lasts_are : (x : ℕ) → x < count → slice_index links.lasts.items x ≡ last edges x (length edges)
  pub earlier_are : (k : ℕ) (edge : Edge) → slice_get edges k ≡ Some edge →
      slice_index links.earlier.items k ≡ last edges edge.before k

pub record AreCounts (edges : List Edge) (count : ℕ) (counts : List ℕ) : Type 0 where
  pub items : length counts ≡ count
  pub counts_are : (y : ℕ) → y < count → slice_index counts y ≡ how_many edges (is_unmet [] y) (length edges)

-- how often the item stands in the heap
abbrev pub occurs : ℕ → List (Reverse ℕ) → ℕ
occurs y = sum_by (λ (r : Reverse ℕ). bit (r.0 == y))

-- the item is left, and no edge that is counted leads to it
abbrev pub is_ready : (count : ℕ) (out counts : List ℕ) (y : ℕ) → Bool
is_ready count out counts y = nat_lt y count && (not (is_in out y) && (slice_index counts y == 0))

-- The edges from x whose number is below `at` are counted still, though x is taken; so are all edges from items left.
pub record IsAt (edges : List Edge) (count x at : ℕ) (out counts : List ℕ)
    (ready : List (Reverse ℕ)) : Type 0 where
  pub items : length counts ≡ count
  pub counts_are : (y : ℕ) → y < count →
      slice_index counts y ≡ how_many edges (is_unmet out y) (length edges) + how_many edges (is_link x y) at
  pub met : (y : ℕ) → is_in out y ≡ true → slice_index counts y ≡ 0
  pub ready_are : (y : ℕ) → occurs y ready ≡ bit (is_ready count out counts y)
  pub ordered : IsHeap (λ a b. nat_cmp b.0 a.0) ready

-- the same of what was taken
abbrev pub StandsAt : List Edge → (count x at : ℕ) → Taking → Type 0
StandsAt edges count x at taking =
    IsAt edges count x at taking.order.items taking.counts.items (heap_items taking.ready)

-- exactly the edges from items left are counted
abbrev pub Stands : List Edge → (count : ℕ) → Taking → Type 0
Stands edges count taking = StandsAt edges count 0 0 taking

-- no item is taken
pub record IsBegun (edges : List Edge) (count : ℕ) (taking : Taking) : Type 0 where
  pub none : taking.order.items ≡ []
  pub stands : Stands edges count taking
