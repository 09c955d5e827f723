-- Lists of waits, and which writes go one-way, where the first demands are known.
use Rattle.std.specs.Prelude.{◌≡◌, ◌↔◌, ℕ, ◌<◌, List, Bool, true, false, Some, length, ltb, Contains, slice_get, slice_index_or}
use Rattle.site_graph.specs.declared.site.Site.{Site}
use Rattle.site_graph.specs.declared.site.SiteKind.TheVariants.{Write}
use Rattle.site_graph.specs.Bits.{Bits, IsSet}
use Rattle.site_graph.specs.Graph.{Graph, kind_at, site_at, is_barrier}
use Rattle.site_graph.specs.Rising.{IsRising}

abbrev pub IsWriteSite : Graph → (number : ℕ) → Type 0
IsWriteSite graph number = (s : Site) × (site_at graph number ≡ Some s) × (s.kind ≡ Write)

-- each of the points before the n-th that is set in the row is a barrier
abbrev pub OnlyBarriers : Graph → (first : Bits) → (number n : ℕ) → Type 0
OnlyBarriers graph first number n = (t : ℕ) → t < n → IsSet first number t →
    is_barrier (kind_at graph t) ≡ true

abbrev pub GoesByFirst : Graph → (first : Bits) → (number : ℕ) → Type 0
GoesByFirst graph first number = IsWriteSite graph number × OnlyBarriers graph first number (length graph.points)

-- for the first n numbers whether the site goes one-way
pub record AreMarks (graph : Graph) (first : Bits) (n : ℕ) (marks : List Bool) : Type 0 where
  pub count : length marks ≡ n
  pub each : (k : ℕ) → k < n → (slice_index_or marks k false ≡ true) ↔ GoesByFirst graph first k

-- the numbers below n that are marked
pub record AreMarked (marks : List Bool) (n : ℕ) (row : List ℕ) : Type 0 where
  pub rising : IsRising ltb row
  pub sites : (s : ℕ) → Contains row s ↔ ((s < n) × (slice_index_or marks s false ≡ true))

-- the sites below the number n of which the point is a first demand, but those that are marked
pub record IsWaitRow (first : Bits) (marks : List Bool) (at n : ℕ) (row : List ℕ) : Type 0 where
  pub rising : IsRising ltb row
  pub sites : (s : ℕ) → Contains row s ↔ ((s < n) × IsSet first s at × (slice_index_or marks s false ≡ false))

-- such a list for each of the first n points
pub record AreWaitRows (first : Bits) (marks : List Bool) (n : ℕ) (rows : List (List ℕ)) : Type 0 where
  pub count : length rows ≡ n
  pub each : (t : ℕ) (row : List ℕ) → slice_get rows t ≡ Some row → IsWaitRow first marks t first.rows row
