-- How pairs of sites that meet are found: phase after phase.
use Rattle.std.specs.Prelude.{◌≡◌, ◌⊎◌, ◌↔◌, ℕ, ◌+◌, ◌<◌, ◌≤◌, List, true, length, slice_index}
use Rattle.site_graph.specs.declared.point.PointKind.{PointKind}
use Rattle.site_graph.specs.declared.point.PointKind.TheVariants.{Start}
use Rattle.site_graph.specs.Bits.{Bits, IsSet, IsOf}
use Rattle.site_graph.specs.Graph.{Graph, IsAt, is_barrier}
use Rattle.site_graph.specs.Kept.{IsSiteOf}
use Rattle.site_graph.specs.Plans.{Blocks}
use Rattle.site_graph.specs.Ways.{Clear}
use Rattle.phase_map.specs.Meeting.{BeginsPhase}

abbrev pub Begins : PointKind → Type 0
Begins kind = (kind ≡ Start) ⊎ (is_barrier kind ≡ true)

-- all sites in the first row, and in the second those that are not blocking
abbrev pub AreSiteRows : Graph → Bits → Type 0
AreSiteRows graph bits =
    IsOf 2 (length graph.sites + 1) (λ r a. IsSiteOf graph a × ((r ≡ 0) ⊎ (Blocks graph a → ⊥))) bits

-- the row of those that the site meets outside of phases
abbrev pub IsRowFor : Graph → (site row : ℕ) → Type 0
IsRowFor graph a row = (Blocks graph a × (row ≡ 1)) ⊎ ((Blocks graph a → ⊥) × (row ≡ 0))

-- for the number of each site among the first n points its point
pub record ArePlaces (graph : Graph) (n : ℕ) (places : List ℕ) : Type 0 where
  pub count : length places ≡ length graph.sites + 1
  pub within : (a : ℕ) → a ≤ length graph.sites → slice_index places a < length graph.points
  pub each : (a t : ℕ) → t < n → IsAt graph a t → slice_index places a ≡ t

-- a phase that begins at one of the first n points has both sites
abbrev pub ShareBelow : Graph → (n : ℕ) → (a b : ℕ) → Type 0
ShareBelow graph n a b =
    (s t u : ℕ) × (s < n) × BeginsPhase graph s × IsAt graph a t × IsAt graph b u × Clear graph s t
    × Clear graph s u

-- the sites meet by the phases that begin at the first n points
abbrev pub IsMet : Graph → (n : ℕ) → (a b : ℕ) → Type 0
IsMet graph n a b =
    IsSiteOf graph a × IsSiteOf graph b
    × ((Blocks graph a → ⊥) ⊎ ((Blocks graph b → ⊥) ⊎ ShareBelow graph n a b))

-- the point of the site is set
abbrev pub IsReachedSite : (places : List ℕ) → (found : Bits) → (row site : ℕ) → Type 0
IsReachedSite places found r a = (1 ≤ a) × IsSet found 0 (slice_index places a)

-- the second has all pairs of the first n columns that are set in the one row too
pub record IsWithPairs (sites : Bits) (n : ℕ) (old new : Bits) : Type 0 where
  pub same_rows : new.rows ≡ old.rows
  pub same_columns : new.columns ≡ old.columns
  pub pairs : (r c : ℕ) → IsSet new r c ↔ (IsSet old r c ⊎ ((r < n) × IsSet sites 0 r × IsSet sites 0 c))
