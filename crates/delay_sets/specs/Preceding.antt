-- What is kept as rows of bits on the way to which access is over before which other.
use Rattle.std.specs.Prelude.{◌≡◌, ◌⊎◌, ◌↔◌, ℕ, ◌<◌, List, length, true, Contains}
use Rattle.site_graph.specs.declared.point.PointKind.TheVariants.{Sync}
use Rattle.site_graph.specs.Bits.{Bits, IsSet, IsOf}
use Rattle.site_graph.specs.Graph.{Graph, kind_at, IsAt, is_barrier}
use Rattle.delay_sets.specs.Relations.{HasPairs}

-- the barriers in the first row, and nothing in the second
abbrev pub AreBarriers : Graph → Bits → Type 0
AreBarriers graph bits =
    IsOf 2 (length graph.points) (λ r t. (r ≡ 0) × (is_barrier (kind_at graph t) ≡ true)) bits

-- the syncs among the first points that are set in the first row
abbrev pub AreSyncsIn : Graph → (reached : Bits) → (count : ℕ) → List ℕ → Type 0
AreSyncsIn graph reached count syncs = (s : ℕ) → Contains syncs s
    ↔ ((s < count) × (kind_at graph s ≡ Sync) × IsSet reached 0 s)

-- one of the first points that are set in the first row is that of the site
abbrev pub IsSiteIn : Graph → (over : Bits) → (count number : ℕ) → Type 0
IsSiteIn graph over count b = (u : ℕ) × (u < count) × IsAt graph b u × IsSet over 0 u

-- the second has in the row these sites too
abbrev pub IsWithSites : Graph → (over : Bits) → (row count : ℕ) → Bits → Bits → Type 0
IsWithSites graph over row count old new =
    HasPairs old (λ r b. IsSet old r b ⊎ ((r ≡ row) × IsSiteIn graph over count b)) new
