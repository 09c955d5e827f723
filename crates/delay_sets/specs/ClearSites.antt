-- Ways from site to site: those that are clear of barriers, as chains of ways with no other access on them.
use Rattle.std.specs.Prelude.{◌≡◌, ◌⊎◌, ℕ, ◌+◌, ◌<◌, List, Bool, true, false, length, slice_index}
use Rattle.effect_order.specs.Flow.{LeadsBy}
use Rattle.site_graph.specs.declared.point.PointKind.{PointKind}
use Rattle.site_graph.specs.declared.point.PointKind.TheVariants.{Access}
use Rattle.site_graph.specs.Bits.{Bits, IsSet, IsOf}
use Rattle.site_graph.specs.Graph.{Graph, kind_at, IsAt, is_barrier}
use Rattle.site_graph.specs.Ways.{Goes, Clear, Precedes}
use Rattle.delay_sets.specs.Relations.{HasPairs}

-- a way ends there: at a barrier, or at an access
abbrev pub is_stop : PointKind → Bool
is_stop (Access number) = true
is_stop kind = is_barrier kind

-- the points at which ways end, in the first row
abbrev pub AreStops : Graph → Bits → Type 0
AreStops graph bits = IsOf 1 (length graph.points) (λ r t. is_stop (kind_at graph t) ≡ true) bits

-- from the point of the first site a way leads to that of the second, with neither barrier nor access on it
abbrev pub IsNextSite : Graph → (a b : ℕ) → Type 0
IsNextSite graph a b =
    (t u : ℕ) × IsAt graph a t × IsAt graph b u
    × LeadsBy (Goes graph) (λ z. is_stop (kind_at graph z) ≡ false) t u

-- with no barrier on it
abbrev pub IsClearTo : Graph → (a b : ℕ) → Type 0
IsClearTo graph a b = (t u : ℕ) × IsAt graph a t × IsAt graph b u × Clear graph t u

-- the point of each site, by its number
pub record ArePlaces (graph : Graph) (count : ℕ) (places : List ℕ) : Type 0 where
  pub long : length places ≡ length graph.sites + 1
  pub at : (number t : ℕ) → t < count → IsAt graph number t → slice_index places number ≡ t

-- the second has in the row the sites that come behind that of the row too
abbrev pub IsWithPreceded : Graph → (row : ℕ) → Bits → Bits → Type 0
IsWithPreceded graph row old new = HasPairs old (λ r b. IsSet old r b ⊎ ((r ≡ row) × Precedes graph r b)) new
