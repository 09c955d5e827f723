-- Which sites two nodes may stand at between the same two releases.
use Rattle.std.specs.Prelude.{◌≡◌, ◌⊎◌, ◌↔◌, ℕ, ◌+◌, Bool, true, length}
use Rattle.site_graph.specs.declared.point.PointKind.TheVariants.{Start}
use Rattle.site_graph.specs.Bits.{Bits, IsOf}
use Rattle.site_graph.specs.Graph.{Graph, kind_at, IsAt, is_barrier}
use Rattle.site_graph.specs.Kept.{IsSiteOf}
use Rattle.site_graph.specs.Plans.{Blocks}
use Rattle.site_graph.specs.Ways.{Clear}
use Rattle.phase_map.specs.Uneven.{UnevenPoint}

-- from each uneven point at most one barrier is reached on a clear way
abbrev pub Aligned : Graph → Type 0
Aligned graph =
    (u a b : ℕ) → UnevenPoint graph u → is_barrier (kind_at graph a) ≡ true
    → is_barrier (kind_at graph b) ≡ true
    → Clear graph u a → Clear graph u b → a ≡ b

-- where a phase begins
abbrev pub BeginsPhase : Graph → ℕ → Type 0
BeginsPhase graph s = (kind_at graph s ≡ Start) ⊎ (is_barrier (kind_at graph s) ≡ true)

-- both points lie in one phase
abbrev pub OnePhase : Graph → (t u : ℕ) → Type 0
OnePhase graph t u = (s : ℕ) × BeginsPhase graph s × Clear graph s t × Clear graph s u

-- The sites fail to meet where the flow is aligned, both are blocking, and no phase has both.
pub record FailToMeet (graph : Graph) (a b : ℕ) : Type 0 where
  pub aligned : Aligned graph
  pub first_blocks : Blocks graph a
  pub second_blocks : Blocks graph b
  pub apart : (t u : ℕ) → IsAt graph a t → IsAt graph b u → OnePhase graph t u → ⊥

-- the phases of the flow: whether it is aligned, and which of its sites meet
pub record ArePhases (graph : Graph) (aligned : Bool) (meets : Bits) : Type 0 where
  pub aligned_is : (aligned ≡ true) ↔ Aligned graph
  pub meets_is : IsOf (length graph.sites + 1) (length graph.sites + 1)
      (λ a b. IsSiteOf graph a × IsSiteOf graph b × (FailToMeet graph a b → ⊥)) meets

-- the early phases, in which all sites meet
pub record AllMeet (graph : Graph) (meets : Bits) : Type 0 where
  pub meets_is : IsOf (length graph.sites + 1) (length graph.sites + 1)
      (λ a b. IsSiteOf graph a × IsSiteOf graph b) meets
