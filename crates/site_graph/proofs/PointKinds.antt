-- What the point does that was read from the flow's list.
use Rattle.std.proofs.Common.{◌≡◌, ℕ, ◌<◌, ◌≤◌, List, Some, length, get_or, sym, ap, ◌∙◌}
use Rattle.std.specs.Option.{option_map_or}
use Rattle.std.proofs.lemmas.Option.{slice_get_past, slice_get-get_or}
use Rattle.site_graph.specs.declared.point.Point.{Point}
use Rattle.site_graph.specs.declared.point.PointKind.TheVariants.{Plain}
use Rattle.site_graph.specs.Graph.{Graph, kind_at}

pub kind_of : (graph : Graph) (points : List Point) (at : ℕ) (p : Point) → points ≡ graph.points → at < length points → p ≡ get_or points at p
    → kind_at graph at ≡ p.kind
kind_of graph points at p e l is =
    ap (λ ps. kind_at (record graph { points = ps }) at) (sym e)
    ∙ ap (λ o. option_map_or (λ (q : Point). q.kind) o Plain) (slice_get-get_or points at p l ∙ ap Some (sym is))

-- a number that is none of a point's is as one of a plain step
pub kind_past : (graph : Graph) (t : ℕ) → length graph.points ≤ t → kind_at graph t ≡ Plain
kind_past graph t l = ap (λ o. option_map_or (λ (q : Point). q.kind) o Plain) (slice_get_past graph.points t l)
