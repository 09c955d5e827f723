use Rattle.std.proofs.Common.{◌≡◌, ◌∙◌, ◌==◌, ◌&&◌, ℕ, List, rules}
use Rattle.std.specs.List.Sorted.{IsSortedBy}
use Rattle.std.specs.Ordering.{nat_cmp, is_lt, ordering_then}
use Rattle.std.proofs.lemmas.Fn.{always_returns_same}
use Rattle.std.proofs.lemmas.List.Filters.{dedup_is}
use Rattle.site_graph.specs.declared.flow.Edge.{Edge}
use Rattle.site_graph.specs.Rising.{edge_before}
use Rattle.flow_form.proofs.Rises.{edges_follow, edges_same}
use Rattle.flow_form.proofs.Sorting.{deduped, sorted_as, edge_none, edge_ties, edge_itself, edge_test}
use Rattle.flow_form.proofs.sorted.rising_edges.Goals as goal

pub returns : goal.returns
returns c =
    let key : Edge → ℕ × ℕ = λ e. (e.from, e.to) in
    let up : IsSortedBy (λ x y. is_lt (ordering_then (nat_cmp x.from y.from) (nat_cmp x.to y.to))) c.sort_unstable_by_key.new.self.items =
    c.sort_unstable_by_key.ensures.sorted key (always_returns_same _ (λ a r. r ≡ key a.0.now) _ (λ a r q k. search rules)) in
    c.from_vec.ensures ∙ dedup_is _ _ _ c.dedup.ensures.filtered
    ∙ deduped edge_before edges_follow edges_same edge_none (λ x y. (x.from == y.from) && (x.to == y.to)) edge_ties edge_itself
    c.args.edges.items c.sort_unstable_by_key.new.self.items c.sort_unstable_by_key.ensures.permutation
    (sorted_as _ edge_before edge_test c.sort_unstable_by_key.new.self.items up)
