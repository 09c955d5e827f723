use Rattle.std.proofs.Common.{◌≡◌, ◌+◌, ◌<◌, ◌∙◌, ◌++◌, [], ◌∷◌, List, length, get_or, take, sym, ap, subst, arith}
use Rattle.std.proofs.lemmas.List.{take_more}
use Rattle.site_graph.specs.declared.flow.Edge.{Edge}
use Rattle.site_graph.specs.Graph.{Graph}
use Rattle.site_graph.specs.Kept.{IsFlow}
use Rattle.sync_place.specs.Plain.{AreBehind, IsMarkedBehind}
use Rattle.sync_place.proofs.Behind.{behind_more}
use Rattle.sync_place.proofs.plain.behind_accesses.Goals as goal

pub loop-edge-preserved : goal.loop-edge-preserved
loop-edge-preserved c =
    let edges = c.as_slice-edge-items.ensures ∙ ap (λ (g : Graph). g.edges) c.flow.view_is in
    let none : Edge = record { from = 0; to = 0 } in
    let i = c.loop-edge.edge-index in
    let long = ap (λ (xs : List Edge). length xs) edges in
    let within : c.loop-edge.edge-index < length c.args.flow.now.edges = omega (arith, long, c.loop-edge-test.true) in
    let kept = subst IsFlow c.flow.view_is c.flow.invariant in
    let marked = subst
    (λ (xs : List Edge). IsMarkedBehind c.args.flow.now (get_or xs c.loop-edge.edge-index none) c.loop-edge.behind c.mark_behind.new.behind)
    edges c.mark_behind.ensures in
    subst (λ (xs : List Edge). AreBehind c.args.flow.now xs c.mark_behind.new.behind)
    (sym (take_more c.args.flow.now.edges c.loop-edge.edge-index none within))
    (behind_more c.args.flow.now (take c.loop-edge.edge-index c.args.flow.now.edges) (get_or c.args.flow.now.edges c.loop-edge.edge-index none)
    c.loop-edge.behind c.mark_behind.new.behind (kept.edges_within c.loop-edge.edge-index none within).1 marked c.loop-edge.invariant)
