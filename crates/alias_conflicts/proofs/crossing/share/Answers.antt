use Rattle.std.proofs.Common.{◌↔◌, ◌∙◌, Some, ap, subst}
use Rattle.std.specs.Prelude.{IsTrue}
use Rattle.site_graph.specs.Graph.{Graph}
use Rattle.alias_conflicts.specs.Regions.{Overlap}
use Rattle.alias_conflicts.proofs.SharedCells.{forms_overlap}
use Rattle.alias_conflicts.proofs.crossing.share.Goals as goal

pub returns : goal.returns
returns c =
    let same = c.as_slice.ensures ∙ ap (λ (g : Graph). g.exposed) c.flow.view_is in
    let o = subst (λ xs. IsTrue c.overlap.result ↔ Overlap c.args.layout.now xs c.in-Some.first c.in-Some-region_of.second) same c.overlap.ensures in
    let f = forms_overlap c.args.layout.now c.args.flow.now (Some c.args.a) (Some c.args.b) c.args.p c.args.q c.in-Some.first c.in-Some-region_of.second c.requires.lawful
    (c.in-Some.ensures.exact c.args.flow.now) (c.in-Some-region_of.ensures.exact c.args.flow.now) in
    (λ e. f.0 (o.0 e), λ w. o.1 (f.1 w))
