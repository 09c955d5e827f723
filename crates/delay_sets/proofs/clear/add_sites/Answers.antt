use Rattle.std.proofs.Common.{◌∙◌, List, length, ap, subst, sym, arith, ◌+◌}
use Rattle.site_graph.specs.declared.site.Site.{Site}
use Rattle.site_graph.specs.Graph.{Graph}
use Rattle.site_graph.specs.Kept.{IsFlow, IsSiteOf}
use Rattle.std.proofs.lemmas.Bool.{both_ways}
use Rattle.delay_sets.proofs.SiteRows.{IsWithBelow, place_at, point_of, site_found, site_left, all_sites}
use Rattle.delay_sets.proofs.clear.add_sites.Goals.{then-get, else-get}
use Rattle.delay_sets.proofs.clear.add_sites.Goals as goal

pub get-requires-clause-column : goal.get-requires-clause-column
get-requires-clause-column c =
    let kept = subst IsFlow c.flow.view_is c.flow.invariant in
    let long = ap (λ (xs : List Site). length xs) (c.as_slice.ensures ∙ ap (λ (g : Graph). g.sites) c.flow.view_is) in
    let site : IsSiteOf c.args.flow.now c.loop-other.other = (omega (arith, c.loop-other.auto.other), omega (arith, long, c.loop-other-test.true)) in
    let low = point_of c.args.flow.now _ c.loop-other.other (place_at c.args.flow.now c.args.places.now c.loop-other.other kept c.requires.places site) in
    omega (arith, low, c.requires.over_columns)

pub loop-other-preserved : goal.loop-other-preserved
loop-other-preserved c =
    let kept = subst IsFlow c.flow.view_is c.flow.invariant in
    let long = ap (λ (xs : List Site). length xs) (c.as_slice.ensures ∙ ap (λ (g : Graph). g.sites) c.flow.view_is) in
    let site : IsSiteOf c.args.flow.now c.loop-other.other = (omega (arith, c.loop-other.auto.other), omega (arith, long, c.loop-other-test.true)) in
    elim c.if-get.branch [
      | then-get w ↦
          subst (IsWithBelow c.args.flow.now c.args.over.now c.args.number (c.loop-other.other + 1) c.args.rows.now) (sym w.rows-is)
          (site_found c.args.flow.now c.args.over.now c.args.number c.args.places.now c.args.rows.now c.loop-other.rows _ c.loop-other.other kept c.requires.places site
          (c.get.ensures.0 w.if-get.true) c.loop-other.invariant w.set.ensures)
      | else-get w ↦
          subst (IsWithBelow c.args.flow.now c.args.over.now c.args.number (c.loop-other.other + 1) c.args.rows.now) (sym w.rows-is)
          (site_left c.args.flow.now c.args.over.now c.args.number c.args.places.now c.args.rows.now c.loop-other.rows c.loop-other.other c.requires.places
          (λ s. both_ways _ w.if-get.false (c.get.ensures.1 s)) c.loop-other.invariant)
    ]

pub returns : goal.returns
returns c =
    let kept = subst IsFlow c.flow.view_is c.flow.invariant in
    let long = ap (λ (xs : List Site). length xs) (c.as_slice.ensures ∙ ap (λ (g : Graph). g.sites) c.flow.view_is) in
    all_sites c.args.flow.now c.args.over.now c.args.number c.args.rows.now c.loop-other.rows c.loop-other.other kept (omega (arith, long, c.loop-other-test.false)) c.loop-other.invariant
