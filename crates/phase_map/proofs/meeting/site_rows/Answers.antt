use Rattle.std.proofs.Common.{List, length, ◌∙◌, ap, ◌+◌, subst, sym, arith}
use Rattle.std.proofs.lemmas.Bool.{both_ways}
use Rattle.site_graph.specs.Kept.{IsSiteOf}
use Rattle.site_graph.specs.Bits.{Bits}
use Rattle.site_graph.specs.Graph.{Graph}
use Rattle.site_graph.specs.declared.site.Site.{Site}
use Rattle.phase_map.proofs.Pairs.{SitesBelow, sites_explicit, sites_blocking, sites_all}
use Rattle.phase_map.proofs.meeting.site_rows.Goals.{then-not-blocks, else-not-blocks}
use Rattle.phase_map.proofs.meeting.site_rows.Goals as goal

pub loop-site-preserved : goal.loop-site-preserved
loop-site-preserved c =
    let wide = ap (λ (b : Bits). b.columns) c.in_ok-rows.ensures in
    let long = ap (λ (xs : List Site). length xs) (c.as_slice.ensures ∙ ap (λ (g : Graph). g.sites) c.flow.view_is) in
    let low = c.loop-site.auto.site in
    let high = c.loop-site-test.true in
    let site : IsSiteOf c.args.flow.now c.loop-site.site = (omega arith, omega (arith, high, wide, long, c.columns-site-end.ensures.columns, c.loop-site.invariant.same_columns)) in
    elim c.if-not-blocks.branch [
      | then-not-blocks w ↦ subst (SitesBelow c.args.flow.now (c.loop-site.site + 1)) (sym w.rows-is)
          (sites_explicit c.args.flow.now c.loop-site.site c.loop-site.rows c.set.new.self _ site
          (λ b. both_ways _ w.if-not-blocks.true (c.blocks-in-loop-site.ensures.1 b)) c.loop-site.invariant c.set.ensures w.set-then-not-blocks.ensures)
      | else-not-blocks w ↦ subst (SitesBelow c.args.flow.now (c.loop-site.site + 1)) (sym w.rows-is)
          (sites_blocking c.args.flow.now c.loop-site.site c.loop-site.rows c.set.new.self site (c.blocks-in-loop-site.ensures.0 w.if-not-blocks.false) c.loop-site.invariant c.set.ensures)
    ]

pub returns : goal.returns
returns c =
    let wide = ap (λ (b : Bits). b.columns) c.in_ok-rows.ensures in
    let long = ap (λ (xs : List Site). length xs) (c.as_slice.ensures ∙ ap (λ (g : Graph). g.sites) c.flow.view_is) in
    sites_all c.args.flow.now c.loop-site.site c.loop-site.rows
    (omega (arith, c.loop-site-test.false, wide, long, c.columns-site-end.ensures.columns, c.loop-site.invariant.same_columns)) c.loop-site.invariant
