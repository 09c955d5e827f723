use Rattle.std.proofs.Common.{ap, ◌+◌, subst, sym, arith}
use Rattle.std.proofs.lemmas.Bool.{both_ways}
use Rattle.site_graph.specs.Bits.{Bits}
use Rattle.phase_map.proofs.Pairs.{ReachedBelow, reached_set, reached_left, reached_all}
use Rattle.phase_map.proofs.meeting.sites_in.Goals.{then-get, else-get}
use Rattle.phase_map.proofs.meeting.sites_in.Goals as goal

pub loop-site-preserved : goal.loop-site-preserved
loop-site-preserved c =
    let wide = ap (λ (b : Bits). b.columns) c.in_ok-sites.ensures in
    elim c.if-get.branch [
      | then-get w ↦ subst (ReachedBelow c.args.places.now c.args.found.now (c.loop-site.site + 1)) (sym w.sites-is)
          (reached_set c.args.places.now c.args.found.now c.loop-site.sites _ c.loop-site.site (omega (arith, c.loop-site.auto.site, c.loop-site-test.true))
          (omega (arith, c.loop-site-test.true, wide, c.columns-site-end.ensures.columns, c.loop-site.invariant.same_columns))
          (c.get.ensures.0 w.if-get.true) c.loop-site.invariant w.set.ensures)
      | else-get w ↦ subst (ReachedBelow c.args.places.now c.args.found.now (c.loop-site.site + 1)) (sym w.sites-is)
          (reached_left c.args.places.now c.args.found.now c.loop-site.sites c.loop-site.site (λ s. both_ways _ w.if-get.false (c.get.ensures.1 s)) c.loop-site.invariant)
    ]

pub returns : goal.returns
returns c =
    let wide = ap (λ (b : Bits). b.columns) c.in_ok-sites.ensures in
    reached_all c.args.places.now c.args.found.now c.loop-site.sites c.loop-site.site
    (omega (arith, c.loop-site-test.false, wide, c.columns-site-end.ensures.columns, c.loop-site.invariant.same_columns)) c.loop-site.invariant
