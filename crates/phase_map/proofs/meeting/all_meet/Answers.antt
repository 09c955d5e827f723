use Rattle.std.proofs.Common.{ap, arith}
use Rattle.site_graph.specs.Bits.{Bits}
use Rattle.site_graph.specs.Kept.{IsSiteOf}
use Rattle.phase_map.proofs.Pairs.{rows_more, all_partners, all_pairs}
use Rattle.phase_map.proofs.meeting.all_meet.Goals as goal

pub loop-site-preserved : goal.loop-site-preserved
loop-site-preserved c =
    let wide = ap (λ (b : Bits). b.rows) c.in_ok-meets.ensures in
    let low = c.loop-site.auto.site in
    let high = c.loop-site-test.true in
    let site : IsSiteOf c.args.flow.now c.loop-site.site = (omega arith, omega (arith, high, wide, c.columns.ensures.columns, c.in_ok-sites.ensures.same_columns, c.rows-site-end.ensures.rows, c.loop-site.invariant.same_rows)) in
    rows_more c.args.flow.now (λ a b. Unit {0}) c.loop-site.site 0 c.in_ok-sites.sites c.loop-site.meets c.add_common.new.self site
    (all_partners c.args.flow.now c.in_ok-sites.sites c.in_ok-sites.ensures) c.loop-site.invariant c.add_common.ensures

pub returns : goal.returns
returns c =
    let wide = ap (λ (b : Bits). b.rows) c.in_ok-meets.ensures in
    all_pairs c.args.flow.now c.loop-site.site c.loop-site.meets
    (omega (arith, c.loop-site-test.false, wide, c.columns.ensures.columns, c.in_ok-sites.ensures.same_columns, c.rows-site-end.ensures.rows, c.loop-site.invariant.same_rows)) c.loop-site.invariant
