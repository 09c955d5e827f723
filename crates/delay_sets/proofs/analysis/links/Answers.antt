use Rattle.std.proofs.Common.{◌+◌, length, ap, arith}
use Rattle.site_graph.specs.Bits.{Bits}
use Rattle.delay_sets.specs.Delays.{Link}
use Rattle.delay_sets.proofs.Backs.{rows_more, are_links}
use Rattle.delay_sets.proofs.analysis.links.Goals as goal

pub loop-site-preserved : goal.loop-site-preserved
loop-site-preserved c =
    rows_more (Link c.args.flow.now c.args.conflicts.now.cross c.args.conflicts.now.own) (length c.args.flow.now.sites + 1) c.loop-site.site c.loop-site.rows
    c.add_links.new.rows (omega (arith, c.loop-site-test.true, c.rows-site-end.ensures.rows, ap (λ (b : Bits). b.rows) c.in_ok-rows.ensures, c.rows.ensures.rows, c.requires.cross.0)) c.loop-site.invariant
    c.add_links.ensures

pub returns : goal.returns
returns c =
    are_links c.args.flow.now c.args.conflicts.now.cross c.args.conflicts.now.own c.loop-site.site c.loop-site.rows c.rows.ensures.in_order c.columns.ensures.in_order
    c.requires.cross c.requires.own
    (omega (arith, c.loop-site-test.false, c.rows-site-end.ensures.rows, ap (λ (b : Bits). b.rows) c.in_ok-rows.ensures, c.rows.ensures.rows, c.requires.cross.0)) c.loop-site.invariant
