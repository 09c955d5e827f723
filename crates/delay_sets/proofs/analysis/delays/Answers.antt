use Rattle.std.proofs.Common.{◌+◌, ◌∙◌, List, length, ap, sym, subst, arith}
use Rattle.std.proofs.lemmas.Bool.{both_ways}
use Rattle.site_graph.specs.declared.site.Site.{Site}
use Rattle.site_graph.specs.Graph.{Graph}
use Rattle.site_graph.specs.Kept.{IsFlow}
use Rattle.delay_sets.specs.Delays.{MustDelay}
use Rattle.delay_sets.proofs.Backs.{RowsOf, delays_more, delays_left, rows_all}
use Rattle.delay_sets.proofs.analysis.delays.Goals.{then-blocks, else-blocks}
use Rattle.delay_sets.proofs.analysis.delays.Goals as goal

pub loop-site-preserved : goal.loop-site-preserved
loop-site-preserved c =
    elim c.if-blocks.branch [
      | then-blocks w ↦
          subst (RowsOf (MustDelay c.args.flow.now c.args.conflicts.now.cross c.args.conflicts.now.own) (length c.args.flow.now.sites + 1) (c.loop-site.site + 1)) (sym w.delays-is)
          (delays_more c.args.flow.now c.args.conflicts.now.cross c.args.conflicts.now.own (subst IsFlow c.flow.view_is c.flow.invariant) c.in_ok-links.links c.in_ok-before.before
          c.in_ok-links.ensures c.in_ok-before.ensures c.in_ok-back.back c.in_ok-back.ensures.back c.in_ok-back.ensures.in_order
          c.loop-site.site c.loop-site.delays.rows c.loop-site.delays w.add_delays.new.delays (c.blocks-in-loop-site.ensures.0 w.if-blocks.true) c.loop-site.invariant.same_rows
          (omega (arith, c.loop-site-test.true, ap (λ (xs : List Site). length xs) (c.as_slice.ensures ∙ ap (λ (g : Graph). g.sites) c.flow.view_is), c.loop-site.invariant.same_rows)) c.loop-site.invariant w.add_delays.ensures)
      | else-blocks w ↦
          subst (RowsOf (MustDelay c.args.flow.now c.args.conflicts.now.cross c.args.conflicts.now.own) (length c.args.flow.now.sites + 1) (c.loop-site.site + 1)) (sym w.delays-is)
          (delays_left c.args.flow.now c.args.conflicts.now.cross c.args.conflicts.now.own c.loop-site.site c.loop-site.delays
          (λ s. both_ways _ w.if-blocks.false (c.blocks-in-loop-site.ensures.1 s)) c.loop-site.invariant)
    ]

pub returns : goal.returns
returns c =
    rows_all (MustDelay c.args.flow.now c.args.conflicts.now.cross c.args.conflicts.now.own) (length c.args.flow.now.sites + 1) c.loop-site.site c.loop-site.delays
    (omega (arith, c.loop-site-test.false, ap (λ (xs : List Site). length xs) (c.as_slice.ensures ∙ ap (λ (g : Graph). g.sites) c.flow.view_is))) c.loop-site.invariant
