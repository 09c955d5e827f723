use Rattle.std.proofs.Common.{◌≡◌, ◌+◌, length, sym, subst, arith}
use Rattle.std.proofs.lemmas.Bool.{both_ways}
use Rattle.delay_sets.specs.Delays.{Link}
use Rattle.delay_sets.proofs.Backs.{RowOf, row_set, row_left}
use Rattle.delay_sets.proofs.analysis.add_links.Goals.{then-is_link, else-is_link}
use Rattle.delay_sets.proofs.analysis.add_links.Goals as goal

pub loop-other-preserved : goal.loop-other-preserved
loop-other-preserved c =
    elim c.if-is_link.branch [
      | then-is_link w ↦
          subst (RowOf (Link c.args.flow.now c.args.conflicts.now.cross c.args.conflicts.now.own) c.args.site (c.loop-other.other + 1) c.args.rows.now) (sym w.rows-is)
          (row_set (Link c.args.flow.now c.args.conflicts.now.cross c.args.conflicts.now.own) c.args.site c.loop-other.other c.args.rows.now c.loop-other.rows _
          (c.is_link.ensures.0 w.if-is_link.true) c.loop-other.invariant w.set.ensures)
      | else-is_link w ↦
          subst (RowOf (Link c.args.flow.now c.args.conflicts.now.cross c.args.conflicts.now.own) c.args.site (c.loop-other.other + 1) c.args.rows.now) (sym w.rows-is)
          (row_left (Link c.args.flow.now c.args.conflicts.now.cross c.args.conflicts.now.own) c.args.site c.loop-other.other c.args.rows.now c.loop-other.rows
          (λ s. both_ways _ w.if-is_link.false (c.is_link.ensures.1 s)) c.loop-other.invariant)
    ]

pub returns : goal.returns
returns c =
    let same : c.loop-other.other ≡ length c.args.flow.now.sites + 1 =
    omega (arith, c.loop-other-test.false, c.loop-other.auto.other-end, c.columns-other-end.ensures.columns, c.requires.rows.1) in
    subst (λ n. RowOf (Link c.args.flow.now c.args.conflicts.now.cross c.args.conflicts.now.own) c.args.site n c.args.rows.now c.loop-other.rows) same
    c.loop-other.invariant
