use Rattle.std.proofs.Common.{◌≡◌, ◌+◌, sym, subst, arith}
use Rattle.std.proofs.lemmas.Bool.{both_ways}
use Rattle.delay_sets.specs.Backing.{DelaysBy}
use Rattle.delay_sets.proofs.Backs.{RowOf, row_set, row_left}
use Rattle.delay_sets.proofs.analysis.add_delays.Goals.{then-is_delayed, else-is_delayed}
use Rattle.delay_sets.proofs.analysis.add_delays.Goals as goal

pub loop-other-preserved : goal.loop-other-preserved
loop-other-preserved c =
    elim c.if-is_delayed.branch [
      | then-is_delayed w ↦
          subst (RowOf (DelaysBy c.args.before.now c.args.own.now c.args.back.now) c.args.site (c.loop-other.other + 1) c.args.delays.now) (sym w.delays-is)
          (row_set (DelaysBy c.args.before.now c.args.own.now c.args.back.now) c.args.site c.loop-other.other c.args.delays.now c.loop-other.delays _
          (c.is_delayed.ensures.0 w.if-is_delayed.true) c.loop-other.invariant w.set.ensures)
      | else-is_delayed w ↦
          subst (RowOf (DelaysBy c.args.before.now c.args.own.now c.args.back.now) c.args.site (c.loop-other.other + 1) c.args.delays.now) (sym w.delays-is)
          (row_left (DelaysBy c.args.before.now c.args.own.now c.args.back.now) c.args.site c.loop-other.other c.args.delays.now c.loop-other.delays
          (λ s. both_ways _ w.if-is_delayed.false (c.is_delayed.ensures.1 s)) c.loop-other.invariant)
    ]

pub returns : goal.returns
returns c =
    let same : c.loop-other.other ≡ c.args.delays.now.rows =
    omega (arith, c.loop-other-test.false, c.loop-other.auto.other-end, c.columns-other-end.ensures.columns, c.requires.columns) in
    subst (λ n. RowOf (DelaysBy c.args.before.now c.args.own.now c.args.back.now) c.args.site n c.args.delays.now c.loop-other.delays) same c.loop-other.invariant
