use Rattle.run_report.proofs.Lines.{each_added}
use Rattle.splitc_top.specs.Pairs.{pair_line}
use Rattle.splitc_top.proofs.pairs.add_row.Goals as goal

pub loop-column-preserved : goal.loop-column-preserved
loop-column-preserved c =
    each_added _ _ _ c.loop-column.column (pair_line c.args.pairs.now c.args.row) c.in_ok-add_pair.ensures c.loop-column.invariant
