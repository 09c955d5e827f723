use Rattle.run_report.proofs.Lines.{each_added}
use Rattle.std.proofs.Common.{[]}
use Rattle.run_report.specs.Report.{each_from}
use Rattle.splitc_top.specs.Pairs.{pair_line}
use Rattle.splitc_top.proofs.pairs.delay_text.Goals as goal

pub loop-row-preserved : goal.loop-row-preserved
loop-row-preserved c =
    let delays = c.args.compiled.now.delays in
    each_added _ c.loop-row.text.items [] c.loop-row.row (λ row. each_from 0 delays.columns (pair_line delays row)) c.in-Ok.ensures
    c.loop-row.invariant
