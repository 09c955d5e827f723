use Rattle.std.proofs.Common.{◌≡◌}
use Rattle.run_report.specs.Report.{each_from}
use Rattle.splitc_top.specs.Pairs.{pair_line}
use Rattle.splitc_top.proofs.pairs.delay_text.Given as goal

abbrev pub invariant-loop-row : goal.invariant-loop-row
invariant-loop-row l = l.text.items ≡ each_from 0 l.row (λ row. each_from 0 l.compiled.delays.columns (pair_line l.compiled.delays row))
