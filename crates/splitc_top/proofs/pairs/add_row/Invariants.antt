use Rattle.std.proofs.Common.{◌≡◌, ◌++◌}
use Rattle.run_report.specs.Report.{each_from}
use Rattle.splitc_top.specs.Pairs.{pair_line}
use Rattle.splitc_top.proofs.pairs.add_row.Given as goal

abbrev pub invariant-loop-column : goal.invariant-loop-column
invariant-loop-column l = l.to.items ≡ l.initial.to.items ++ each_from 0 l.column (pair_line l.pairs l.row)
