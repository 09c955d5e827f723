use Rattle.std.proofs.Common.{◌≡◌, ◌++◌}
use Rattle.run_report.specs.Report.{each_from, node_lines, ends_in, texts_in}
use Rattle.run_report.proofs.nodes.add_nodes.Given as goal

abbrev pub invariant-loop-number : goal.invariant-loop-number
invariant-loop-number l = l.to.items ≡ l.initial.to.items ++ each_from 0 l.number
    (λ n. node_lines n (ends_in l.nodes n) (texts_in l.nodes n))
