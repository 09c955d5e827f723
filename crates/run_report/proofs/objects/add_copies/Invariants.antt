use Rattle.std.proofs.Common.{◌≡◌, ◌++◌}
use Rattle.run_report.specs.Memory.{held_in}
use Rattle.run_report.specs.Report.{each_from, copy_line}
use Rattle.run_report.proofs.objects.add_copies.Given as goal

abbrev pub invariant-loop-node : goal.invariant-loop-node
invariant-loop-node l = l.to.items ≡ l.initial.to.items ++ each_from 0 l.node
    (copy_line l.names l.layout (held_in l.memory) l.object)
