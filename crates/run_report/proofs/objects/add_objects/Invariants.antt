use Rattle.std.proofs.Common.{◌≡◌, ◌++◌}
use Rattle.run_report.specs.Memory.{held_in}
use Rattle.run_report.specs.Report.{each_from, object_lines}
use Rattle.run_report.proofs.objects.add_objects.Given as goal

abbrev pub invariant-loop-object : goal.invariant-loop-object
invariant-loop-object l = l.to.items ≡ l.initial.to.items ++ each_from 0 l.object
    (object_lines l.names l.layout (held_in l.memory))
