use Rattle.std.proofs.Common.{◌≡◌, ◌-◌, ◌≤◌, ◌++◌}
use Rattle.run_report.specs.Memory.{held_in}
use Rattle.run_report.specs.Report.{first_cells, count_of}
use Rattle.run_report.proofs.objects.add_cells.Given as goal

abbrev pub invariant-loop-place : goal.invariant-loop-place
invariant-loop-place l =
    (l.index ≤ count_of l.layout l.object)
    × (l.to.items ≡ l.initial.to.items ++ first_cells l.names l.layout (held_in l.memory) l.node l.object
    l.index)

abbrev pub decreases-loop-place : goal.decreases-loop-place
decreases-loop-place l = count_of l.layout l.object - l.index
