use Rattle.run_report.specs.Memory.{held_in}
use Rattle.run_report.specs.Report.{copy_line}
use Rattle.run_report.proofs.Lines.{each_added}
use Rattle.run_report.proofs.objects.add_copies.Goals as goal

pub loop-node-preserved : goal.loop-node-preserved
loop-node-preserved c =
    each_added _ _ _ c.loop-node.node
    (copy_line c.args.names.now c.args.layout.now (held_in c.args.memory.now) c.args.object)
    c.in_ok-add_copy.ensures c.loop-node.invariant
