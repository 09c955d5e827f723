use Rattle.run_report.specs.Memory.{held_in}
use Rattle.run_report.specs.Report.{object_lines}
use Rattle.run_report.proofs.Lines.{each_added}
use Rattle.run_report.proofs.objects.add_objects.Goals as goal

pub loop-object-preserved : goal.loop-object-preserved
loop-object-preserved c =
    each_added _ _ _ c.loop-object.object
    (object_lines c.args.names.now c.args.layout.now (held_in c.args.memory.now))
    c.in_ok-add_object.ensures c.loop-object.invariant
