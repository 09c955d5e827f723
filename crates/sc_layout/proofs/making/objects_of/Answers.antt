use Rattle.std.proofs.lemmas.Result.{err_from_is_err_and}
use Rattle.sc_layout.specs.Layout.{object_of}
use Rattle.sc_layout.proofs.Causes.{loop_push, loop_stop}
use Rattle.sc_layout.proofs.making.objects_of.Goals as goal

pub returns-in_err-object : goal.returns-in_err-object
returns-in_err-object c =
    let p = err_from_is_err_and c.from_residual.result c.from_residual.ensures.1 in
    rw (p.1, p.2) (loop_stop (object_of c.args.nodes) c.args.shapes.now c.loop-shape.shape-index c.shape-item.result c.loop-shape.objects.items _ c.loop-shape-test.true c.shape-item.is c.loop-shape.invariant c.in_err-object.ensures)

pub loop-shape-preserved : goal.loop-shape-preserved
loop-shape-preserved c =
    rw c.in_ok-push.ensures.items (loop_push (object_of c.args.nodes) c.args.shapes.now c.loop-shape.shape-index c.shape-item.result c.loop-shape.objects.items c.in_ok-object.object c.loop-shape-test.true c.shape-item.is c.loop-shape.invariant c.in_ok-object.ensures)
