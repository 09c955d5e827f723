use Rattle.std.proofs.lemmas.Result.{err_from_is_err_and}
use Rattle.sc_layout.specs.Layout.{bound_of}
use Rattle.sc_layout.proofs.Causes.{loop_push, loop_stop}
use Rattle.sc_layout.proofs.bounds.values_of.Goals as goal

pub returns-in_err-value : goal.returns-in_err-value
returns-in_err-value c =
    let p = err_from_is_err_and c.from_residual.result c.from_residual.ensures.1 in
    rw (p.1, p.2) (loop_stop (bound_of c.args.nodes) c.args.bounds.now c.loop-bound.bound-index c.bound-item.result c.loop-bound.values.items _ c.loop-bound-test.true c.bound-item.is c.loop-bound.invariant c.in_err-value.ensures)

pub loop-bound-preserved : goal.loop-bound-preserved
loop-bound-preserved c =
    rw c.in_ok-push.ensures.items (loop_push (bound_of c.args.nodes) c.args.bounds.now c.loop-bound.bound-index c.bound-item.result c.loop-bound.values.items c.in_ok-value.value c.loop-bound-test.true c.bound-item.is c.loop-bound.invariant c.in_ok-value.ensures)
