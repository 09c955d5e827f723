use Rattle.std.proofs.Common.{[], ◌∷◌}
use Rattle.sc_base.specs.declared.shape.BoundStep.TheVariants.{Number, Procs}
use Rattle.sc_layout.specs.Bound.{number, procs, operation}
use Rattle.sc_layout.proofs.tests.of_procs.Goals as goal

pub returns : goal.returns
returns c =
    rw (c.from_vec.ensures, c.in_ok-push-3.ensures.items, c.in_ok-push-2.ensures.items, c.in_ok-push.ensures.items, c.new-steps.ensures.items)
    (operation c.args.op (Procs ∷ []) (Number _ ∷ []) procs (number _))
