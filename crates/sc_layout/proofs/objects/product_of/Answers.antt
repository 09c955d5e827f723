use Rattle.std.proofs.Common.{◌-◌, ◌^◌}
use Rattle.sc_layout.proofs.Products.{product_step}
use Rattle.sc_layout.proofs.objects.product_of.Goals as goal

pub loop-number-preserved : goal.loop-number-preserved
loop-number-preserved c =
    rw (c.saturating_mul-all.ensures, c.from.ensures) (product_step (2 ^ 128 - 1) c.args.numbers.now c.loop-number.number-index c.loop-number.all c.loop-number-test.true c.loop-number.invariant)
