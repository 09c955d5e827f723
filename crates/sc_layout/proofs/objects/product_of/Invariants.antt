use Rattle.std.proofs.Common.{◌≡◌, ◌-◌, ◌^◌, min, take}
use Rattle.sc_layout.specs.Layout.{product}
use Rattle.sc_layout.proofs.objects.product_of.Given as goal

abbrev pub invariant-loop-number : goal.invariant-loop-number
invariant-loop-number l = l.all ≡ min (product (take l.number-index l.numbers)) (2 ^ 128 - 1)
