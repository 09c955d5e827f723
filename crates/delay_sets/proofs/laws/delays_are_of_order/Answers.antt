use Rattle.std.proofs.Common.{◌≡◌, true}
use Rattle.delay_sets.proofs.OrderLaws.{delays_of_order}
use Rattle.delay_sets.proofs.laws.delays_are_of_order.Goals as goal

pub returns : goal.returns
returns c graph cross own meets across cross_of own_of kept are =
    delays_of_order graph cross own meets (λ a b. across a b ≡ true) kept are cross_of own_of
