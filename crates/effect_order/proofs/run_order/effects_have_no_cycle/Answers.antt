use Rattle.effect_order.proofs.Precedence.{effects_have_none}
use Rattle.effect_order.proofs.run_order.effects_have_no_cycle.Goals as goal

pub returns : goal.returns
returns g c q a k = effects_have_none g.T.Coded.run g.T.Coded.code q k a
