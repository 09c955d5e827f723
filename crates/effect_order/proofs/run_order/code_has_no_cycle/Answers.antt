use Rattle.effect_order.proofs.Supplied.{acyclic_code}
use Rattle.effect_order.proofs.run_order.code_has_no_cycle.Goals as goal

pub returns : goal.returns
returns g c q a k = acyclic_code g.T.Coded.run g.T.Coded.code q k a
