use Rattle.effect_order.proofs.Supplied as Supplied
use Rattle.effect_order.proofs.barriers.code_keeps.Goals as goal

pub returns : goal.returns
returns g c q k = Supplied.kept g.T.Coded.run g.T.Coded.code q k
