use Rattle.effect_order.proofs.Counts as Counts
use Rattle.effect_order.proofs.barriers.release_after_arrival.Goals as goal

pub returns : goal.returns
returns g c q w k a f ma mf h n t = Counts.opens g.T.Coded.run g.T.Coded.code q w k a f ma mf h n t
