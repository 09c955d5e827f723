use Rattle.effect_order.proofs.Counts as Counts
use Rattle.effect_order.proofs.barriers.arrival_before_release.Goals as goal

pub returns : goal.returns
returns g c q w k m e mm km me be t = Counts.gathers g.T.Coded.run g.T.Coded.code q w k m e mm km me be t
