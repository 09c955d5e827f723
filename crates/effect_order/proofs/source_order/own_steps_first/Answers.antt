use Rattle.effect_order.proofs.Prefix.{own_prefix}
use Rattle.effect_order.proofs.source_order.own_steps_first.Goals as goal

pub returns : goal.returns
returns g c is_own step own needs all past o a d k p = own_prefix is_own step own needs all o p past a d k
