use Rattle.effect_order.proofs.Levels.{level_grows}
use Rattle.effect_order.proofs.barriers.level_never_falls.Goals as goal

pub returns : goal.returns
returns c is_release a b t = level_grows is_release a b t
