use Rattle.effect_order.proofs.Levels.{level_by}
use Rattle.effect_order.proofs.barriers.rise_shows_release.Goals as goal

pub returns : goal.returns
returns c is_release a b t = level_by is_release a b t
