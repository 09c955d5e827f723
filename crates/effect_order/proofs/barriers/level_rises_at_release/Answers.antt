use Rattle.effect_order.proofs.Levels.{to_release, from_release}
use Rattle.effect_order.proofs.barriers.level_rises_at_release.Goals as goal

pub returns-clause-into : goal.returns-clause-into
returns-clause-into c is_release a m h t = to_release is_release a m h t

pub returns-clause-out : goal.returns-clause-out
returns-clause-out c is_release m b h t = from_release is_release m b h t
