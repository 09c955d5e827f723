use Rattle.effect_order.proofs.Exchange.{one_memory}
use Rattle.effect_order.proofs.effects.items_leave_what_effects_leave.Goals as goal

pub returns : goal.returns
returns g c does start place past = one_memory does start place past
