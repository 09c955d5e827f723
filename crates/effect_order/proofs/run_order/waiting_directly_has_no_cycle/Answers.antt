use Rattle.effect_order.proofs.Forward.{forward, acyclic_directly}
use Rattle.effect_order.proofs.run_order.waiting_directly_has_no_cycle.Goals as goal

pub returns-clause-forward : goal.returns-clause-forward
returns-clause-forward g c q is_end w = forward g.T.Running.run q is_end w

pub returns-clause-no_cycle : goal.returns-clause-no_cycle
returns-clause-no_cycle g c q is_end w = acyclic_directly g.T.Running.run q is_end w
