use Rattle.effect_order.proofs.Runs.{facts}
use Rattle.effect_order.proofs.run_order.run_gives_facts.Goals as goal

pub returns : goal.returns
returns g c k = facts g.T.Running.run k
