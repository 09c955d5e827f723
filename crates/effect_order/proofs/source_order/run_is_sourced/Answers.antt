use Rattle.effect_order.proofs.Runs.{acyclic_run}
use Rattle.effect_order.proofs.Whole.{sourced}
use Rattle.effect_order.proofs.source_order.run_is_sourced.Goals as goal

pub returns : goal.returns
returns g c k start needs allowed all t =
    sourced g.T.Running.run (acyclic_run g.T.Running.run k) start needs allowed all t
