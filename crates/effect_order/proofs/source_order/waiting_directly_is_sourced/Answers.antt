use Rattle.effect_order.proofs.Forward.{acyclic_directly}
use Rattle.effect_order.proofs.Whole.{sourced}
use Rattle.effect_order.proofs.source_order.waiting_directly_is_sourced.Goals as goal

pub returns : goal.returns
returns g c q is_end w start needs allowed all t =
    sourced g.T.Running.run (acyclic_directly g.T.Running.run q is_end w) start needs allowed all t
