use Rattle.effect_order.proofs.Supplied.{acyclic_code}
use Rattle.effect_order.proofs.Whole.{sourced}
use Rattle.effect_order.proofs.source_order.code_is_sourced.Goals as goal

pub returns : goal.returns
returns g c q a k start needs allowed all t =
    sourced g.T.Coded.run (acyclic_code g.T.Coded.run g.T.Coded.code q k a) start needs allowed all t
