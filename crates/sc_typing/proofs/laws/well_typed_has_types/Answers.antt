use Rattle.sc_typing.proofs.WellTyped.{occurring-typed}
use Rattle.sc_typing.proofs.laws.well_typed_has_types.Goals as goal

pub returns : goal.returns
returns c = occurring-typed
