use Rattle.core_typing.proofs.Sources.{cores-typed}
use Rattle.core_typing.proofs.laws.cores_are_typed.Goals as goal

pub returns : goal.returns
returns c = cores-typed
