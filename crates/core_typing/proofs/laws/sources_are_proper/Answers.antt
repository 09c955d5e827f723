use Rattle.core_typing.proofs.ProperTrees.{read-proper}
use Rattle.core_typing.proofs.laws.sources_are_proper.Goals as goal

pub returns : goal.returns
returns c = read-proper
