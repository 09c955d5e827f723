use Rattle.code_walks.proofs.Carried.{code_carries_its_flow}
use Rattle.code_walks.proofs.code_carries_its_flow.Goals as goal

pub returns : goal.returns
returns c = code_carries_its_flow
