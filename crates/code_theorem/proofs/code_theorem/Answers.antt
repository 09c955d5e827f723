use Rattle.code_theorem.proofs.Theorem.{code_theorem}
use Rattle.code_theorem.proofs.code_theorem.Goals as goal

pub returns : goal.returns
returns c = code_theorem
