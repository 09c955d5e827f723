use Rattle.code_requests.proofs.Making.{code_accesses_are_placed}
use Rattle.code_requests.proofs.code_accesses_are_placed.Goals as goal

pub returns : goal.returns
returns c = code_accesses_are_placed
