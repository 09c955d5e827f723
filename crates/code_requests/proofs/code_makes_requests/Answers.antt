use Rattle.code_requests.proofs.Making.{code_makes_requests}
use Rattle.code_requests.proofs.code_makes_requests.Goals as goal

pub returns : goal.returns
returns c = code_makes_requests
