use Rattle.code_requests.proofs.Waiting.{sources_wait_for_answers}
use Rattle.code_requests.proofs.sources_wait_for_answers.Goals as goal

pub returns : goal.returns
returns c = sources_wait_for_answers
