use Rattle.code_requests.proofs.Stories.{journals_are_played}
use Rattle.code_requests.proofs.journals_are_played.Goals as goal

pub returns : goal.returns
returns c = journals_are_played
