-- What is kept goes on.
use Rattle.replay_laws.proofs.Going.{books_go_on}
use Rattle.replay_laws.proofs.laws.books_go_on.Goals as goal

pub returns : goal.returns
returns c = books_go_on
