-- What is kept answers.
use Rattle.replay_laws.proofs.Answering.{books_answer}
use Rattle.replay_laws.proofs.laws.books_answer.Goals as goal

pub returns : goal.returns
returns c = books_answer
