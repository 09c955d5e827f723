use Rattle.replay_stages.proofs.Courses.{courses_are_followed}
use Rattle.replay_stages.proofs.laws.courses_are_followed.Goals as goal

pub returns : goal.returns
returns c = courses_are_followed
