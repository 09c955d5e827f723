use Rattle.core_machine.proofs.Following.{begins_as_meant}
use Rattle.core_machine.proofs.laws.machine_follows_meaning.Goals as goal

pub returns : goal.returns
returns c here budget = begins_as_meant here budget
