use Rattle.core_machine.proofs.Once.{runs_once}
use Rattle.core_machine.proofs.laws.runs_in_one_way.Goals as goal

pub returns : goal.returns
returns c here s d other = runs_once here s d other
