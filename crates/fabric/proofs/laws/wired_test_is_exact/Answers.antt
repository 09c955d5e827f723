use Rattle.fabric.proofs.Tested.{wired_of, of_wired}
use Rattle.fabric.proofs.laws.wired_test_is_exact.Goals as goal

pub returns : goal.returns
returns c = λ start nodes past. (wired_of start nodes past, of_wired start nodes past)
