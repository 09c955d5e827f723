use Rattle.sc_layout.specs.Bound.{number}
use Rattle.replay_tests.proofs.tests.judging.sources.four.Goals as goal

pub returns : goal.returns
returns c = rw (c.from_vec.ensures, c.in_ok-push.ensures.items, c.new-steps.ensures.items) (number _)
