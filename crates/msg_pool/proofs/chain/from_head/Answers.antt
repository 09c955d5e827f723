use Rattle.msg_pool.proofs.WalkSteps.{step_forward}
use Rattle.msg_pool.proofs.chain.from_head.Goals as goal

pub loop-preserved : goal.loop-preserved
loop-preserved c = step_forward _ _ c.loop.at _ c.loop.counter c.requires.linked c.loop.invariant c.next-at.ensures
