use Rattle.std.proofs.Common.{arith}
use Rattle.msg_pool.proofs.WalkSteps.{step_back, tail_at}
use Rattle.msg_pool.proofs.chain.from_tail.Goals as goal

pub loop-init : goal.loop-init
loop-init c = tail_at _ c.args.chain.tail _ c.requires.linked.tail c.requires.linked.count (omega arith)

pub loop-preserved : goal.loop-preserved
loop-preserved c =
    step_back _ _ c.loop.at _ c.args.chain.count c.args.steps c.loop.counter c.requires.linked.linked
    c.requires.linked.count c.requires.within c.loop-test.true c.loop.invariant c.previous-at.ensures
