use Rattle.msg_pool.specs.Inner.{parts_of}
use Rattle.msg_pool.proofs.Shown.{every_count}
use Rattle.msg_pool.proofs.pool.MsgPool.count.Goals as goal

pub returns : goal.returns
returns c = rw (← c.self.view_is) (every_count (parts_of c.self.inside) c.self.invariant)
