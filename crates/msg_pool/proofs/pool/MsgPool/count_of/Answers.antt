use Rattle.msg_pool.specs.Inner.{parts_of}
use Rattle.msg_pool.proofs.Shown.{issuer_count}
use Rattle.msg_pool.proofs.pool.MsgPool.count_of.Goals as goal

pub returns : goal.returns
returns c =
    rw (← c.self.view_is, c.chain_of-chain.ensures, c.as_slice.ensures.value)
    (issuer_count (parts_of c.self.inside) c.self.invariant c.args.issuer)
