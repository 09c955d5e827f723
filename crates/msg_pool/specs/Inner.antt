-- A pool's fields as its parts. No public clause cites this module.
use Rattle.msg_pool.specs.declared.pool.MsgPool.TheInside.{Inside}
use Rattle.msg_pool.specs.Sound.{Parts}

abbrev pub parts_of : Inside → Parts
parts_of p =
    record { slots = p.slots; every = p.every; issuers = p.issuers.items; targets = p.targets.items; puts = p.puts }
