use Rattle.std.proofs.Common.{◌-◌, length, arith}
use Rattle.std.proofs.lemmas.Grind.{common_steps}
use Rattle.sc_io.proofs.ByteLists.{kept_front}
use Rattle.sc_io.proofs.steady.SteadySinkSink.put.Goals as goal

-- more was put than there is room for: what is kept is the front of all, up to the room
pub returns-then-n-bytes-clause-after : goal.returns-then-n-bytes-clause-after
returns-then-n-bytes-clause-after c =
    let kept = kept_front c.self.inside.bytes.items c.args.bytes.now c.self.inside.room (c.self.inside.room - length c.self.inside.bytes.items) (omega arith) in
    rw (← c.self.view_is) (grind (arith, common_steps, kept))
