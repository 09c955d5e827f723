use Rattle.std.proofs.Common.{◌+◌, ◌<◌, ◌^◌, reverse, arith}
use Rattle.fabric.proofs.Issues.{next_few}
use Rattle.fabric.proofs.log.Log.issue.Goals as goal

pub overflow_add-number : goal.overflow_add-number
overflow_add-number c =
    let h : c.index-number.result.now + 1 < 2 ^ 64 =
    next_few c.self.inside.issued.items (reverse c.self.inside.entries.items) c.args.node c.index-number.result.now _ c.self.invariant
    (rw (← c.self.view_is) at c.requires.node) c.index-number.ensures (rw (← c.self.view_is) at c.len-len.ensures.short) in
    omega (arith, h)
