use Rattle.std.proofs.Common.{◌≤◌, length, arith}
use Rattle.sc_layout.proofs.Kept.{kept}
use Rattle.sc_layout.proofs.layouts.Layout.count.Goals as goal

pub overflow_cast-result : goal.overflow_cast-result
overflow_cast-result c =
    let few : length c.self.inside.objects.items ≤ 256 = (kept _ c.self.invariant).count in
    grind (arith, c.len.ensures)
