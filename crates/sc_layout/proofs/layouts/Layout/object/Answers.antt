use Rattle.std.proofs.Common.{◌≡◌, ◌^◌, ◌<◌, Some, slice_get, arith, rules}
use Rattle.std.proofs.lemmas.Grind.{common_steps}
use Rattle.std.proofs.lemmas.Option.{slice_get_read}
use Rattle.sc_layout.proofs.Kept.{small}
use Rattle.sc_layout.proofs.layouts.Layout.object.Goals as goal

pub returns-clause-small : goal.returns-clause-small
returns-clause-small c =
    let found : slice_get c.self.inside.objects.items c.args.object ≡ Some c.index.result.now = grind (arith, common_steps, slice_get_read) in
    let fits : c.self.inside.nodes < 2 ^ 32 = search rules in
    rw (← c.self.view_is) (small _ c.self.invariant fits c.args.object c.index.result.now found)
