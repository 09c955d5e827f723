use Rattle.std.proofs.Common.{◌≡◌, ◌≢◌, sym, ap, ◌∙◌, length, arith}
use Rattle.std.proofs.lemmas.Grind.{common_steps}
use Rattle.node_emit.proofs.Sources.{zero-nil, zero-some}
use Rattle.node_emit.proofs.steps.zero_of.Goals as goal

pub returns-then-is_empty : goal.returns-then-is_empty
returns-then-is_empty c =
    let e : length c.args.ty.now.stars ≡ length c.as_slice.result.now = sym (ap length c.as_slice.ensures) in
    let h : length c.as_slice.result.now ≡ 0 = grind (arith, common_steps) in
    sym (zero-nil c.args.ty.now (e ∙ h))

pub returns-else-is_empty : goal.returns-else-is_empty
returns-else-is_empty c =
    let e : length c.args.ty.now.stars ≡ length c.as_slice.result.now = sym (ap length c.as_slice.ensures) in
    let h : length c.as_slice.result.now ≢ 0 = grind (arith, common_steps) in
    sym (zero-some c.args.ty.now (λ z. h (sym e ∙ z)))
