use Rattle.std.proofs.Common.{◌++◌, ◌-◌, ◌^◌, min, sym, ◌∙◌, ap}
use Rattle.std.proofs.lemmas.Result.{err_from_is_err_and}
use Rattle.sc_layout.specs.Layout.{product}
use Rattle.sc_layout.proofs.Extents.{left_cause, right_cause, made, left_part, right_part}
use Rattle.sc_layout.proofs.objects.Object.of.Goals as goal

pub returns-in_err-left : goal.returns-in_err-left
returns-in_err-left c =
    let p = err_from_is_err_and c.from_residual.result c.from_residual.ensures.1 in
    rw (p.1, p.2) (left_cause c.args.nodes c.args.shape.now _ (rw c.as_slice.ensures at c.in_err-left.ensures))

pub returns-in_err-right : goal.returns-in_err-right
returns-in_err-right c =
    let p = err_from_is_err_and c.from_residual-in_err-right.result c.from_residual-in_err-right.ensures.1 in
    rw (p.1, p.2) (right_cause c.args.nodes c.args.shape.now c.in_ok-left.left.items _ (rw c.as_slice.ensures at c.in_ok-left.ensures) (rw c.as_slice-2.ensures at c.in_err-right.ensures))

pub invariant_of-result : goal.invariant_of-result
invariant_of-result c =
    let lefts = rw c.as_slice.ensures at c.in_ok-left.ensures in
    let all = c.in_ok-extend_from_slice.ensures.items ∙ ap (λ ys. c.in_ok-left.left.items ++ ys) c.as_slice-5.ensures.value in
    let left = left_part c.args.nodes c.args.shape.now _ _ _ _ c.in_ok-copy_of_shape.ensures lefts all in
    let right = right_part c.args.nodes c.args.shape.now _ _ _ _ c.in_ok-copy_of_shape.ensures lefts all in (
      c.product_of-blocks.ensures ∙ ap (λ xs. min (product xs) (2 ^ 128 - 1)) (c.as_slice-3.ensures.value ∙ sym left),
      c.product_of-block.ensures ∙ ap (λ xs. min (product xs) (2 ^ 128 - 1)) (c.as_slice-4.ensures.value ∙ sym right),
    )

pub returns : goal.returns
returns c =
    let lefts = rw c.as_slice.ensures at c.in_ok-left.ensures in
    let rights = rw c.as_slice-2.ensures at c.in_ok-right.ensures in
    let all = c.in_ok-extend_from_slice.ensures.items ∙ ap (λ ys. c.in_ok-left.left.items ++ ys) c.as_slice-5.ensures.value in
    made c.args.nodes c.args.shape.now _ _ _ _ c.in_ok-copy_of_shape.ensures lefts rights all
