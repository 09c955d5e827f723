use Rattle.std.proofs.Common.{◌∙◌, ap, map, length, get_or, arith}
use Rattle.sc_core.specs.ViewStatements.{plain_function, plain_program}
use Rattle.node_emit.proofs.Sources.{function-there, first-over, within-more, all-within}
use Rattle.node_emit.proofs.whole.check_locals.Goals as goal

pub returns-then-count-clause-refused : goal.returns-then-count-clause-refused
returns-then-count-clause-refused c =
    let e = ap length c.as_slice-f-items.ensures in
    first-over (plain_program c.args.core.now) c.loop-f.f-index (plain_function c.f-item.result) c.in_ok-count.count
    (function-there c.args.core.now.functions c.loop-f.f-index c.f-item.result (omega (arith, e))
    (c.f-item.is ∙ ap (λ l. get_or l c.loop-f.f-index c.f-item.result) c.as_slice-f-items.ensures))
    c.in_ok-count.ensures c.if-count.true c.loop-f.invariant

pub loop-f-preserved : goal.loop-f-preserved
loop-f-preserved c =
    let e = ap length c.as_slice-f-items.ensures in
    let n = c.in_ok-count.ensures in
    within-more (map plain_function c.args.core.now.functions) c.loop-f.f-index (plain_function c.f-item.result)
    (function-there c.args.core.now.functions c.loop-f.f-index c.f-item.result (omega (arith, e))
    (c.f-item.is ∙ ap (λ l. get_or l c.loop-f.f-index c.f-item.result) c.as_slice-f-items.ensures))
    (omega (arith, c.if-count.false, n)) c.loop-f.invariant

pub returns-clause-within : goal.returns-clause-within
returns-clause-within c =
    let e = ap length c.as_slice-f-items.ensures in
    all-within c.args.core.now.functions c.loop-f.f-index (omega (arith, e)) c.loop-f.invariant
