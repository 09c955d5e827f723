use Rattle.std.proofs.Common.{◌<◌, ◌≤◌, ◌∙◌, length, [], sym, arith}
use Rattle.sc_isa.specs.declared.code.FnRow.{FnRow}
use Rattle.node_machine.proofs.Beginning.{named_none, named_next}
use Rattle.node_machine.proofs.begin.row_named.Goals as goal

row : FnRow
row = record { start = 0; params = 0; locals = 0 }

pub returns-then-number-names : goal.returns-then-number-names
returns-then-number-names c =
    let lt : c.loop-number.number < length c.args.functions.now = omega arith in
    let past : length c.args.names.now ≤ c.loop-number.number = omega arith in
    sym (named_none c.args.name.now c.args.functions.now c.args.names.now c.loop-number.number row [] [] lt past)
    ∙ c.loop-number.invariant

pub loop-number-preserved : goal.loop-number-preserved
loop-number-preserved c =
    let lt : c.loop-number.number < length c.args.functions.now = omega arith in
    let within : c.loop-number.number < length c.args.names.now = omega arith in
    sym (named_next c.args.name.now c.args.functions.now c.args.names.now c.loop-number.number row c.index-names-number.result
    c.as_slice.result.now lt within
    (sym c.index-names-number.is ∙ sym c.as_slice.ensures) (sym c.eq.ensures ∙ c.if-eq.false))
    ∙ c.loop-number.invariant
