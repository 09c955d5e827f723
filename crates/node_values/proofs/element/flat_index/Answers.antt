use Rattle.std.proofs.Common.{◌≡◌, ◌<◌, length, map, drop, arith, refl, sym, ap, ◌∙◌}
use Rattle.node_values.specs.Elements.{bounds_of, short_flat}
use Rattle.node_values.specs.Operands.{int_in}
use Rattle.node_values.proofs.Indices.{go_within, go_outside, go_amiss, go_end}
use Rattle.node_values.proofs.element.flat_index.Goals as goal

pub returns-in-Outside : goal.returns-in-Outside
returns-in-Outside c =
    let lt : c.loop-dimension.dimension < length c.args.operands.now = omega arith in
    sym (go_outside c.args.layout.now c.args.object c.loop-dimension.dimension c.loop-dimension.flat c.args.operands.now _ _ lt
    refl c.in-Outside.ensures) ∙ c.loop-dimension.invariant

pub returns-in-Amiss : goal.returns-in-Amiss
returns-in-Amiss c =
    let lt : c.loop-dimension.dimension < length c.args.operands.now = omega arith in
    sym (go_amiss c.args.layout.now c.args.object c.loop-dimension.dimension c.loop-dimension.flat c.args.operands.now _ _ lt
    refl c.in-Amiss.ensures) ∙ c.loop-dimension.invariant

pub loop-dimension-preserved : goal.loop-dimension-preserved
loop-dimension-preserved c =
    let lt : c.loop-dimension.dimension < length c.args.operands.now = omega arith in
    sym (go_within c.args.layout.now c.args.object c.loop-dimension.dimension c.loop-dimension.flat c.args.operands.now _ _ lt
    refl c.in-Within.next c.in-Within.ensures) ∙ c.loop-dimension.invariant

pub returns : goal.returns
returns c =
    let all : length c.args.operands.now ≡ c.loop-dimension.dimension = omega arith in
    c.end_indices.ensures
    ∙ go_end c.args.layout.now c.args.object (length c.args.operands.now) c.loop-dimension.flat c.args.operands.now refl
    ∙ ap (λ k. short_flat (drop k (bounds_of c.args.layout.now c.args.object)) (map int_in (drop k c.args.operands.now))
    c.loop-dimension.flat) all
    ∙ c.loop-dimension.invariant
