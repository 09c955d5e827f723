use Rattle.std.proofs.Common.{◌<◌, ◌^◌, Some, None, sym, ap, ◌∙◌, subst, arith, slice_get}
use Rattle.sc_base.specs.declared.shape.Shape.{Shape}
use Rattle.alias_conflicts.specs.Regions.{AreIndices, IsRegionOf}
use Rattle.alias_conflicts.proofs.Cells.{shape_from}
use Rattle.alias_conflicts.proofs.Reaching.{element_none, element_spread, element_ordinary, own_region, own_exposed_region, exposed_region}
use Rattle.alias_conflicts.proofs.region.region_of.Goals as goal

pub returns-in_err-indices-in-Element-clause-exact : goal.returns-in_err-indices-in-Element-clause-exact
returns-in_err-indices-in-Element-clause-exact c = λ graph.
    (let few : c.args.layout.now.nodes < 2 ^ 32 = omega arith in
    let are : AreIndices c.args.layout.now.nodes c.args.node c.in-Element.index None = subst (λ n. AreIndices n c.args.node c.in-Element.index None) c.nodes.ensures c.in_err-indices-in-Element.ensures.exact in
    let whole = element_none c.args.layout.now graph c.in-Element.object c.in-Element.index c.args.node c.requires.lawful few are in
    let form = subst (λ f. IsRegionOf c.args.layout.now graph f c.args.node None) (sym c.in-Element.is) whole in
    subst (λ r. IsRegionOf c.args.layout.now graph c.args.form c.args.node r) (sym c.from_residual.ensures) form)

pub returns-then-spread-clause-exact : goal.returns-then-spread-clause-exact
returns-then-spread-clause-exact c = λ graph.
    (let few : c.args.layout.now.nodes < 2 ^ 32 = omega arith in
    let f = shape_from (slice_get c.args.layout.now.objects c.in-Element.object) c.shape.result.now c.shape.ensures in
    let are : AreIndices c.args.layout.now.nodes c.args.node c.in-Element.index (Some c.in_ok-indices-in-Element.indices) = subst (λ n. AreIndices n c.args.node c.in-Element.index (Some c.in_ok-indices-in-Element.indices)) c.nodes.ensures c.in_ok-indices-in-Element.ensures.exact in
    let whole = element_spread c.args.layout.now graph c.in-Element.object c.in-Element.index c.args.node c.in_ok-indices-in-Element.indices f.0 c.requires.lawful few c.requires.node f.1
    (ap (λ (s : Shape). s.spread) f.2 ∙ c.if-spread.true) are in
    subst (λ f. IsRegionOf c.args.layout.now graph f c.args.node (Some (record { object = Some c.in-Element.object; node = None; indices = c.in_ok-indices-in-Element.indices }))) (sym c.in-Element.is) whole)

pub returns-else-spread-clause-exact : goal.returns-else-spread-clause-exact
returns-else-spread-clause-exact c = λ graph.
    (let few : c.args.layout.now.nodes < 2 ^ 32 = omega arith in
    let f = shape_from (slice_get c.args.layout.now.objects c.in-Element.object) c.shape.result.now c.shape.ensures in
    let are : AreIndices c.args.layout.now.nodes c.args.node c.in-Element.index (Some c.in_ok-indices-in-Element.indices) = subst (λ n. AreIndices n c.args.node c.in-Element.index (Some c.in_ok-indices-in-Element.indices)) c.nodes.ensures c.in_ok-indices-in-Element.ensures.exact in
    let whole = element_ordinary c.args.layout.now graph c.in-Element.object c.in-Element.index c.args.node c.in_ok-indices-in-Element.indices f.0 c.requires.lawful few c.requires.node f.1
    (ap (λ (s : Shape). s.spread) f.2 ∙ c.if-spread.false) are in
    subst (λ f. IsRegionOf c.args.layout.now graph f c.args.node (Some (record { object = Some c.in-Element.object; node = Some c.args.node; indices = c.in_ok-indices-in-Element.indices }))) (sym c.in-Element.is) whole)

pub returns-in-Own-clause-exact : goal.returns-in-Own-clause-exact
returns-in-Own-clause-exact c = λ graph cell.
    rw c.in-Own.is (own_region c.args.layout.now graph c.in-Own.object c.args.node c.requires.lawful c.requires.node cell)

pub returns-in-OwnExposed-clause-exact : goal.returns-in-OwnExposed-clause-exact
returns-in-OwnExposed-clause-exact c = λ graph cell.
    rw c.in-OwnExposed.is (own_exposed_region c.args.layout.now graph c.args.node c.requires.lawful c.requires.node cell)

pub returns-in-Exposed-clause-exact : goal.returns-in-Exposed-clause-exact
returns-in-Exposed-clause-exact c = λ graph cell.
    rw c.in-Exposed.is (exposed_region c.args.layout.now graph c.args.node c.requires.lawful cell)
