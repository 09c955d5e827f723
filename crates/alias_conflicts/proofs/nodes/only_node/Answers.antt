use Rattle.std.proofs.Common.{◌∙◌, ap, sym, subst, slice_get}
use Rattle.sc_base.specs.declared.shape.Shape.{Shape}
use Rattle.site_graph.specs.declared.site.Form.{Form}
use Rattle.site_graph.specs.declared.site.Form.TheVariants.{Element}
use Rattle.alias_conflicts.specs.Across.{IsOnlyNode, AreOnNode}
use Rattle.alias_conflicts.proofs.Cells.{shape_from}
use Rattle.alias_conflicts.proofs.TwoNodes.{only_of_index, only_of_node, near_element, for_all, for_each}
use Rattle.alias_conflicts.proofs.nodes.only_node.Goals as goal

pub returns-then-shape : goal.returns-then-shape
returns-then-shape c =
    for_all c.only_index_node.result (λ graph. IsOnlyNode c.args.layout.now graph c.args.a c.args.p c.args.b)
    (λ graph. only_of_index c.args.layout.now graph c.args.a c.args.b c.in-Element.object c.in-Element.index c.args.p c.nodes.result c.in-Some.region c.only_index_node.result c.requires.lawful c.nodes.ensures
    c.in-Element.is (c.in-Some.ensures.exact graph) c.only_index_node.ensures)

pub returns-else-shape : goal.returns-else-shape
returns-else-shape c =
    (let f = shape_from (slice_get c.args.layout.now.objects c.in-Element.object) c.shape.result.now c.shape.ensures in
    for_each c.node_of.result (λ graph. AreOnNode c.args.layout.now graph c.in-Some.region) (λ graph. IsOnlyNode c.args.layout.now graph c.args.a c.args.p c.args.b)
    (λ graph n on. subst (λ (form : Form). IsOnlyNode c.args.layout.now graph c.args.a c.args.p form n) (sym c.in-Element.is)
    (only_of_node c.args.layout.now graph c.args.a (Element c.in-Element.object c.in-Element.index) c.args.p n c.in-Some.region (c.in-Some.ensures.exact graph)
    (near_element c.args.layout.now graph c.in-Element.object c.in-Element.index f.0 f.1 (ap (λ (s : Shape). s.spread) f.2 ∙ c.if-shape.false)) on))
    c.node_of.ensures)
