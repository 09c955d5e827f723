use Rattle.std.proofs.Common.{◌∙◌, ap, sym, subst, slice_get}
use Rattle.sc_base.specs.declared.shape.Shape.{Shape}
use Rattle.site_graph.specs.declared.site.Form.{Form}
use Rattle.alias_conflicts.specs.Across.{IsAlike}
use Rattle.alias_conflicts.proofs.Cells.{shape_from}
use Rattle.alias_conflicts.proofs.TwoNodes.{alike_element}
use Rattle.alias_conflicts.proofs.nodes.is_alike.Goals as goal

pub returns-then-shape : goal.returns-then-shape
returns-then-shape c = λ e graph.
    (let f = shape_from (slice_get c.args.layout.now.objects c.in-Element.object) c.shape.result.now c.shape.ensures in
    subst (λ (form : Form). IsAlike c.args.layout.now form) (sym c.in-Element.is)
    (alike_element c.args.layout.now graph c.in-Element.object c.in-Element.index f.0 f.1 (ap (λ (s : Shape). s.spread) f.2 ∙ c.if-shape.true) (c.indices_are_alike.ensures e)) graph)
