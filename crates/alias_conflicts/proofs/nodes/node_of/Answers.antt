use Rattle.std.proofs.Common.{◌∙◌, ap, slice_get}
use Rattle.sc_base.specs.declared.shape.Shape.{Shape}
use Rattle.alias_conflicts.proofs.Cells.{shape_from}
use Rattle.alias_conflicts.proofs.TwoNodes.{region_cell}
use Rattle.alias_conflicts.proofs.nodes.node_of.Goals as goal

pub returns-then-shape : goal.returns-then-shape
returns-then-shape c = λ graph cell index is.
    (let f = shape_from (slice_get c.args.layout.now.objects c.in-Some.object) c.shape.result.now c.shape.ensures in
    c.node_of_cell.ensures cell
    (region_cell c.args.layout.now graph c.args.region.now c.in-Some.object c.in-One.index f.0 c.requires.lawful c.in-Some.is c.in-One.is f.1 (ap (λ (s : Shape). s.spread) f.2 ∙ c.if-shape.true) cell index is))
