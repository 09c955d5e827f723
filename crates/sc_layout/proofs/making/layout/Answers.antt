use Rattle.std.proofs.Common.{arith}
use Rattle.sc_layout.proofs.Kept.{too_many, laid}
use Rattle.sc_layout.proofs.making.layout.Goals as goal

pub returns-then-cells : goal.returns-then-cells
returns-then-cells c =
    too_many c.args.nodes c.args.shapes.now c.in_ok-objects.objects.items c.cells_on_fullest-cells.result (omega arith) c.in_ok-objects.ensures (rw c.as_slice.ensures.value at c.cells_on_fullest-cells.ensures) (omega arith)

pub of-requires : goal.of-requires
of-requires c =
    laid c.args.nodes c.args.shapes.now c.in_ok-objects.objects.items c.cells_on_fullest-cells.result c.requires.some_node c.requires.lawful (omega arith) c.in_ok-objects.ensures (rw c.as_slice.ensures.value at c.cells_on_fullest-cells.ensures) (omega arith)
