use Rattle.std.proofs.Common.{subst}
use Rattle.site_graph.specs.Bits.{AreInOrder}
use Rattle.site_graph.proofs.InOrder.{bits_in_order}
use Rattle.site_graph.proofs.bit_rows.BitRows.rows.Goals as goal

pub returns-clause-in_order : goal.returns-clause-in_order
returns-clause-in_order c = subst AreInOrder c.self.view_is (bits_in_order c.self.inside)
