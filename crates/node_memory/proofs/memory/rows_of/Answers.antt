use Rattle.node_memory.specs.Rows.{rows_at_start}
use Rattle.node_memory.proofs.Rows.{one_row}
use Rattle.node_memory.proofs.memory.rows_of.Goals as goal

pub loop-object-preserved : goal.loop-object-preserved
loop-object-preserved c =
    one_row c.loop-object.rows.items c.push.new.self.items (rows_at_start c.args.layout.now) c.loop-object.object c.in_ok-row.row
    c.loop-object.invariant c.in-Ok.ensures.items c.in_ok-row.ensures
