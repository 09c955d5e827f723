use Rattle.replay_tables.specs.Cells.{node_start}
use Rattle.replay_tables.proofs.Start.{one_more}
use Rattle.replay_tables.proofs.cells.node_at_start.Goals as goal

pub loop-object-preserved : goal.loop-object-preserved
loop-object-preserved c =
    one_more c.loop-object.objects.items c.push.new.self.items (node_start c.args.layout.now c.args.node) c.loop-object.object
    c.in_ok-values.values c.loop-object.invariant c.in_ok-push.ensures.items c.in_ok-values.ensures
