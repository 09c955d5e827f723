use Rattle.site_graph.proofs.Members.{range_push}
use Rattle.site_graph.proofs.reaching.numbers.Goals as goal

pub loop-number-preserved : goal.loop-number-preserved
loop-number-preserved c = range_push c.loop-number.number c.loop-number.all.items c.push.new.self.items c.loop-number.invariant c.in-Ok.ensures.items
