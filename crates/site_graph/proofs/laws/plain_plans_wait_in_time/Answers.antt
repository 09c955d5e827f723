use Rattle.site_graph.proofs.Ways.{plain_plans}
use Rattle.site_graph.proofs.laws.plain_plans_wait_in_time.Goals as goal

pub returns : goal.returns
returns c = plain_plans
