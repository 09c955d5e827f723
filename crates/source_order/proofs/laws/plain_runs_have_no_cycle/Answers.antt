use Rattle.source_order.proofs.PlainOrder.{plain_runs_have_no_cycle}
use Rattle.source_order.proofs.laws.plain_runs_have_no_cycle.Goals as goal

pub returns : goal.returns
returns c = plain_runs_have_no_cycle
