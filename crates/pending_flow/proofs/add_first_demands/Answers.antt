use Rattle.pending_flow.proofs.Adding.{site_added}
use Rattle.pending_flow.proofs.add_first_demands.Goals as goal

pub returns : goal.returns
returns c =
    site_added c.args.flow.now c.args.demand.now c.in_ok-found.found c.args.pending.now c.add_common.new.self c.args.site c.args.at c.in_ok-found.ensures
    c.add_common.ensures
