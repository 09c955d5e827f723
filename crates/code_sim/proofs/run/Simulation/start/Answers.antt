use Rattle.code_sim.proofs.Ready.{begins}
use Rattle.code_sim.proofs.run.Simulation.start.Goals as goal

pub returns-clause-under_way : goal.returns-clause-under_way
returns-clause-under_way c =
    begins c.args.code.now c.args.layout.now c.args.budget c.in_ok-fabric.fabric c.in_ok-nodes.nodes.items c.in_ok-fabric.ensures.layout c.in_ok-fabric.ensures.sites
    c.in_ok-fabric.ensures.past c.in_ok-nodes.ensures.count c.in_ok-nodes.ensures.each
