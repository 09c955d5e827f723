use Rattle.code_sim.proofs.Stepped.{not_over}
use Rattle.code_sim.proofs.steps.step.Goals as goal

pub unreachable-requires : goal.unreachable-requires
unreachable-requires c =
    not_over c.args.code.now c.args.layout.now c.requires.sound c.args.runner.now.node.budget c.args.number c.args.fabric.now.past c.args.runner.now
    c.requires.runner c.requires.allowed c.in-None.is
