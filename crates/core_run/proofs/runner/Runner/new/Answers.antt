use Rattle.sc_core.specs.ViewStatements.{plain_program}
use Rattle.core_machine.proofs.Following.{begins_as_meant}
use Rattle.core_run.proofs.Answering.{stands_so}
use Rattle.core_run.proofs.runner.Runner.new.Goals as goal

pub returns-clause-stands : goal.returns-clause-stands
returns-clause-stands c =
    stands_so _ c.begin.new.self _ _ c.in-Ok.ensures (begins_as_meant (record {
      layout = c.args.layout.now;
      node = c.args.node;
      program = plain_program c.args.program.now;
    }) c.args.budget)
