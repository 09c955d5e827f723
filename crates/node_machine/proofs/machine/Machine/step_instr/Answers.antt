use Rattle.node_machine.proofs.Doing.{quietly}
use Rattle.node_machine.proofs.machine.Machine.step_instr.Goals as goal

pub returns-in_ok-made-in_default : goal.returns-in_ok-made-in_default
returns-in_ok-made-in_default c = record {
  done = λ flying counts. quietly _ _ _ c.args.printed.now.items (c.in_ok-made-in_default.ensures.done flying counts);
  refused = tt;
  kept = tt;
  counters = c.in_ok-made-in_default.ensures.counters;
}
