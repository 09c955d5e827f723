use Rattle.std.proofs.Common.{◌≡◌, length}
use Rattle.core_machine.specs.Moves.{left_by_break}
use Rattle.core_run.specs.Views.{all_of}
use Rattle.core_run.proofs.runner.Runner.drop_loop.Given as goal

abbrev pub invariant-loop-task : goal.invariant-loop-task
invariant-loop-task l =
    (left_by_break (all_of l.self.tasks) ≡ left_by_break (all_of l.fn.self.tasks)) × (l.self ≡ record l.fn.self { tasks = l.self.tasks })

abbrev pub decreases-loop-task : goal.decreases-loop-task
decreases-loop-task l = length l.self.tasks
