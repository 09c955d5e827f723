use Rattle.std.proofs.Common.{◌++◌}
use Rattle.resumption.specs.Resumption.{next_text, past_text}
use Rattle.core_run.proofs.Running.{sets_out}
use Rattle.core_run.proofs.runner.Runner.next.Goals as goal

pub returns-clause-stands : goal.returns-clause-stands
returns-clause-stands c = λ d h.
    let old = c.args.self.now in
    let there = c.in-Ok.ensures.towards (old.printed.items ++ next_text d) (past_text d) (sets_out old d h) in there.0

pub returns-clause-shows : goal.returns-clause-shows
returns-clause-shows c = λ d h.
    let old = c.args.self.now in
    let there = c.in-Ok.ensures.towards (old.printed.items ++ next_text d) (past_text d) (sets_out old d h) in there.1

pub returns-clause-printed : goal.returns-clause-printed
returns-clause-printed c = λ d h.
    let old = c.args.self.now in
    let there = c.in-Ok.ensures.towards (old.printed.items ++ next_text d) (past_text d) (sets_out old d h) in there.2
