use Rattle.std.proofs.Common.{sym, ◌∙◌}
use Rattle.core_run.proofs.Running.{breaks_there, stops_there}
use Rattle.core_run.proofs.runner.Runner.run.Goals as goal

pub returns-in_default-clause-towards : goal.returns-in_default-clause-towards
returns-in_default-clause-towards c = λ text rest w.
    breaks_there c.loop.self c.halt.new.self c.pop.new.self text rest c.in_default.ensures.0 c.in_ok-halt.ensures.stands
    (c.loop.invariant text rest w)

pub returns-in-Some-step_at-clause-towards : goal.returns-in-Some-step_at-clause-towards
returns-in-Some-step_at-clause-towards c = λ text rest w.
    stops_there c.loop.self c.in-Some.task c.pop.new.self c.push.new.self c.in-Some-step_at.step text rest c.in-Some.ensures
    c.in_ok-push.ensures (sym c.step_at.ensures ∙ c.in-Some-step_at.is) (c.loop.invariant text rest w)
