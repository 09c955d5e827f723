use Rattle.std.proofs.Common.{refl, ap, ◌∙◌, Some}
use Rattle.std.proofs.lemmas.Result.{on_ok_weaker}
use Rattle.sc_core.specs.View.{plain_core}
use Rattle.core_machine.specs.Todo.{evaluates}
use Rattle.core_run.specs.declared.task.Task.TheVariants as task
use Rattle.core_run.proofs.Deciding.{if_true, if_false, if_none}
use Rattle.core_run.proofs.runner.Runner.choose_value.Goals as goal

pub returns-in-Some-true : goal.returns-in-Some-true
returns-in-Some-true c =
    on_ok_weaker c.push.result (if_true c.args.self.now c.decided.new.self c.args.of_pointer c.decided.result
    c.decided.ensures.test c.decided.ensures.kept (evaluates (plain_core c.args.yes.now)) (evaluates (plain_core c.args.no.now)) (task.Evaluate c.args.yes) c.push.new.self
    (c.in-Some-true.is ∙ ap Some c.in-Some-true.field-0-test) refl) c.push.ensures

pub returns-in-Some-false : goal.returns-in-Some-false
returns-in-Some-false c =
    on_ok_weaker c.push-in-Some-false.result (if_false c.args.self.now c.decided.new.self c.args.of_pointer c.decided.result
    c.decided.ensures.test c.decided.ensures.kept (evaluates (plain_core c.args.yes.now)) (evaluates (plain_core c.args.no.now)) (task.Evaluate c.args.no) c.push-in-Some-false.new.self
    (c.in-Some-false.is ∙ ap Some c.in-Some-false.field-0-test) refl) c.push-in-Some-false.ensures

pub returns-in-None : goal.returns-in-None
returns-in-None c =
    on_ok_weaker c.halt.result (if_none c.args.self.now c.decided.new.self c.args.of_pointer c.decided.result
    c.decided.ensures.test c.decided.ensures.kept (evaluates (plain_core c.args.yes.now)) (evaluates (plain_core c.args.no.now)) c.halt.new.self c.in-None.is) c.halt.ensures.stands
