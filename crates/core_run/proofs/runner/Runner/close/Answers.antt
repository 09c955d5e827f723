use Rattle.sc_meaning.specs.Meaning.{constant_of}
use Rattle.core_run.specs.Views.{setting_of}
use Rattle.core_run.proofs.Advancing.{closes_on}
use Rattle.core_run.proofs.runner.Runner.close.Goals as goal

pub returns : goal.returns
returns c =
    closes_on c.args.self.now c.constant.new.self c.leave.new.self c.args.zero c.args.line
    (constant_of (setting_of c.args.self.now) c.args.zero) c.push.new.self c.in_ok-constant.ensures c.in_ok-push.ensures c.in_ok-leave.ensures
