use Rattle.std.proofs.Common.{sym, ◌∙◌}
use Rattle.std.proofs.lemmas.Result.{on_ok_weaker}
use Rattle.core_state.specs.PlainDeeds.{plain_done}
use Rattle.core_run.proofs.Enacting.{enacts_by}
use Rattle.core_run.proofs.runner.Runner.enact.Goals as goal

pub returns : goal.returns
returns c =
    let old = c.args.self.now in
    on_ok_weaker c.enact_deed.result
    (enacts_by old c.enact_deed.new.self c.args.action c.args.count c.args.line c.drop_last.new.self c.mode_of.result
    (plain_done c.action_deed-deed.result) c.last.result.now c.in_default.not-Print (sym c.has.ensures ∙ c.if-not-has.false)
    c.last.ensures.values (λ e. c.action_deed-deed.ensures old.program.now.texts e c.last.ensures.here) c.mode_of.ensures
    c.drop_last.ensures) c.enact_deed.ensures
