use Rattle.std.proofs.Common.{◌∷◌, refl, ap, ◌∙◌}
use Rattle.std.proofs.lemmas.Result.{on_ok_weaker}
use Rattle.core_machine.specs.Moves.{at_work}
use Rattle.core_run.specs.Views.{all_of, setting_of}
use Rattle.core_run.proofs.runner.Runner.constant.Goals as goal

pub returns : goal.returns
returns c =
    let old = c.args.self.now in
    on_ok_weaker c.push.result (λ e. record {
      state = ap (λ vs. at_work (all_of old.tasks) vs old.memory old.left)
          (e ∙ ap (λ v. v ∷ old.values) (c.constant.ensures (setting_of old) refl refl));
      program = refl;
      layout = refl;
      node = refl;
      printed = refl;
    }) c.push.ensures
