use Rattle.std.proofs.Common.{ap, ◌∙◌}
use Rattle.replay_stages.specs.Laws.{ends_now}
use Rattle.history_replay.proofs.Fronts.{shows_stop}
use Rattle.history_replay.proofs.front.ends_as.Goals as goal

pub returns-clause-so : goal.returns-clause-so
returns-clause-so c = λ f at.
    c.is_end.ensures
    ∙ ap (ends_now c.args.end) (shows_stop f.rest c.in_ok-step.step (c.in_ok-step.ensures.shows f.rest at.stands))
