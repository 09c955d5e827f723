use Rattle.std.proofs.Common.{◌∙◌}
use Rattle.history_replay.proofs.Fronts.{shows_next}
use Rattle.history_replay.proofs.front.next_request.Goals as goal

pub returns-clause-request : goal.returns-clause-request
returns-clause-request c = λ f at.
    c.request_of.ensures ∙ shows_next f.rest c.in_ok-step.step (c.in_ok-step.ensures.shows f.rest at.stands)
