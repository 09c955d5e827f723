use Rattle.std.proofs.Common.{ap, ◌∙◌, ◌++◌, subst}
use Rattle.resumption.specs.Resumption.{next_text}
use Rattle.core_run.specs.Seen.{Stands}
use Rattle.history_replay.proofs.Fronts.{passes}
use Rattle.history_replay.proofs.front.pass.Goals as goal

pub returns : goal.returns
returns c = λ start given requests f r at course next made.
    passes start given requests f r course next c.pass.new.self made
    (ap (λ p. p.items) c.pass.ensures.printed ∙ c.in_ok-next.ensures.printed f.rest at.stands
    ∙ ap (λ t. t ++ next_text f.rest) at.text)
    (λ request rest e. c.pass.ensures.stands request rest
    (subst (Stands c.next.new.self) e (c.in_ok-next.ensures.stands f.rest at.stands)))
