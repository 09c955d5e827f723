use Rattle.std.proofs.Common.{ap, ◌∙◌, ◌++◌, subst}
use Rattle.resumption.specs.Resumption.{next_text}
use Rattle.core_run.specs.Seen.{Stands}
use Rattle.core_run.specs.Views.{plain_answer}
use Rattle.history_replay.proofs.Fronts.{takes_ok, refuses_ok}
use Rattle.history_replay.proofs.front.answer.Goals as goal

pub returns-clause-taken : goal.returns-clause-taken
returns-clause-taken c = λ start given requests f r at course next asked.
    takes_ok start given requests f r course next c.answer.result c.answer.new.self (plain_answer c.args.answer) asked
    (ap (λ p. p.items) c.answer.ensures.printed ∙ c.in_ok-next.ensures.printed f.rest at.stands
    ∙ ap (λ t. t ++ next_text f.rest) at.text)
    (λ request fits go e. c.answer.ensures.fits request fits go
    (subst (Stands c.next.new.self) e (c.in_ok-next.ensures.stands f.rest at.stands)))
    (λ request fits go e. c.answer.ensures.taken request fits go
    (subst (Stands c.next.new.self) e (c.in_ok-next.ensures.stands f.rest at.stands)))

pub returns-clause-refused : goal.returns-clause-refused
returns-clause-refused c = λ start given requests f r at course next asked.
    refuses_ok start given requests f r course next c.answer.result (plain_answer c.args.answer) asked
    (λ request fits go e. c.answer.ensures.fits request fits go
    (subst (Stands c.next.new.self) e (c.in_ok-next.ensures.stands f.rest at.stands)))
