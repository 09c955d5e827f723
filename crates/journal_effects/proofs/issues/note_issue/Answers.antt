use Rattle.journal_effects.proofs.issues.note_issue.Goals as goal

pub returns-in-Ok : goal.returns-in-Ok
returns-in-Ok c = λ other n. c.in-Ok.ensures.updates.0 (other, n)
