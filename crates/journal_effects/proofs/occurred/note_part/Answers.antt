use Rattle.journal_effects.proofs.Kept.{parts_more}
use Rattle.journal_effects.proofs.occurred.note_part.Goals as goal

pub returns-in-Ok : goal.returns-in-Ok
returns-in-Ok c = parts_more c.args.parts.now c.insert.new.self c.args.effect c.in-Ok.ensures.updates
