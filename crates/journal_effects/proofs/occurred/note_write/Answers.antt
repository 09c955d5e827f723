use Rattle.journal_effects.proofs.Kept.{written_more}
use Rattle.journal_effects.proofs.occurred.note_write.Goals as goal

pub returns-in-Ok : goal.returns-in-Ok
returns-in-Ok c = written_more c.args.written.now c.insert.new.self c.args.effect c.requires c.in-Ok.ensures.updates
