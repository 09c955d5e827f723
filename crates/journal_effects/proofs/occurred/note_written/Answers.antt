use Rattle.journal_effects.proofs.Kept.{written_same}
use Rattle.journal_effects.proofs.occurred.note_written.Goals as goal

pub returns-else-effect : goal.returns-else-effect
returns-else-effect c = written_same c.args.written.now c.args.effect c.if-effect.false
