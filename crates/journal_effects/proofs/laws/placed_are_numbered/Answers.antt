use Rattle.journal_effects.proofs.Placed.{placed_are_numbered}
use Rattle.journal_effects.proofs.laws.placed_are_numbered.Goals as goal

pub returns : goal.returns
returns c = placed_are_numbered
