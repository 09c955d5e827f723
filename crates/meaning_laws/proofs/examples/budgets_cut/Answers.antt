use Rattle.meaning_laws.proofs.Cuts.{budgets_cut}
use Rattle.meaning_laws.proofs.examples.budgets_cut.Goals as goal

pub returns : goal.returns
returns c = budgets_cut
