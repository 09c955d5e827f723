use Rattle.meaning_laws.proofs.Budgeted.{budget_bounds}
use Rattle.meaning_laws.proofs.runs.budget_bounds.Goals as goal

pub returns : goal.returns
returns c = budget_bounds
