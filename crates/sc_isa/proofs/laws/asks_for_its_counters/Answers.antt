use Rattle.sc_isa.proofs.Counters.{of_code}
use Rattle.sc_isa.proofs.laws.asks_for_its_counters.Goals as goal

pub returns : goal.returns
returns c code layout node budget many answers = of_code code layout node budget many answers
