use Rattle.splitc_compile.proofs.Answered.{refused_once}
use Rattle.splitc_compile.proofs.laws.at_most_one_refusal.Goals as goal

pub returns : goal.returns
returns c = refused_once
