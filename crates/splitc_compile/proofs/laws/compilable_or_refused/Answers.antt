use Rattle.splitc_compile.proofs.Answered.{some_told}
use Rattle.splitc_compile.proofs.laws.compilable_or_refused.Goals as goal

pub returns : goal.returns
returns c = some_told
