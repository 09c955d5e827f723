use Rattle.splitc_compile.proofs.Answered.{compilable_not_refused}
use Rattle.splitc_compile.proofs.laws.compilable_is_not_refused.Goals as goal

pub returns : goal.returns
returns c = λ source nodes r. compilable_not_refused source nodes r
