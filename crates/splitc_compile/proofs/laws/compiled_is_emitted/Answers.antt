use Rattle.splitc_compile.proofs.Emitted.{compiled_is_emitted}
use Rattle.splitc_compile.proofs.laws.compiled_is_emitted.Goals as goal

pub returns : goal.returns
returns c = compiled_is_emitted
