use Rattle.code_laws.proofs.Compilation.{code_does_as_its_source}
use Rattle.code_laws.proofs.code_does_as_its_source.Goals as goal

pub returns : goal.returns
returns c = code_does_as_its_source
