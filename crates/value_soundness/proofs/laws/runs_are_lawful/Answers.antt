use Rattle.std.proofs.Common.{[]}
use Rattle.sc_meaning.specs.Meaning.{meaning}
use Rattle.value_soundness.proofs.Sources.{promises, runs}
use Rattle.value_soundness.proofs.laws.runs_are_lawful.Goals as goal

pub returns : goal.returns
returns c layout program exposed node budget given source below among names =
    runs layout exposed (meaning (record { layout = layout; node = node; program = program }) budget) [] given
    (promises layout program exposed node budget source below among) names
