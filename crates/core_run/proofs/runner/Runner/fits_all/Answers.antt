use Rattle.std.proofs.Common.{sym}
use Rattle.core_run.proofs.Fitting.{too_few_or_many}
use Rattle.core_run.proofs.runner.Runner.fits_all.Goals as goal

pub returns-then-values-spots : goal.returns-then-values-spots
returns-then-values-spots c =
    sym (too_few_or_many c.args.self.now.layout.now c.getting-spots.result.now c.args.self.now.memory c.args.values.now
    c.getting-spots.ensures c.if-values-spots.true)
