use Rattle.std.proofs.Common.{ℕ, List}
use Rattle.sc_meaning.specs.Asking.{SourceDoing}
use Rattle.core_run.specs.Seen.{IsTowards}
use Rattle.core_run.proofs.runner.Runner.run.Given as goal

abbrev pub invariant-loop : goal.invariant-loop
invariant-loop l = (text : List ℕ) (rest : SourceDoing) → IsTowards text rest l.fn.self → IsTowards text rest l.self
