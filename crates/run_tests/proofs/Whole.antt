-- The run by picks of a compiled source is a whole run of its code.
use Rattle.std.proofs.Common.{ℕ, arith}
use Rattle.fabric.specs.declared.state.Run.{Run}
use Rattle.splitc_compile.specs.Compiled.{Parts}
use Rattle.run_sim.specs.Runs.{IsRunOf}
use Rattle.compiled_order.specs.Order.{IsRunOfCode}

pub of_code : (p : Parts) (budget : ℕ) (picks : ℕ → ℕ) (run : Run) → IsRunOf p budget picks run → IsRunOfCode p budget run.journal
of_code p budget picks run ran =
    let by = ran.from_there ran.many (omega arith) in (ran.many, record { legal = by.legal; complete = by.complete })
