-- The run of a compiled source by a seed's picks.
use Rattle.std.specs.Prelude.{ℕ}
use Rattle.splitc_compile.specs.Compiled.{Parts}
use Rattle.fabric.specs.declared.state.Run.{Run}
use Rattle.code_sim.specs.Picks.{seed_word}
use Rattle.run_sim.specs.Runs.{IsRunOf}

abbrev pub IsSeedRun : Parts → (seed budget : ℕ) → Run → Type 0
IsSeedRun p seed budget run = IsRunOf p budget (seed_word seed) run
