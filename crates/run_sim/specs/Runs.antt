-- The runs of a compiled source by picks.
use Rattle.std.specs.Prelude.{ℕ}
use Rattle.fabric.specs.declared.state.Run.{Run}
use Rattle.code_sim.specs.Ran.{IsCodeRun}
use Rattle.splitc_compile.specs.Compiled.{Parts}

-- the run is that of the code on the nodes of the layout
abbrev pub IsRunOf : Parts → (budget : ℕ) → (picks : ℕ → ℕ) → Run → Type 0
IsRunOf parts budget picks run = IsCodeRun parts.code parts.layout budget picks run
