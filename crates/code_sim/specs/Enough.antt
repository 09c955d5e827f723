-- Numbers of instructions that are enough for a code on the nodes of a layout.
use Rattle.std.specs.Prelude.{◌≡◌, ℕ, ◌<◌, ◌≤◌, List}
use Rattle.sc_layout.specs.Layout.{Arrangement}
use Rattle.sc_isa.specs.declared.code.Code.{Code}
use Rattle.sc_isa.specs.Run.{Answer, code_run}

-- so many instructions are enough: with more of them no node does anything else, whatever it is answered
pub record Suffices (code : Code) (layout : Arrangement) (budget many : ℕ) : Type 0 where
  pub same : (node more : ℕ) (answers : List Answer) → node < layout.nodes → many ≤ more
      → code_run code layout node budget more answers ≡ code_run code layout node budget many answers
