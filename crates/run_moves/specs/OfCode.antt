-- The machine that runs a code.
use Rattle.std.specs.Prelude.{ℕ}
use Rattle.sc_layout.specs.Layout.{Arrangement}
use Rattle.sc_layout.specs.Start.{start}
use Rattle.sc_isa.specs.declared.code.Code.{Code}
use Rattle.sc_isa.specs.Run.{node_asks}
use Rattle.fabric.specs.Asked.{Machine}

-- each node runs the code under the budget, by so many instructions, over cells that begin as 0 or null
abbrev pub machine_of : Arrangement → Code → (budget many : ℕ) → Machine
machine_of layout code budget many =
    record { nodes = layout.nodes; start = start layout; starts = λ node. node_asks code layout node budget many }
