use Rattle.std.proofs.Common.{subst}
use Rattle.fabric.specs.State.{State}
use Rattle.fabric.specs.Kept.{OpenCellsPend}
use Rattle.fabric.proofs.Pending.{open_cells_pend}
use Rattle.fabric.proofs.state.Fabric.pool.Goals as goal

pub returns-clause-open_cells : goal.returns-clause-open_cells
returns-clause-open_cells c =
    subst (λ (v : State). OpenCellsPend v) c.self.view_is (open_cells_pend _ c.self.invariant.of_journal)
