use Rattle.std.proofs.Common.{◌≡◌, ℕ, List}
use Rattle.effect_order.specs.Effect.{Effect}
use Rattle.effect_order.specs.Lists.{Each}
use Rattle.sc_isa.specs.declared.access.Access.TheVariants.{Copy}
use Rattle.fabric.specs.State.{IsTrack, Grows, messages_of}
use Rattle.fabric.specs.Kept.{IsReady}
use Rattle.fabric.specs.Issuing.{Unissued, HoldsAfter, CellsIssued, AtMost}
use Rattle.fabric.proofs.issuing.issue_copy.Given as goal

abbrev pub invariant-loop-cell : goal.invariant-loop-cell
invariant-loop-cell l =
    (l.memory.layout ≡ l.initial.memory.layout)
    × ((earlier : List Effect) → Unissued l.node l.number earlier → HoldsAfter l.initial.memory earlier
    → CellsIssued l.node l.number l.cell (Copy l.from l.to l.cells l.track) earlier l.initial.memory l.memory l.initial.pool l.pool)
    × AtMost l.cell l.initial.pool l.pool
    × ((sites : ℕ) → IsTrack sites l.track → Each (IsReady l.initial.memory.layout sites) (messages_of l.initial.pool) → Each (IsReady l.initial.memory.layout sites) (messages_of l.pool))
    × Grows l.initial.pool l.pool
