use Rattle.std.proofs.Common.{take}
use Rattle.sync_place.specs.Plain.{AreBehind}
use Rattle.sync_place.proofs.plain.behind_accesses.Given as goal

abbrev pub invariant-loop-edge : goal.invariant-loop-edge
invariant-loop-edge l = AreBehind l.flow (take l.edge-index l.flow.edges) l.behind
