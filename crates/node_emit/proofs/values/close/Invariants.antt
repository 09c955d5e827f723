use Rattle.std.proofs.Common.{◌≡◌, vec_len}
use Rattle.node_emit.specs.Drafted.{closed}
use Rattle.node_emit.proofs.values.close.Given as goal

abbrev pub invariant-loop-place : goal.invariant-loop-place
invariant-loop-place l = closed l.zeros.items l.draft ≡ closed l.fn.zeros.items l.fn.draft

abbrev pub decreases-loop-place : goal.decreases-loop-place
decreases-loop-place l = vec_len l.zeros
