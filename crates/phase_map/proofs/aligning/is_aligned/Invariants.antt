use Rattle.std.proofs.Common.{◌≡◌}
use Rattle.phase_map.specs.Aligning.{noted_at}
use Rattle.phase_map.specs.declared.aligning.Ahead.TheVariants.{More}
use Rattle.phase_map.proofs.Notes.{NoneOf}
use Rattle.phase_map.proofs.aligning.is_aligned.Given as goal

abbrev pub invariant-loop-point : goal.invariant-loop-point
invariant-loop-point l = NoneOf (λ t. noted_at l.ahead t ≡ More) l.uneven l.point-index
