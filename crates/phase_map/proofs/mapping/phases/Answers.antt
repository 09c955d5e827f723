use Rattle.std.proofs.Common.{subst, sym}
use Rattle.phase_map.specs.Meeting.{ArePhases}
use Rattle.phase_map.proofs.Pairs.{whole_phases, broken_phases}
use Rattle.phase_map.proofs.mapping.phases.Goals.{then-aligned+in_ok-meets, else-aligned+in_ok-meets-2}
use Rattle.phase_map.proofs.mapping.phases.Goals as goal

pub returns : goal.returns
returns c =
    elim c.if-aligned.branch [
      | then-aligned+in_ok-meets w ↦ subst (ArePhases c.args.flow.now c.is_aligned-aligned.result) (sym w.meets-is)
          (whole_phases c.args.flow.now c.is_aligned-aligned.result w.in_ok-meets.meets c.is_aligned-aligned.ensures w.if-aligned.true w.in_ok-meets.ensures)
      | else-aligned+in_ok-meets-2 w ↦ subst (ArePhases c.args.flow.now c.is_aligned-aligned.result) (sym w.meets-is)
          (broken_phases c.args.flow.now c.is_aligned-aligned.result w.in_ok-meets-2.meets c.is_aligned-aligned.ensures w.if-aligned.false w.in_ok-meets-2.ensures)
    ]
