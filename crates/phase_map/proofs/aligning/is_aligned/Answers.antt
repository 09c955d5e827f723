use Rattle.std.proofs.Common.{◌≡◌, get_or}
use Rattle.std.proofs.lemmas.Bool.{both_ways}
use Rattle.std.proofs.lemmas.Option.{slice_get-get_or}
use Rattle.std.proofs.lemmas.List.Elements.{Contains-get_or}
use Rattle.phase_map.specs.declared.aligning.Ahead.TheVariants.{More}
use Rattle.phase_map.specs.Aligning.{noted_at}
use Rattle.phase_map.proofs.Sweeping.{aligned_from, not_aligned, none_more}
use Rattle.phase_map.proofs.aligning.is_aligned.Goals as goal

pub returns-then-is_more : goal.returns-then-is_more
returns-then-is_more c = (
  λ e. cc,
  λ a. absurd (not_aligned c.args.flow.now c.args.ahead.now (get_or c.args.uneven.now c.loop-point.point-index 0) c.requires.ahead
      ((c.requires.uneven (get_or c.args.uneven.now c.loop-point.point-index 0)).0 (Contains-get_or c.args.uneven.now c.loop-point.point-index 0 c.loop-point-test.true))
      (c.is_more.ensures.0 c.if-is_more.true) a),
)

pub loop-point-preserved : goal.loop-point-preserved
loop-point-preserved c =
    none_more (λ t. noted_at c.args.ahead.now t ≡ More) c.args.uneven.now c.loop-point.point-index (get_or c.args.uneven.now c.loop-point.point-index 0)
    (slice_get-get_or c.args.uneven.now c.loop-point.point-index 0 c.loop-point-test.true) (λ e. both_ways _ c.if-is_more.false (c.is_more.ensures.1 e)) c.loop-point.invariant

pub returns : goal.returns
returns c = (
  λ e. aligned_from c.args.flow.now c.args.ahead.now c.args.uneven.now c.loop-point.point-index c.requires.ahead c.requires.uneven c.loop-point-test.false c.loop-point.invariant,
  λ a. cc,
)
