use Rattle.std.proofs.Common.{◌+◌, refl, arith}
use Rattle.std.proofs.lemmas.Bool.{false≢true, both_ways}
use Rattle.site_graph.proofs.MadeLaws.{ones_more}
use Rattle.site_graph.proofs.making.each_has_one.Goals as goal

pub returns-then-not-has_one : goal.returns-then-not-has_one
returns-then-not-has_one c = (
  λ t. absurd (false≢true t),
  λ all. absurd (both_ways _ c.if-not-has_one.true (c.has_one.ensures.1 (all (c.loop-before.before + 1) (omega arith, omega (arith, c.loop-before-test.true))))),
)

pub loop-before-preserved : goal.loop-before-preserved
loop-before-preserved c = ones_more c.args.points.now c.loop-before.before (c.has_one.ensures.0 c.if-not-has_one.false) c.loop-before.invariant

pub returns : goal.returns
returns c = (
  λ t number h. c.loop-before.invariant number (h.0, omega (arith, h.1, c.loop-before-test.false)),
  λ all. refl,
)
