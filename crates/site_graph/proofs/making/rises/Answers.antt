use Rattle.std.proofs.Common.{ltb, ◌-◌, arith}
use Rattle.std.proofs.lemmas.Bool.{false≢true, ltb-true, lt-ltb}
use Rattle.site_graph.proofs.MadeLaws.{rises_more, numbers_trans, step_at}
use Rattle.site_graph.proofs.making.rises.Goals as goal

pub returns-then-list-at : goal.returns-then-list-at
returns-then-list-at c = (
  λ t. absurd (false≢true t),
  λ up. absurd (let l = c.loop-at.auto.at in
      let h = ltb-true _ _ (up (c.loop-at.at - 1) c.loop-at.at 0 (omega arith) c.loop-at-test.true) in
      omega (arith, h, c.if-list-at.true)),
)

pub loop-at-preserved : goal.loop-at-preserved
loop-at-preserved c =
    rises_more ltb numbers_trans c.args.list.now c.loop-at.at c.loop-at.auto.at
    (step_at ltb c.args.list.now c.loop-at.at 0 c.loop-at-test.true (lt-ltb _ _ c.if-list-at.false)) c.loop-at.invariant
