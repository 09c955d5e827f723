use Rattle.alias_conflicts.proofs.TwoNodes.{on_the_only}
use Rattle.alias_conflicts.proofs.crossing.elsewhere.Goals as goal

pub returns-in-Some : goal.returns-in-Some
returns-in-Some c = (
  λ e. (let w = c.is_on-in-Some.ensures.0 e in (c.in-Some.only, w.0, w.1, w.2)),
  λ w. c.is_on-in-Some.ensures.1 (on_the_only c.args.layout.now c.args.flow.now c.args.a c.args.b c.args.p c.in-Some.only (c.in-Some.ensures c.args.flow.now) w),
)
