use Rattle.std.proofs.Common.{arith}
use Rattle.phase_map.proofs.noting.Locals.is_noted.Goals as goal

pub returns-then-local-columns : goal.returns-then-local-columns
returns-then-local-columns c = (
  λ e. cc,
  λ s. let w = (c.columns.ensures.in_order.within 0 c.args.local s).1 in absurd (omega (arith, w, c.if-local-columns.true, c.columns.ensures.columns)),
)
