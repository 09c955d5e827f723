use Rattle.core_run.proofs.Fitting.{same_stars, other_stars}
use Rattle.core_run.proofs.runner.points_to.Goals as goal

pub returns-then-eq : goal.returns-then-eq
returns-then-eq c =
    same_stars c.args.cell.now c.args.ty.now c.as_slice.result.now c.as_slice-in-len1-up.result.now c.as_slice.ensures
    c.as_slice-in-len1-up.ensures c.in-len1-up.len_at_least c.eq.result c.eq.ensures c.if-eq.true

pub returns-else-eq : goal.returns-else-eq
returns-else-eq c =
    other_stars c.args.cell.now c.args.ty.now c.as_slice.result.now c.as_slice-in-len1-up.result.now c.as_slice.ensures
    c.as_slice-in-len1-up.ensures c.in-len1-up.len_at_least c.eq.result c.eq.ensures c.if-eq.false
