use Rattle.std.proofs.lemmas.Bool.{both_ways}
use Rattle.alias_conflicts.proofs.SharedCells.{nodes_agree}
use Rattle.alias_conflicts.proofs.sharing.overlap_some.Goals as goal

pub returns-else-agrees : goal.returns-else-agrees
returns-else-agrees c =
    (λ e. cc, λ w. absurd (both_ways _ c.if-agrees.false (c.agrees.ensures.1 (nodes_agree c.args.layout.now w.0 c.in-Some.node c.args.a.now c.args.b.now c.in-Some.is w.3))))
