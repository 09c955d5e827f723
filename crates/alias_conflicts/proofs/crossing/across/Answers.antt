use Rattle.std.proofs.Common.{◌≤◌, Some, arith}
use Rattle.std.proofs.lemmas.Bool.{both_ways}
use Rattle.alias_conflicts.specs.Across.{FormsFrom}
use Rattle.alias_conflicts.proofs.SharedCells.{none_at, found_nowhere}
use Rattle.alias_conflicts.proofs.crossing.across.Goals as goal

pub loop-p-preserved : goal.loop-p-preserved
loop-p-preserved c =
    none_at (λ k. FormsFrom c.args.layout.now c.args.flow.now (Some c.args.a) k (Some c.args.b)) c.loop-p.p
    (λ h. both_ways _ c.if-elsewhere.false (c.elsewhere.ensures.1 h)) c.loop-p.invariant

pub returns : goal.returns
returns c =
    let end : c.args.layout.now.nodes ≤ c.loop-p.p = omega (arith, c.loop-p-test.false, c.nodes-p-end.ensures) in
    (λ e. cc, λ w. absurd (found_nowhere (λ k. FormsFrom c.args.layout.now c.args.flow.now (Some c.args.a) k (Some c.args.b)) c.args.layout.now.nodes c.loop-p.p end c.loop-p.invariant w))
