use Rattle.std.proofs.Common.{◌≤◌, Some, arith}
use Rattle.std.proofs.lemmas.Bool.{both_ways}
use Rattle.alias_conflicts.specs.Regions.{FormsShare}
use Rattle.alias_conflicts.proofs.SharedCells.{none_at, found_nowhere}
use Rattle.alias_conflicts.proofs.crossing.own.Goals as goal

pub loop-p-preserved : goal.loop-p-preserved
loop-p-preserved c =
    none_at (λ k. FormsShare c.args.layout.now c.args.flow.now (Some c.args.a) k (Some c.args.b) k) c.loop-p.p
    (λ h. both_ways _ c.if-share.false (c.share.ensures.1 h)) c.loop-p.invariant

pub returns : goal.returns
returns c =
    let end : c.args.layout.now.nodes ≤ c.loop-p.p = omega (arith, c.loop-p-test.false, c.nodes-p-end.ensures) in
    (λ e. cc, λ w. absurd (found_nowhere (λ k. FormsShare c.args.layout.now c.args.flow.now (Some c.args.a) k (Some c.args.b) k) c.args.layout.now.nodes c.loop-p.p end c.loop-p.invariant w))
