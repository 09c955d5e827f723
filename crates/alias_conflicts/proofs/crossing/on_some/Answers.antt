use Rattle.std.proofs.Common.{◌≢◌, ◌≤◌, Some, arith}
use Rattle.std.proofs.lemmas.Bool.{both_ways}
use Rattle.alias_conflicts.specs.Regions.{FormsShare}
use Rattle.alias_conflicts.proofs.SharedCells.{none_at, found_nowhere}
use Rattle.alias_conflicts.proofs.crossing.on_some.Goals as goal

pub loop-q-preserved : goal.loop-q-preserved
loop-q-preserved c =
    none_at (λ k. (c.args.p ≢ k) × FormsShare c.args.layout.now c.args.flow.now (Some c.args.a) c.args.p (Some c.args.b) k) c.loop-q.q
    (λ h. both_ways _ c.if-is_on.false (c.is_on.ensures.1 (omega (arith, c.loop-q-test.true, c.nodes-q-end.ensures), h.0, h.1))) c.loop-q.invariant

pub returns : goal.returns
returns c =
    let end : c.args.layout.now.nodes ≤ c.loop-q.q = omega (arith, c.loop-q-test.false, c.nodes-q-end.ensures) in (
      λ e. cc,
      λ w. absurd (found_nowhere (λ k. (c.args.p ≢ k) × FormsShare c.args.layout.now c.args.flow.now (Some c.args.a) c.args.p (Some c.args.b) k) c.args.layout.now.nodes c.loop-q.q end c.loop-q.invariant (w.0, w.1, (w.2, w.3))),
    )
