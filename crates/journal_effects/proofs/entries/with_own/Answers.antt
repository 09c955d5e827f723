use Rattle.std.proofs.Common.{◌≡◌, List, IfOk, subst}
use Rattle.effect_order.specs.Effect.{Effect}
use Rattle.journal_effects.proofs.Kept.{own_more}
use Rattle.journal_effects.proofs.entries.with_own.Goals as goal

pub returns-then-effect-node : goal.returns-then-effect-node
returns-then-effect-node c =
    subst (λ (x : List Effect). IfOk c.with.result (λ after. after ≡ x))
    (own_more c.args.node c.args.effect c.in-Some.effect c.args.occurred c.in-Some.is c.if-effect-node.true) c.with.ensures
