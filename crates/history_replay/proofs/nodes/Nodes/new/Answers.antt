use Rattle.std.proofs.Common.{◌+◌, ◌∷◌, [], length, sym, ap, ◌∙◌, subst, length-append}
use Rattle.sc_core.specs.ViewStatements.{plain_program}
use Rattle.history_replay.specs.Fronts.{AllAt, IsAt, first_front}
use Rattle.history_replay.proofs.Fronts.{all_pushed}
use Rattle.history_replay.proofs.nodes.Nodes.new.Goals as goal

pub loop-node-preserved : goal.loop-node-preserved
loop-node-preserved c =
    let old = c.loop-node.runners.items in
    let fronts = first_front c.args.layout.now (plain_program c.args.program.now) c.args.budget in
    let at : IsAt c.in_ok-runner.runner (fronts c.loop-node.node) =
    record { stands = c.in_ok-runner.ensures.stands; text = c.in_ok-runner.ensures.printed } in
    record {
      many = ap length c.in-Ok.ensures.items ∙ length-append old (c.in_ok-runner.runner ∷ [])
          ∙ ap (λ n. n + 1) c.loop-node.invariant.many;
      all = subst (λ rs. AllAt rs fronts) (sym c.in-Ok.ensures.items)
          (all_pushed old c.in_ok-runner.runner fronts c.loop-node.invariant.all
          (subst (λ n. IsAt c.in_ok-runner.runner (fronts n)) (sym c.loop-node.invariant.many) at));
    }
