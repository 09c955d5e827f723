use Rattle.std.proofs.Common.{rules, ◌≡◌, Some, slice_get, arith}
use Rattle.std.proofs.lemmas.Grind.{common_steps}
use Rattle.std.proofs.lemmas.Option.{gets}
use Rattle.std.proofs.lemmas.Result.{on_ok_weaker}
use Rattle.history_replay.specs.Fronts.{said}
use Rattle.history_replay.proofs.Fronts.{all_changed}
use Rattle.history_replay.proofs.nodes.Nodes.ends_as.Goals as goal

pub returns-clause-stands : goal.returns-clause-stands
returns-clause-stands c = λ fronts all lt.
    let at : slice_get c.args.self.now.runners.items c.args.node ≡ Some c.index_mut-runner.result.now =
    first_of (search rules, grind (arith, common_steps, gets)) in
    on_ok_weaker c.ends_as.result
    (all_changed c.args.self.now.runners.items c.args.node c.ends_as.new.runner fronts (said (fronts c.args.node)) all)
    (c.ends_as.ensures.stands (fronts c.args.node) (all c.args.node c.index_mut-runner.result.now at))
