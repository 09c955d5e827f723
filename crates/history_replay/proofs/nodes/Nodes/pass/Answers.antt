use Rattle.std.proofs.Common.{rules, ◌≡◌, ◌++◌, ◌∷◌, [], Some, slice_get, arith}
use Rattle.std.proofs.lemmas.Grind.{common_steps}
use Rattle.std.proofs.lemmas.Option.{gets}
use Rattle.std.proofs.lemmas.Result.{on_ok_weaker}
use Rattle.history_replay.proofs.Fronts.{goes_to}
use Rattle.history_replay.proofs.nodes.Nodes.pass.Goals as goal

pub returns-clause-goes : goal.returns-clause-goes
returns-clause-goes c = λ start given requests fronts r all lt course next made.
    let at : slice_get c.args.self.now.runners.items c.args.node ≡ Some c.index_mut-runner.result.now =
    first_of (search rules, grind (arith, common_steps, gets)) in
    on_ok_weaker c.pass.result
    (goes_to c.args.self.now.runners.items c.args.node c.pass.new.runner fronts start given (requests ++ r ∷ []) all)
    (c.pass.ensures start given requests (fronts c.args.node) r (all c.args.node c.index_mut-runner.result.now at) course next made)
