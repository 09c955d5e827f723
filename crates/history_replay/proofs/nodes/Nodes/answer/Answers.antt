use Rattle.std.proofs.Common.{rules, ◌≡◌, ◌++◌, ◌∷◌, [], Some, slice_get, arith}
use Rattle.std.proofs.lemmas.Grind.{common_steps}
use Rattle.std.proofs.lemmas.Option.{gets}
use Rattle.core_run.specs.Views.{plain_answer}
use Rattle.history_replay.proofs.Fronts.{goes_to, if_taken}
use Rattle.history_replay.proofs.nodes.Nodes.answer.Goals as goal

pub returns-clause-taken : goal.returns-clause-taken
returns-clause-taken c = λ start given requests fronts r all lt course next asked.
    let at : slice_get c.args.self.now.runners.items c.args.node ≡ Some c.index_mut-runner.result.now =
    first_of (search rules, grind (arith, common_steps, gets)) in
    if_taken c.answer.result _ _
    (goes_to c.args.self.now.runners.items c.args.node c.answer.new.runner fronts start (given ++ plain_answer c.args.reply ∷ []) (requests ++ r ∷ []) all)
    (c.answer.ensures.taken start given requests (fronts c.args.node) r (all c.args.node c.index_mut-runner.result.now at) course next asked)

pub returns-clause-refused : goal.returns-clause-refused
returns-clause-refused c = λ start given requests fronts r all lt course next asked.
    let at : slice_get c.args.self.now.runners.items c.args.node ≡ Some c.index_mut-runner.result.now =
    first_of (search rules, grind (arith, common_steps, gets)) in
    c.answer.ensures.refused start given requests (fronts c.args.node) r (all c.args.node c.index_mut-runner.result.now at) course next asked
