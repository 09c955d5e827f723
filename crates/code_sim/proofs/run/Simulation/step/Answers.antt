use Rattle.std.proofs.Common.{◌≡◌, ◌<◌, length, Some, sym, subst}
use Rattle.std.specs.Prelude.{slice_get}
use Rattle.code_sim.proofs.Ready.{got_at, by_itself, for_itself, for_all}
use Rattle.code_sim.proofs.Moving.{step_under_way, step_moved}
use Rattle.code_sim.proofs.run.Simulation.step.Goals as goal

pub step-requires-clause-runner : goal.step-requires-clause-runner
step-requires-clause-runner c =
    let nodes = c.args.self.now.nodes.items in
    let i = c.ready_node-number.result in
    let runner = c.index_mut-runner.result.now in
    let within : i < length nodes = subst (λ n. i < n) (sym c.requires.under_way.count) c.ready_node-number.ensures.within in
    let here : slice_get nodes i ≡ Some runner = got_at nodes i runner within c.index_mut-runner.ensures.value in
    by_itself c.args.code.now c.args.layout.now c.args.budget c.args.self.now.fabric nodes c.requires.under_way i runner here

pub step-requires-clause-allowed : goal.step-requires-clause-allowed
step-requires-clause-allowed c =
    let nodes = c.args.self.now.nodes.items in
    let i = c.ready_node-number.result in
    let runner = c.index_mut-runner.result.now in
    let within : i < length nodes = subst (λ n. i < n) (sym c.requires.under_way.count) c.ready_node-number.ensures.within in
    let here : slice_get nodes i ≡ Some runner = got_at nodes i runner within c.index_mut-runner.ensures.value in
    for_itself c.args.code.now c.args.layout.now c.args.budget c.args.self.now.fabric nodes c.requires.under_way i runner here c.ready_node-number.ensures.goes

pub returns-clause-under_way : goal.returns-clause-under_way
returns-clause-under_way c =
    let nodes = c.args.self.now.nodes.items in
    let i = c.ready_node-number.result in
    let runner = c.index_mut-runner.result.now in
    let within : i < length nodes = subst (λ n. i < n) (sym c.requires.under_way.count) c.ready_node-number.ensures.within in
    let here : slice_get nodes i ≡ Some runner = got_at nodes i runner within c.index_mut-runner.ensures.value in
    step_under_way c.args.code.now c.args.layout.now c.args.budget c.args.self.now.fabric nodes c.requires.under_way c.step.new.fabric i c.step.new.runner
    (for_all c.args.code.now c.args.layout.now c.args.budget c.args.self.now.fabric nodes c.requires.under_way i runner here c.step.new.fabric c.step.new.runner c.in_ok-step.ensures)

pub returns-clause-moved : goal.returns-clause-moved
returns-clause-moved c =
    let nodes = c.args.self.now.nodes.items in
    let i = c.ready_node-number.result in
    let runner = c.index_mut-runner.result.now in
    let within : i < length nodes = subst (λ n. i < n) (sym c.requires.under_way.count) c.ready_node-number.ensures.within in
    let here : slice_get nodes i ≡ Some runner = got_at nodes i runner within c.index_mut-runner.ensures.value in
    step_moved c.args.code.now c.args.layout.now c.args.budget c.args.self.now.fabric nodes c.requires.under_way c.step.new.fabric i c.args.k c.step.new.runner c.ready_node-number.ensures.within
    (for_all c.args.code.now c.args.layout.now c.args.budget c.args.self.now.fabric nodes c.requires.under_way i runner here c.step.new.fabric c.step.new.runner c.in_ok-step.ensures)
    c.ready_node-number.ensures.before
