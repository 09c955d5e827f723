use Rattle.std.proofs.Common.{◌≡◌, get_or, Some, arith}
use Rattle.std.specs.Prelude.{slice_get}
use Rattle.code_sim.proofs.Ready.{got_at, by_itself, counted, passed_over}
use Rattle.code_sim.proofs.run.Simulation.ready.Goals as goal
use Rattle.code_sim.proofs.run.Simulation.ready.Goals.{then-may_step, else-may_step}

pub may_step-requires-clause-runner : goal.may_step-requires-clause-runner
may_step-requires-clause-runner c =
    let nodes = c.args.self.now.nodes.items in
    let i = c.loop-number.number in
    let own : c.runner-item.result ≡ get_or nodes i c.runner-item.result = rw c.deref-runner-items.ensures.value at c.runner-item.is in
    let here : slice_get nodes i ≡ Some c.runner-item.result = got_at nodes i c.runner-item.result (omega arith) own in
    by_itself c.args.code.now c.args.layout.now c.args.budget c.args.self.now.fabric nodes c.requires.under_way i c.runner-item.result here

pub loop-number-preserved : goal.loop-number-preserved
loop-number-preserved c =
    let nodes = c.args.self.now.nodes.items in
    let i = c.loop-number.number in
    let own : c.runner-item.result ≡ get_or nodes i c.runner-item.result = rw c.deref-runner-items.ensures.value at c.runner-item.is in
    let here : slice_get nodes i ≡ Some c.runner-item.result = got_at nodes i c.runner-item.result (omega arith) own in
    let so_far = c.loop-number.invariant.so_far in
    let few = c.loop-number.invariant.few in
    elim c.if-may_step.branch [
      | then-may_step w ↦
          let more = counted c.args.code.now c.args.layout.now c.args.budget c.args.self.now.fabric nodes c.requires.under_way i c.runner-item.result here
          c.may_step.result c.may_step.ensures w.if-may_step.true in
          record { so_far = λ many s. omega (arith, so_far many s, more many s, w.count-is); few = omega (arith, few, w.count-is) }
      | else-may_step w ↦
          let same = passed_over c.args.code.now c.args.layout.now c.args.budget c.args.self.now.fabric nodes c.requires.under_way i c.runner-item.result here
          c.may_step.result c.may_step.ensures w.if-may_step.false in
          record { so_far = λ many s. omega (arith, so_far many s, same many s, w.count-is); few = omega (arith, few, w.count-is) }
    ]
