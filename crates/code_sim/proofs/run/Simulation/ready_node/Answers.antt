use Rattle.std.proofs.Common.{◌≡◌, get_or, length, Some, ap, arith}
use Rattle.std.specs.Prelude.{slice_get}
use Rattle.code_sim.proofs.Ready.{got_at, by_itself, goes, counted, passed_over, not_beyond}
use Rattle.code_sim.proofs.run.Simulation.ready_node.Goals as goal
use Rattle.code_sim.proofs.run.Simulation.ready_node.Goals.{then-may_step+else-left-eq0, else-may_step}

pub may_step-requires-clause-runner : goal.may_step-requires-clause-runner
may_step-requires-clause-runner c =
    let nodes = c.args.self.now.nodes.items in
    let i = c.loop-number.number in
    let own : c.runner-item.result ≡ get_or nodes i c.runner-item.result = rw c.deref-runner-items.ensures.value at c.runner-item.is in
    let here : slice_get nodes i ≡ Some c.runner-item.result = got_at nodes i c.runner-item.result (omega arith) own in
    by_itself c.args.code.now c.args.layout.now c.args.budget c.args.self.now.fabric nodes c.requires.under_way i c.runner-item.result here

pub returns-then-left-eq0-clause-goes : goal.returns-then-left-eq0-clause-goes
returns-then-left-eq0-clause-goes c =
    let nodes = c.args.self.now.nodes.items in
    let i = c.loop-number.number in
    let own : c.runner-item.result ≡ get_or nodes i c.runner-item.result = rw c.deref-runner-items.ensures.value at c.runner-item.is in
    let here : slice_get nodes i ≡ Some c.runner-item.result = got_at nodes i c.runner-item.result (omega arith) own in
    goes c.args.code.now c.args.layout.now c.args.budget c.args.self.now.fabric nodes c.requires.under_way i c.runner-item.result here
    c.may_step.result c.may_step.ensures c.if-may_step.true

pub loop-number-preserved : goal.loop-number-preserved
loop-number-preserved c =
    let nodes = c.args.self.now.nodes.items in
    let i = c.loop-number.number in
    let own : c.runner-item.result ≡ get_or nodes i c.runner-item.result = rw c.deref-runner-items.ensures.value at c.runner-item.is in
    let here : slice_get nodes i ≡ Some c.runner-item.result = got_at nodes i c.runner-item.result (omega arith) own in
    let inv = c.loop-number.invariant in
    elim c.if-may_step.branch [
      | then-may_step+else-left-eq0 w ↦
          let more = counted c.args.code.now c.args.layout.now c.args.budget c.args.self.now.fabric nodes c.requires.under_way i c.runner-item.result here
          c.may_step.result c.may_step.ensures w.if-may_step.true in
          λ many s. omega (arith, inv many s, more many s, w.left-is, w.if-left-eq0.false)
      | else-may_step w ↦
          let same = passed_over c.args.code.now c.args.layout.now c.args.budget c.args.self.now.fabric nodes c.requires.under_way i c.runner-item.result here
          c.may_step.result c.may_step.ensures w.if-may_step.false in
          λ many s. omega (arith, inv many s, same many s, w.left-is)
    ]

pub unreachable-requires : goal.unreachable-requires
unreachable-requires c =
    let len : length c.deref-runner-items.result.now ≡ length c.args.self.now.nodes.items = ap (λ (l : _). length l) c.deref-runner-items.ensures.value in
    not_beyond c.args.code.now c.args.layout.now c.requires.sound c.args.budget c.args.self.now.fabric c.args.self.now.nodes.items c.requires.under_way c.args.k
    c.loop-number.number c.loop-number.left (omega (arith, len, c.loop-number-test.false, c.loop-number.auto.number-end)) c.loop-number.invariant c.requires.within
