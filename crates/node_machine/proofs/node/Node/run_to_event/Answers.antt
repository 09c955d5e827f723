use Rattle.std.proofs.Common.{◌<◌, ℕ, List, subst, sym, refl}
use Rattle.node_machine.specs.declared.node.Answer.{Answer}
use Rattle.node_machine.specs.declared.node.Asked.{Asked}
use Rattle.node_machine.specs.declared.node.Node.{Node}
use Rattle.node_machine.specs.Course.{HasDone}
use Rattle.node_machine.specs.Standings.{rest_of}
use Rattle.node_machine.specs.Nodes.{IsNext, plain_answers}
use Rattle.node_machine.proofs.Nexts.{next_is}
use Rattle.node_machine.proofs.node.Node.run_to_event.Goals as goal

pub returns-in_default-reserve-clause-course : goal.returns-in_default-reserve-clause-course
returns-in_default-reserve-clause-course c = λ asked at.
    let mid = c.run.new.self in
    let there = c.in-Ok.ensures.course asked at in
    record {
      state = there.state;
      stands = there.stands;
      flies = there.flies;
      done = subst (λ (items : List Answer). HasDone c.args.code.now c.args.layout.now mid.own mid.budget (plain_answers items)
          asked mid.printed.items (rest_of c.args.code.now c.args.layout.now mid.own mid.standing there.state))
          (sym c.in_default-reserve.ensures.items) there.done;
    }

pub returns-clause-course : goal.returns-clause-course
returns-clause-course c = λ asked at.
    let mid = c.run.new.self in
    let there = c.in-Ok.ensures.course asked at in
    record {
      state = there.state;
      stands = there.stands;
      flies = there.flies;
      done = subst (λ (items : List Answer). HasDone c.args.code.now c.args.layout.now mid.own mid.budget (plain_answers items)
          asked mid.printed.items (rest_of c.args.code.now c.args.layout.now mid.own mid.standing there.state))
          (sym c.in-Ok-reserve.ensures.items) there.done;
    }

pub returns-clause-next : goal.returns-clause-next
returns-clause-next c = λ sound in_layout asked at.
    let mid = c.run.new.self in
    let there = c.in-Ok.ensures.course asked at in
    let new : Node = record {
      own = mid.own;
      budget = mid.budget;
      machine = mid.machine;
      standing = mid.standing;
      answers = c.reserve.new.self;
      printed = mid.printed;
    } in
    subst (λ (ask : Asked). IsNext c.args.code.now c.args.layout.now new asked ask) (sym c.asked_at.ensures)
    (next_is c.args.code.now c.args.layout.now new asked mid.standing there.state refl c.in-Ok.ensures.stops sound
    (subst (λ (n : ℕ). n < c.args.layout.now.nodes) (sym c.in-Ok.ensures.own) in_layout)
    (subst (λ (items : List Answer). HasDone c.args.code.now c.args.layout.now mid.own mid.budget (plain_answers items)
    asked mid.printed.items (rest_of c.args.code.now c.args.layout.now mid.own mid.standing there.state))
    (sym c.in-Ok-reserve.ensures.items) there.done))
