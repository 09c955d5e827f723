use Rattle.std.proofs.Common.{◌≡◌, Bool, true, false, subst, sym, refl}
use Rattle.sc_isa.specs.Table.{step_of}
use Rattle.node_machine.specs.declared.machine.After.TheVariants as after
use Rattle.node_machine.specs.declared.machine.Machine.{Machine}
use Rattle.node_machine.specs.declared.machine.Move.TheVariants as move
use Rattle.node_machine.specs.declared.node.Node.{Node}
use Rattle.node_machine.specs.declared.node.Standing.{Standing}
use Rattle.node_machine.specs.Course.{HasDone}
use Rattle.node_machine.specs.Standings.{rest_of}
use Rattle.node_machine.specs.Nodes.{IsAt, plain_answers}
use Rattle.node_machine.specs.Flights.{flights_of}
use Rattle.node_machine.specs.View.{state_of}
use Rattle.node_machine.proofs.Doing.{quietly}
use Rattle.node_machine.proofs.Advancing.{advanced, from_between, step_moved, stands_between, by_between, flies_between, between_flies, move_flies}
use Rattle.node_machine.proofs.node.Node.hasten.Goals as goal

pub returns-clause-course : goal.returns-clause-course
returns-clause-course c = λ layout asked at.
    let old = c.args.self.now in
    let code = c.args.code.now in
    let text = old.printed.items in
    let answers = plain_answers old.answers.items in
    let with_machine : Machine → Node = λ machine. record {
      own = old.own;
      budget = old.budget;
      machine = machine;
      standing = old.standing;
      answers = old.answers;
      printed = old.printed;
    } in
    (elim c.quick.result as (λ (b : Bool). c.quick.result ≡ b → IsAt code layout (with_machine c.quick.new.self) asked) [
      | true ↦ λ e.
          let moved = step_moved code layout old.own old.machine at.state (move.Comes after.GoesOn) c.quick.new.self text text
          (stands_between old.standing old.machine at.state c.requires.between at.stands)
          (λ flying counts. quietly (step_of code layout old.own (state_of old.machine flying)) (move.Comes after.GoesOn)
          c.quick.new.self text (c.quick.ensures.done e layout old.own flying counts)) in
          let done = advanced code layout old.own old.budget answers asked at.state (move.Comes after.GoesOn) c.quick.new.self
          text text (from_between code layout old.own old.budget answers asked old.standing at.state text c.requires.between
          at.done) moved in
          record {
            state = moved.state;
            stands = by_between old.standing c.quick.new.self moved.state c.requires.between moved.stands;
            flies = between_flies old.standing (flights_of asked) moved.state c.requires.between
                (moved.flies (flights_of asked) (move_flies code layout old.own (flights_of asked) at.state
                (flies_between old.standing (flights_of asked) at.state c.requires.between at.flies)));
            done = subst (λ (st : Standing). HasDone code layout old.own old.budget answers asked text
                (rest_of code layout old.own st moved.state)) (sym c.requires.between) done;
          }
      | false ↦ λ e. subst (λ (m : Machine). IsAt code layout (with_machine m) asked) (sym (c.quick.ensures.kept e)) at
    ]) refl
