use Rattle.std.proofs.Common.{List, ℕ, subst, sym}
use Rattle.node_machine.specs.declared.node.Standing.{Standing}
use Rattle.node_machine.specs.Course.{HasDone}
use Rattle.node_machine.specs.Standings.{StandsBy, FliesBy, rest_of}
use Rattle.node_machine.specs.Flights.{flights_of}
use Rattle.node_machine.specs.Nodes.{plain_answers}
use Rattle.node_machine.proofs.Advancing.{advanced, from_between, step_moved, stands_between, by_between, stands_before, flies_between, move_flies}
use Rattle.node_machine.proofs.node.Node.advance.Goals as goal

pub returns-in_err-made-clause-course : goal.returns-in_err-made-clause-course
returns-in_err-made-clause-course c = λ asked at.
    let old = c.args.self.now in
    record {
      state = at.state;
      stands = by_between old.standing c.step.new.self at.state c.requires.between
          (stands_before old.machine c.step.new.self at.state c.in_err-made.ensures.refused
          (stands_between old.standing old.machine at.state c.requires.between at.stands));
      flies = at.flies;
      done = subst (λ (text : List ℕ). HasDone c.args.code.now c.args.layout.now old.own old.budget
          (plain_answers old.answers.items) asked text
          (rest_of c.args.code.now c.args.layout.now old.own old.standing at.state)) (sym c.in_err-made.ensures.kept) at.done;
    }

pub returns-clause-course : goal.returns-clause-course
returns-clause-course c = λ asked at.
    let old = c.args.self.now in
    let moved = step_moved c.args.code.now c.args.layout.now old.own old.machine at.state c.in_ok-made.made c.step.new.self
    old.printed.items c.step.new.printed.items
    (stands_between old.standing old.machine at.state c.requires.between at.stands) c.in_ok-made.ensures.done in
    let done = advanced c.args.code.now c.args.layout.now old.own old.budget (plain_answers old.answers.items) asked at.state
    c.in_ok-made.made c.step.new.self old.printed.items c.step.new.printed.items
    (from_between c.args.code.now c.args.layout.now old.own old.budget (plain_answers old.answers.items) asked old.standing
    at.state old.printed.items c.requires.between at.done) moved in
    record {
      state = moved.state;
      stands = subst (λ (st : Standing). StandsBy st c.step.new.self moved.state) (sym c.standing_of-self.ensures) moved.stands;
      flies = subst (λ (st : Standing). FliesBy st (flights_of asked) moved.state) (sym c.standing_of-self.ensures)
          (moved.flies (flights_of asked) (move_flies c.args.code.now c.args.layout.now old.own (flights_of asked) at.state
          (flies_between old.standing (flights_of asked) at.state c.requires.between at.flies)));
      done = subst (λ (st : Standing). HasDone c.args.code.now c.args.layout.now old.own old.budget
          (plain_answers old.answers.items) asked c.step.new.printed.items
          (rest_of c.args.code.now c.args.layout.now old.own st moved.state)) (sym c.standing_of-self.ensures) done;
    }
