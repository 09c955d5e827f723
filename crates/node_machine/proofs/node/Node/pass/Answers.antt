use Rattle.std.proofs.Common.{◌≡◌, List, [], ◌∷◌, ◌++◌, subst, sym, ap, ◌∙◌}
use Rattle.sc_isa.specs.Run.{Pass, Answer}
use Rattle.node_machine.specs.declared.node.Standing.{Standing}
use Rattle.node_machine.specs.Course.{HasDone}
use Rattle.node_machine.specs.Standings.{StandsBy, rest_of, standing_passed, FliesBy}
use Rattle.node_machine.specs.Nodes.{plain_answers}
use Rattle.node_machine.proofs.Answered.{one_more_answer, passed_on, stands_passed, flies_passed}
use Rattle.node_machine.specs.Flights.{flights_of}
use Rattle.node_machine.proofs.node.Node.pass.Goals as goal

pub returns-clause-course : goal.returns-clause-course
returns-clause-course c = λ code layout asked at fits.
    let old = c.args.self.now in
    let before = plain_answers old.answers.items in
    let there = subst (λ (st : Standing). HasDone code layout old.own old.budget before asked old.printed.items
    (rest_of code layout old.own st at.state)) c.requires.standing at.done in
    let stands = subst (λ (st : Standing). StandsBy st old.machine at.state) c.requires.standing at.stands in
    let answers : plain_answers c.push_reserved.new.self.items ≡ before ++ plain_answers (c.args.answer ∷ []) =
    ap plain_answers c.push_reserved.ensures.items ∙ one_more_answer old.answers.items c.args.answer in
    record {
      state = at.state;
      stands = subst (λ (st : Standing). StandsBy st old.machine at.state) (sym c.passed-self.ensures)
          (stands_passed c.args.answer old.machine at.state stands);
      flies = subst (λ (st : Standing). FliesBy st (flights_of (asked ++ Pass ∷ [])) at.state) (sym c.passed-self.ensures)
          (flies_passed c.args.answer asked at.state
          (subst (λ (st : Standing). FliesBy st (flights_of asked) at.state) c.requires.standing at.flies));
      done = subst (λ (st : Standing). HasDone code layout old.own old.budget (plain_answers c.push_reserved.new.self.items)
          (asked ++ Pass ∷ []) old.printed.items (rest_of code layout old.own st at.state)) (sym c.passed-self.ensures)
          (subst (λ (as_ : List Answer). HasDone code layout old.own old.budget as_ (asked ++ Pass ∷ []) old.printed.items
          (rest_of code layout old.own (standing_passed c.args.answer) at.state)) (sym answers)
          (passed_on code layout old.own old.budget before asked old.printed.items c.args.answer at.state fits there));
    }
