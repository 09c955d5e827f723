use Rattle.std.proofs.Common.{◌≡◌, List, ◌++◌, subst, sym, ap}
use Rattle.sc_isa.specs.Run.{Ask}
use Rattle.node_machine.specs.declared.node.Standing.{Standing}
use Rattle.node_machine.specs.declared.node.Standing.TheVariants as standing
use Rattle.node_machine.specs.Course.{HasDone}
use Rattle.node_machine.specs.Standings.{StandsBy, FitsAsk, rest_of, standing_by, ask_of, FliesBy}
use Rattle.node_machine.specs.Nodes.{IsAt, plain_answers}
use Rattle.node_machine.proofs.Answered.{issued, arrived, stands_after, nothing_given, flies_issued, flies_arrived}
use Rattle.node_machine.specs.Flights.{flights_of}
use Rattle.node_machine.proofs.node.Node.answer.Goals as goal

pub returns-in-Issued-clause-course : goal.returns-in-Issued-clause-course
returns-in-Issued-clause-course c = λ code layout asked at fits.
    let old = c.args.self.now in
    let answers = plain_answers old.answers.items in
    let there = subst (λ (st : Standing). HasDone code layout old.own old.budget answers asked old.printed.items
    (rest_of code layout old.own st at.state)) c.in-Issued.is at.done in
    let stands = subst (λ (st : Standing). StandsBy st old.machine at.state) c.in-Issued.is at.stands in
    record {
      state = at.state;
      stands = subst (λ (st : Standing). StandsBy st old.machine at.state) (sym c.standing_after-self.ensures)
          (stands_after c.in-Issued.after old.machine at.state stands);
      flies = subst (λ (st : Standing). FliesBy st (flights_of (asked ++ ask_of old.standing)) at.state)
          (sym c.standing_after-self.ensures)
          (subst (λ (asks : List Ask). FliesBy (standing_by c.in-Issued.after) (flights_of (asked ++ asks)) at.state)
          (sym (ap ask_of c.in-Issued.is)) (flies_issued c.in-Issued.field-0 c.in-Issued.after asked at.state
          (subst (λ (st : Standing). FliesBy st (flights_of asked) at.state) c.in-Issued.is at.flies)));
      done = subst (λ (st : Standing). HasDone code layout old.own old.budget answers (asked ++ ask_of old.standing)
          old.printed.items (rest_of code layout old.own st at.state)) (sym c.standing_after-self.ensures)
          (subst (λ (asks : List Ask). HasDone code layout old.own old.budget answers (asked ++ asks) old.printed.items
          (rest_of code layout old.own (standing_by c.in-Issued.after) at.state)) (sym (ap ask_of c.in-Issued.is))
          (issued code layout old.own old.budget answers asked old.printed.items c.in-Issued.field-0 c.in-Issued.after at.state
          there));
    }

pub returns-in-Waits-clause-course : goal.returns-in-Waits-clause-course
returns-in-Waits-clause-course c = λ code layout asked at fits.
    subst (λ (asks : List Ask). IsAt code layout c.land.new.self (asked ++ asks)) (sym (ap ask_of c.in-Waits.is))
    (c.land.ensures.course code layout asked at
    (subst (λ (st : Standing). FitsAsk layout st asked c.args.answer) c.in-Waits.is fits))

pub returns-in-Arrives-clause-course : goal.returns-in-Arrives-clause-course
returns-in-Arrives-clause-course c = λ code layout asked at fits.
    let old = c.args.self.now in
    let answers = plain_answers old.answers.items in
    let there = subst (λ (st : Standing). HasDone code layout old.own old.budget answers asked old.printed.items
    (rest_of code layout old.own st at.state)) c.in-Arrives.is at.done in
    let stands = subst (λ (st : Standing). StandsBy st old.machine at.state) c.in-Arrives.is at.stands in
    record {
      state = at.state;
      stands = stands;
      flies = subst (λ (asks : List Ask). at.state.flying ≡ flights_of (asked ++ asks)) (sym (ap ask_of c.in-Arrives.is))
          (flies_arrived c.in-Arrives.field-0 asked at.state
          (subst (λ (st : Standing). FliesBy st (flights_of asked) at.state) c.in-Arrives.is at.flies));
      done = subst (λ (asks : List Ask). HasDone code layout old.own old.budget answers (asked ++ asks) old.printed.items
          (rest_of code layout old.own standing.Passes at.state)) (sym (ap ask_of c.in-Arrives.is))
          (arrived code layout old.own old.budget answers asked old.printed.items c.in-Arrives.field-0 at.state there);
    }

pub returns-in-Passes-clause-course : goal.returns-in-Passes-clause-course
returns-in-Passes-clause-course c = λ code layout asked at fits.
    subst (λ (asks : List Ask). IsAt code layout c.pass.new.self (asked ++ asks)) (sym (ap ask_of c.in-Passes.is))
    (c.pass.ensures.course code layout asked at
    (subst (λ (st : Standing). FitsAsk layout st asked c.args.answer) c.in-Passes.is fits))

pub returns-in-Issued-clause-answers : goal.returns-in-Issued-clause-answers
returns-in-Issued-clause-answers c = λ layout s fits.
    nothing_given layout (standing.Issued c.in-Issued.field-0 c.in-Issued.after) s c.args.answer
    (plain_answers c.args.self.now.answers.items) tt
    (subst (λ (st : Standing). FitsAsk layout st s c.args.answer) c.in-Issued.is fits)

pub returns-in-Arrives-clause-answers : goal.returns-in-Arrives-clause-answers
returns-in-Arrives-clause-answers c = λ layout s fits.
    nothing_given layout (standing.Arrives c.in-Arrives.field-0) s c.args.answer
    (plain_answers c.args.self.now.answers.items) tt
    (subst (λ (st : Standing). FitsAsk layout st s c.args.answer) c.in-Arrives.is fits)

pub returns-in-Waits-clause-answers : goal.returns-in-Waits-clause-answers
returns-in-Waits-clause-answers c = λ layout s fits.
    c.land.ensures.answers layout s (subst (λ (st : Standing). FitsAsk layout st s c.args.answer) c.in-Waits.is fits)
