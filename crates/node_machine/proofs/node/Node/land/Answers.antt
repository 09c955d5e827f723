use Rattle.std.proofs.Common.{◌≡◌, true, List, [], ◌∷◌, ◌++◌, subst, sym, ap, ◌∙◌}
use Rattle.sc_base.specs.declared.value.Value.{Value}
use Rattle.sc_isa.specs.State.{Flight, landed, reads_on}
use Rattle.sc_isa.specs.Fitting.{fits_all}
use Rattle.node_machine.specs.Flights.{flights_of}
use Rattle.sc_isa.specs.Run.{Wait, Answer, Landed, fits_wait}
use Rattle.node_machine.specs.declared.node.Answer.{Answer as Given}
use Rattle.node_machine.specs.declared.node.Standing.{Standing}
use Rattle.node_machine.specs.declared.node.Standing.TheVariants as standing
use Rattle.node_machine.specs.Course.{HasDone}
use Rattle.node_machine.specs.Standings.{StandsBy, rest_of, FitsAsk, FliesBy}
use Rattle.node_machine.specs.Nodes.{plain_answers}
use Rattle.node_machine.proofs.Answered.{one_more_answer, lands, flies_landed}
use Rattle.node_machine.proofs.node.Node.land.Goals as goal

pub returns-clause-course : goal.returns-clause-course
returns-clause-course c = λ code layout asked at fits.
    let old = c.args.self.now in
    let before = plain_answers old.answers.items in
    let values = c.values.result.now in
    let there = subst (λ (st : Standing). HasDone code layout old.own old.budget before asked old.printed.items
    (rest_of code layout old.own st at.state)) c.requires.standing at.done in
    let stands = subst (λ (st : Standing). StandsBy st old.machine at.state) c.requires.standing at.stands in
    let flies : at.state.flying ≡ flights_of asked =
    subst (λ (st : Standing). FliesBy st (flights_of asked) at.state) c.requires.standing at.flies in
    let fit : fits_wait layout c.args.counter at.state (Landed c.in-Landed.landed.values) ≡ true =
    ap (λ (fl : List Flight). fits_all layout (reads_on c.args.counter fl) c.in-Landed.landed.values) flies
    ∙ subst (λ (a : Given). FitsAsk layout (standing.Waits c.args.counter) asked a) c.in-Landed.is fits in
    let answers : plain_answers c.push_reserved.new.self.items ≡ before ++ Landed values ∷ [] =
    ap plain_answers c.push_reserved.ensures.items ∙ one_more_answer old.answers.items c.args.answer
    ∙ ap (λ (a : Given). before ++ plain_answers (a ∷ [])) c.in-Landed.is
    ∙ ap (λ (vs : List Value). before ++ Landed vs ∷ []) (sym c.values.ensures) in
    record {
      state = landed c.args.counter values at.state;
      stands = c.land.ensures.stands at.state stands;
      flies = flies_landed c.args.counter asked at.state values flies;
      done = subst (λ (as_ : List Answer). HasDone code layout old.own old.budget as_ (asked ++ Wait c.args.counter ∷ [])
          old.printed.items (rest_of code layout old.own standing.Between (landed c.args.counter values at.state))) (sym answers)
          (lands code layout old.own old.budget before asked old.printed.items c.args.counter values at.state
          (subst (λ (vs : List Value). fits_wait layout c.args.counter at.state (Landed vs) ≡ true) (sym c.values.ensures) fit)
          there);
    }
