use Rattle.std.proofs.Common.{◌≡◌, ◌+◌, ◌%◌, length, ap, ◌∙◌, arith}
use Rattle.std.proofs.lemmas.Result.{IfOk-weaker}
use Rattle.code_sim.proofs.Ready.{one_longer, picked_on}
use Rattle.code_sim.proofs.Ending.{is_code_run}
use Rattle.code_sim.proofs.run.run_code.Goals as goal

pub loop-moves-preserved : goal.loop-moves-preserved
loop-moves-preserved g c =
    let words = g.P.Picks.words c.args.picks.now in
    let past = c.loop-moves.run.fabric.past in
    let later = c.advance.new.self.fabric.past in
    let inv = c.loop-moves.invariant in
    let moved = c.in_ok-advance.ensures.moved in
    let longer = one_longer c.args.code.now c.args.layout.now c.args.budget c.pick-k.result past later moved in
    let here : length past + 0 ≡ length past = omega arith in
    let value : c.pick-k.result ≡ words (length past) % c.loop-moves.moves = c.pick-k.ensures.value ∙ ap (λ w. w % c.loop-moves.moves) (inv.rest 0 ∙ ap words here) in
    record {
      under_way = c.in_ok-advance.ensures.under_way;
      picked = picked_on c.args.code.now c.args.layout.now c.args.budget words c.pick-k.result c.loop-moves.moves past later moved value inv.count inv.picked;
      rest = λ k. (let shifted : length past + (k + 1) ≡ length later + k = omega (arith, longer) in c.pick-k.ensures.rest k ∙ inv.rest (k + 1) ∙ ap words shifted);
      count = c.in_ok-moves-2.ensures.count;
      short = c.in_ok-moves-2.ensures.short;
    }

pub returns-clause-run : goal.returns-clause-run
returns-clause-run g c =
    let words = g.P.Picks.words c.args.picks.now in
    let inv = c.loop-moves.invariant in
    let none : 0 ≡ c.loop-moves.moves = omega (arith, c.loop-moves-test.false) in
    IfOk-weaker c.end.result _ _
    (λ run e. is_code_run c.args.code.now c.args.layout.now c.requires c.args.budget words c.loop-moves.run.fabric c.loop-moves.run.nodes.items run inv.under_way e inv.picked
    (λ many s. none ∙ inv.count many s))
    c.end.ensures
