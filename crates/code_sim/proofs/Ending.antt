-- What a run by picks leaves when no move is left.
use Rattle.std.proofs.Common.{◌≡◌, ℕ, zero, suc, ◌<◌, List, [], ◌∷◌, length, Option, Some, None, refl, sym, ap, ◌∙◌, subst, arith}
use Rattle.std.specs.Prelude.{slice_get, IsSome, is_some}
use Rattle.std.proofs.lemmas.Option.{slice_get_within}
use Rattle.resumption.specs.Resumption.{RunOf, Ends}
use Rattle.sc_base.specs.declared.value.End.{End}
use Rattle.sc_layout.specs.Layout.{Arrangement}
use Rattle.sc_layout.specs.Start.{start}
use Rattle.sc_isa.specs.declared.code.Code.{Code}
use Rattle.sc_isa.specs.declared.journal.Entry.{Entry}
use Rattle.sc_isa.specs.declared.results.NodeResult.{NodeResult}
use Rattle.sc_isa.specs.Sound.{IsSound}
use Rattle.sc_isa.specs.Run.{Ask, Halt, Finish, code_run}
use Rattle.effect_order.specs.Effect.{held}
use Rattle.node_memory.specs.Memory.{Memory, Holds}
use Rattle.node_machine.specs.declared.node.Asked.{Asked}
use Rattle.node_machine.specs.declared.node.Asked.TheVariants as event
use Rattle.node_machine.specs.Course.{Finishes}
use Rattle.node_machine.specs.Nodes.{plain_answers}
use Rattle.fabric.specs.declared.state.Run.{Run}
use Rattle.fabric.specs.Effects.{effects}
use Rattle.fabric.specs.Barriers.{finished}
use Rattle.fabric.specs.State.{State}
use Rattle.fabric.specs.Wired.{Wired}
use Rattle.fabric.specs.Asked.{Machine, run_so_far}
use Rattle.run_moves.specs.Moves.{moves}
use Rattle.run_moves.specs.Simulated.{IsPicked, IsSimulation}
use Rattle.run_moves.specs.Laws.{IsKnown, asks, ends}
use Rattle.run_moves.proofs.Calm.{code_is_orderly}
use Rattle.run_moves.proofs.Complete.{simulated_runs_are_complete}
use Rattle.code_sim.specs.declared.node.Runner.{Runner}
use Rattle.run_moves.specs.OfCode.{machine_of}
use Rattle.code_sim.specs.Enough.{Suffices}
use Rattle.code_sim.specs.Ran.{IsResultOf, IsRunBy, IsCodeRun}
use Rattle.code_sim.specs.Asking.{GoesOn, IsAsking, IsOver, IsRunner}
use Rattle.code_sim.specs.UnderWay.{IsUnderWay, IsEnded}
use Rattle.code_sim.proofs.Enough.{enough, more_suffices}
use Rattle.code_sim.proofs.Shown.{same_shown}
use Rattle.code_sim.proofs.Runs.{finishes_on}
use Rattle.code_sim.proofs.Stepping.{next, so_far}
use Rattle.code_sim.proofs.Moving.{there_is}

none_left : (xs : List Entry) → length xs ≡ 0 → xs ≡ []
none_left [] e = refl
none_left (x ∷ xs) e = absurd (omega arith)

result_there : (xs : List NodeResult) (k : ℕ) → k < length xs → (x : NodeResult) × (slice_get xs k ≡ Some x)
result_there [] k lt = absurd (omega arith)
result_there (y ∷ ys) zero lt = (y, refl)
result_there (y ∷ ys) (suc k) lt = result_there ys k (omega arith)

module _ (code : Code) (layout : Arrangement) (budget many : ℕ) (s : Suffices code layout budget many) (fabric : State) (nodes : List Runner) (run : Run)
    (u : IsUnderWay code layout budget fabric nodes) (e : IsEnded fabric nodes run) where
  abbrev M : Machine
  M = machine_of layout code budget many

  wired : Wired (start layout) layout.nodes fabric.past
  wired = subst (λ (l : Arrangement). Wired (start l) l.nodes fabric.past) u.laid.layout_is e.of_journal.wired

  -- what a node that has finished leaves is what its run is
  over_is : (node : ℕ) (runner : Runner) (result : NodeResult) → node < layout.nodes → slice_get nodes node ≡ Some runner → slice_get run.nodes node ≡ Some result → runner.asks ≡ None
      → (asked : List Ask) × (run_so_far M node fabric.past ≡ record { events = asked; text = result.printed; end = Ends (Finish result.end) })
  over_is node runner result within r q none =
      let x = u.each node runner r in
      let o : IsOver code layout budget fabric.past node runner.node = subst (GoesOn code layout budget fabric.past node runner.node) none x.goes in
      let f = (e.each node runner result r q).finishes code layout o.asked o.at o.ended in
      let g : Finishes code layout node budget (plain_answers runner.node.answers.items) o.asked result.printed result.end =
      subst (λ b. Finishes code layout node b (plain_answers runner.node.answers.items) o.asked result.printed result.end) x.its_budget
      (subst (λ k. Finishes code layout k runner.node.budget (plain_answers runner.node.answers.items) o.asked result.printed result.end) x.own f) in (
        o.asked,
        ap (code_run code layout node budget many) (same_shown code layout budget many node fabric.past ∙ sym x.answered)
            ∙ finishes_on code layout budget many s node within (plain_answers runner.node.answers.items) o.asked result.printed result.end g,
      )

  known : (node : ℕ) → node < layout.nodes → IsKnown M fabric.past node
  known node within = by r.0.asks refl
    where
      r : (x : Runner) × (slice_get nodes node ≡ Some x)
      r = there_is nodes node (subst (λ k. node < k) (sym u.count) within)

      q : (x : NodeResult) × (slice_get run.nodes node ≡ Some x)
      q = result_there run.nodes node (subst (λ k. node < k) (sym (e.count ∙ u.count)) within)

      x : IsRunner code layout budget fabric.past node r.0
      x = u.each node r.0 r.1

      asking : (ask : Asked) → IsAsking code layout budget fabric.past node r.0.node ask → IsKnown M fabric.past node
      asking (event.Issue access) a = asks (ap is_some (next code layout budget many s fabric.past node within wired r.0.node (event.Issue access) x.own x.its_budget x.answered a))
      asking (event.Wait counter) a = asks (ap is_some (next code layout budget many s fabric.past node within wired r.0.node (event.Wait counter) x.own x.its_budget x.answered a))
      asking (event.Arrive stores) a = asks (ap is_some (next code layout budget many s fabric.past node within wired r.0.node (event.Arrive stores) x.own x.its_budget x.answered a))
      asking event.Pass a = asks (ap is_some (next code layout budget many s fabric.past node within wired r.0.node event.Pass x.own x.its_budget x.answered a))
      asking (event.Finish end) a =
          ends end (ap (λ (t : RunOf Ask Halt). t.end) (so_far code layout budget many s fabric.past node within wired r.0.node (event.Finish end) x.own x.its_budget x.answered a))

      by : (o : Option Asked) → r.0.asks ≡ o → IsKnown M fabric.past node
      by (Some ask) h = asking ask (subst (GoesOn code layout budget fabric.past node r.0.node) h x.goes)
      by None h = ends q.0.end (ap (λ (t : RunOf Ask Halt). t.end) (over_is node r.0 q.0 within r.1 q.1 h).1)

  module _ (picks : ℕ → ℕ) (picked : IsPicked M picks fabric.past) (none : length (moves M fabric.past) ≡ 0) where
    simulation : IsSimulation M picks run.journal
    simulation = record {
      picked = subst (IsPicked M picks) (sym e.journal) picked;
      is_over = subst (λ (l : List Entry). moves M l ≡ []) (sym e.journal) (none_left (moves M fabric.past) none);
    }

    pub is_run : IsRunBy M picks run
    is_run =
        let both = simulated_runs_are_complete M picks run.journal (λ node lt. code_is_orderly code layout node budget many) simulation
        (λ node lt. subst (λ (l : List Entry). IsKnown M l node) (sym e.journal) (known node lt)) in
        record {
          simulation = simulation;
          legal = both.0;
          complete = both.1;
          nodes = e.count ∙ u.count;
          results = λ node result q. subst (λ (l : List Entry). IsResultOf M l node result) (sym e.journal)
              (result_of node result q (subst (λ (l : List Entry). (node : ℕ) → node < layout.nodes → IsSome (finished node l)) e.journal both.1.all_finished));
          memory = subst (λ (l : List Entry). Holds run.memory (λ place. held (start layout) place (effects (start layout) l))) (sym e.journal)
              (subst (λ (m : Memory). Holds m (λ place. held (start layout) place (effects (start layout) fabric.past))) (sym e.memory)
              (subst (λ (l : Arrangement). Holds fabric.memory (λ place. held (start l) place (effects (start l) fabric.past))) u.laid.layout_is e.of_journal.memory));
        }
      where
        result_of : (node : ℕ) (result : NodeResult) → slice_get run.nodes node ≡ Some result → ((node : ℕ) → node < layout.nodes → IsSome (finished node fabric.past))
            → IsResultOf M fabric.past node result
        result_of node result q all =
            by r.0.asks refl
          where
            within : node < layout.nodes
            within = subst (λ k. node < k) (e.count ∙ u.count) (slice_get_within run.nodes node result q)

            r : (x : Runner) × (slice_get nodes node ≡ Some x)
            r = there_is nodes node (subst (λ k. node < k) (sym u.count) within)

            none_some : (o : Option End) → o ≡ None → IsSome o → ⊥
            none_some None h i = cc
            none_some (Some y) h i = cc

            by : (o : Option Asked) → r.0.asks ≡ o → IsResultOf M fabric.past node result
            by (Some ask) h =
                let a : IsAsking code layout budget fabric.past node r.0.node ask = subst (GoesOn code layout budget fabric.past node r.0.node) h (u.each node r.0 r.1).goes in
                absurd (none_some (finished node fabric.past) a.runs (all node within))
            by None h =
                let o = over_is node r.0 result within r.1 q h in
                record { printed = sym (ap (λ (t : RunOf Ask Halt). t.text) o.1); ended = ap (λ (t : RunOf Ask Halt). t.end) o.1 }

-- from some number of instructions on
pub is_code_run : (code : Code) (layout : Arrangement) → IsSound code layout → (budget : ℕ) (picks : ℕ → ℕ) (fabric : State) (nodes : List Runner) (run : Run)
    → IsUnderWay code layout budget fabric nodes → IsEnded fabric nodes run
    → ((many : ℕ) → Suffices code layout budget many → IsPicked (machine_of layout code budget many) picks fabric.past)
    → ((many : ℕ) → Suffices code layout budget many → 0 ≡ length (moves (machine_of layout code budget many) fabric.past))
    → IsCodeRun code layout budget picks run
is_code_run code layout sound budget picks fabric nodes run u e picked none =
    let all = enough code layout sound budget in
    record {
      many = all.0;
      from_there = λ more le. (let s = more_suffices code layout budget all.0 more all.1 le in
          is_run code layout budget more s fabric nodes run u e picks (picked more s) (sym (none more s)));
      laid = ap (λ (m : Memory). m.layout) e.memory ∙ u.laid.layout_is;
    }
