-- What a node has done so far, at a number of instructions that is enough.
use Rattle.std.proofs.Common.{◌≡◌, ℕ, ◌+◌, ◌<◌, List, [], ◌∷◌, ◌++◌, refl, sym, ap, ◌∙◌, subst, arith}
use Rattle.resumption.specs.Resumption.{RunOf, Ends, Short, run_of}
use Rattle.sc_base.specs.declared.value.End.{End}
use Rattle.sc_base.specs.declared.value.End.TheVariants.{Waiting}
use Rattle.sc_layout.specs.Layout.{Arrangement}
use Rattle.sc_isa.specs.declared.code.Code.{Code}
use Rattle.sc_isa.specs.Run.{Ask, Issue, Wait, Arrive, Pass, Answer, Broken, Halt, Finish, code_run}
use Rattle.node_machine.specs.declared.node.Asked.{Asked}
use Rattle.node_machine.specs.declared.node.Asked.TheVariants as event
use Rattle.node_machine.specs.declared.node.Node.{Node}
use Rattle.node_machine.specs.declared.node.Standing.{Standing}
use Rattle.node_machine.specs.declared.node.Standing.TheVariants as stands
use Rattle.node_machine.specs.Course.{after, AsksNext, WaitsFor, Finishes}
use Rattle.node_machine.specs.Nodes.{IsAt, IsNext, plain_answers}
use Rattle.node_machine.specs.Standings.{rest_of, asked_at, HasEnded}
use Rattle.code_sim.specs.Enough.{Suffices}

-- the run so far: what was asked and printed, and what is asked now or how it ended
abbrev pub RunIs : RunOf Ask Halt → (asked : List Ask) → (printed : List ℕ) → Asked → Type 0
RunIs run asked printed (event.Issue access) = (later : RunOf Ask Halt) × (run ≡ after (asked ++ Issue access ∷ []) printed later)
RunIs run asked printed (event.Arrive stores) = (later : RunOf Ask Halt) × (run ≡ after (asked ++ Arrive stores ∷ []) printed later)
RunIs run asked printed (event.Wait counter) = run ≡ record { events = asked ++ Wait counter ∷ []; text = printed; end = Short }
RunIs run asked printed event.Pass = run ≡ record { events = asked ++ Pass ∷ []; text = printed; end = Short }
RunIs run asked printed (event.Finish end) = run ≡ record { events = asked; text = printed; end = Ends (Finish end) }

module _ (code : Code) (layout : Arrangement) (budget many : ℕ) (s : Suffices code layout budget many) (node : ℕ) (within : node < layout.nodes) where
  asks_on : (answers : List Answer) (asked : List Ask) (printed : List ℕ) (ask : Ask) → AsksNext code layout node budget answers asked printed ask
      → (later : RunOf Ask Halt) × (code_run code layout node budget many answers ≡ after (asked ++ ask ∷ []) printed later)
  asks_on answers asked printed ask a =
      (a.later many, sym (s.same node (a.instructions + many) answers within (omega arith)) ∙ a.run many)

  waits_on : (answers : List Answer) (asked : List Ask) (printed : List ℕ) (ask : Ask) → WaitsFor code layout node budget answers asked printed ask
      → code_run code layout node budget many answers ≡ record { events = asked ++ ask ∷ []; text = printed; end = Short }
  waits_on answers asked printed ask a = sym (s.same node (a.instructions + many) answers within (omega arith)) ∙ a.run many

  pub finishes_on : (answers : List Answer) (asked : List Ask) (printed : List ℕ) (end : End) → Finishes code layout node budget answers asked printed end
      → code_run code layout node budget many answers ≡ record { events = asked; text = printed; end = Ends (Finish end) }
  finishes_on answers asked printed end a = sym (s.same node (a.instructions + many) answers within (omega arith)) ∙ a.run many

  pub run_is : (n : Node) (ask : Asked) (asked : List Ask) → n.own ≡ node → n.budget ≡ budget → IsNext code layout n asked ask
      → RunIs (code_run code layout node budget many (plain_answers n.answers.items)) asked n.printed.items ask
  run_is n (event.Issue access) asked own b x =
      asks_on (plain_answers n.answers.items) asked n.printed.items (Issue access)
      (subst (λ k. AsksNext code layout node k (plain_answers n.answers.items) asked n.printed.items (Issue access)) b
      (subst (λ k. AsksNext code layout k n.budget (plain_answers n.answers.items) asked n.printed.items (Issue access)) own x))
  run_is n (event.Arrive stores) asked own b x =
      asks_on (plain_answers n.answers.items) asked n.printed.items (Arrive stores)
      (subst (λ k. AsksNext code layout node k (plain_answers n.answers.items) asked n.printed.items (Arrive stores)) b
      (subst (λ k. AsksNext code layout k n.budget (plain_answers n.answers.items) asked n.printed.items (Arrive stores)) own x))
  run_is n (event.Wait counter) asked own b x =
      waits_on (plain_answers n.answers.items) asked n.printed.items (Wait counter)
      (subst (λ k. WaitsFor code layout node k (plain_answers n.answers.items) asked n.printed.items (Wait counter)) b
      (subst (λ k. WaitsFor code layout k n.budget (plain_answers n.answers.items) asked n.printed.items (Wait counter)) own x))
  run_is n event.Pass asked own b x =
      waits_on (plain_answers n.answers.items) asked n.printed.items Pass
      (subst (λ k. WaitsFor code layout node k (plain_answers n.answers.items) asked n.printed.items Pass) b
      (subst (λ k. WaitsFor code layout k n.budget (plain_answers n.answers.items) asked n.printed.items Pass) own x))
  run_is n (event.Finish end) asked own b x =
      finishes_on (plain_answers n.answers.items) asked n.printed.items end
      (subst (λ k. Finishes code layout node k (plain_answers n.answers.items) asked n.printed.items end) b
      (subst (λ k. Finishes code layout k n.budget (plain_answers n.answers.items) asked n.printed.items end) own x.0))

-- a node that asks to pass stands there
pub stands_at_pass : (s : Standing) → event.Pass ≡ asked_at s → s ≡ stands.Passes
stands_at_pass stands.Between e = cc
stands_at_pass (stands.Issued access after) e = cc
stands_at_pass (stands.Waits counter) e = cc
stands_at_pass (stands.Arrives stores) e = cc
stands_at_pass stands.Passes e = refl
stands_at_pass (stands.Ended end) e = cc
stands_at_pass stands.Stuck e = cc

-- a node that has ended did so by what it asks
pub ended_so : (s : Standing) (end : End) → event.Finish end ≡ asked_at s → HasEnded s → s ≡ stands.Ended end
ended_so stands.Between end e h = absurd h
ended_so (stands.Issued access after) end e h = absurd h
ended_so (stands.Waits counter) end e h = absurd h
ended_so (stands.Arrives stores) end e h = absurd h
ended_so stands.Passes end e h = absurd h
ended_so (stands.Ended other) end e h = cc
ended_so stands.Stuck end e h = absurd h

-- where the node stands at a barrier, and is told that it is broken, it has asked to pass, and ends as waiting
pub broken_run : (code : Code) (layout : Arrangement) (n : Node) (asked : List Ask) → IsAt code layout n asked → n.standing ≡ stands.Passes
    → (instructions : ℕ) × ((many : ℕ) → code_run code layout n.own n.budget (instructions + many) (plain_answers n.answers.items ++ Broken ∷ [])
    ≡ record { events = asked ++ Pass ∷ []; text = n.printed.items ++ []; end = Ends (Finish Waiting) })
broken_run code layout n asked a e =
    let d = a.done in (
      d.instructions,
      λ many. d.run many (Broken ∷ [])
          ∙ ap (λ (t : Standing). after asked n.printed.items (run_of (rest_of code layout n.own t a.state many) (Broken ∷ []))) e,
    )
