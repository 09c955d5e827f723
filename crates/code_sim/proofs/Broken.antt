-- A node that stands at a barrier and is told that it is broken has ended as waiting.
use Rattle.std.proofs.Common.{◌≡◌, ℕ, ◌+◌, List, [], ◌∷◌, ◌++◌, None, sym, ap, ◌∙◌, subst, arith}
use Rattle.resumption.specs.Resumption.{RunOf, Ends}
use Rattle.sc_base.specs.declared.value.End.TheVariants.{Waiting}
use Rattle.sc_layout.specs.Layout.{Arrangement}
use Rattle.sc_isa.specs.declared.code.Code.{Code}
use Rattle.sc_isa.specs.Run.{Ask, Pass, Answer, Broken, Halt, Finish, code_run}
use Rattle.node_machine.specs.declared.node.Asked.{Asked}
use Rattle.node_machine.specs.declared.node.Asked.TheVariants as event
use Rattle.node_machine.specs.declared.node.Answer.TheVariants as given
use Rattle.node_machine.specs.declared.node.Node.{Node}
use Rattle.node_machine.specs.declared.node.Standing.{Standing}
use Rattle.node_machine.specs.declared.node.Standing.TheVariants as stands
use Rattle.node_machine.specs.Nodes.{IsAt, IsNext, plain_answers}
use Rattle.node_machine.specs.Standings.{asked_at, ask_of}
use Rattle.code_sim.specs.declared.node.Runner.{Runner}
use Rattle.code_sim.specs.Asking.{IsAnswered, HasGivenUp}
use Rattle.code_sim.proofs.Runs.{broken_run, ended_so}

too_long : (xs ys : List Ask) (y : Ask) → xs ≡ (xs ++ y ∷ []) ++ ys → ⊥
too_long [] ys y e = cc
too_long (x ∷ xs) ys y e = too_long xs ys y (let rest : xs ≡ (xs ++ y ∷ []) ++ ys = cc in rest)

module _ (code : Code) (layout : Arrangement) (old : Node) (asked : List Ask) (new : Runner) (at : IsAt code layout old asked) (stood : old.standing ≡ stands.Passes)
    (a : IsAnswered code layout old asked given.Broken new) where
  b : (instructions : ℕ) × ((many : ℕ) → code_run code layout old.own old.budget (instructions + many) (plain_answers old.answers.items ++ Broken ∷ [])
      ≡ record { events = asked ++ Pass ∷ []; text = old.printed.items ++ []; end = Ends (Finish Waiting) })
  b = broken_run code layout old asked at stood

  asks_are : asked ++ ask_of old.standing ≡ asked ++ Pass ∷ []
  asks_are = ap (λ (s : Standing). asked ++ ask_of s) stood

  -- the run of the node after the answer
  so : (instructions : ℕ) → code_run code layout new.node.own new.node.budget (instructions + b.0) (plain_answers new.node.answers.items)
      ≡ record { events = asked ++ Pass ∷ []; text = old.printed.items ++ []; end = Ends (Finish Waiting) }
  so instructions =
      let sum : instructions + b.0 ≡ b.0 + instructions = omega arith in
      ap (λ n. code_run code layout n new.node.budget (instructions + b.0) (plain_answers new.node.answers.items)) a.own
      ∙ ap (λ n. code_run code layout old.own n (instructions + b.0) (plain_answers new.node.answers.items)) a.budget
      ∙ ap (λ n. code_run code layout old.own old.budget n (plain_answers new.node.answers.items)) sum
      ∙ ap (λ (l : List Answer). code_run code layout old.own old.budget (b.0 + instructions) l) a.answers
      ∙ b.1 instructions

  longer : (run : RunOf Ask Halt) (later : List Ask) (ask : Ask) → run ≡ record { events = asked ++ Pass ∷ []; text = old.printed.items ++ []; end = Ends (Finish Waiting) }
      → run.events ≡ ((asked ++ Pass ∷ []) ++ ask ∷ []) ++ later → ⊥
  longer run later ask e l = too_long (asked ++ Pass ∷ []) later ask (sym (ap (λ (u : RunOf Ask Halt). u.events) e) ∙ l)

  stands_so : (ask : Asked) → ask ≡ asked_at new.node.standing → IsNext code layout new.node (asked ++ Pass ∷ []) ask → new.node.standing ≡ stands.Ended Waiting
  stands_so (event.Issue access) s x =
      absurd (longer _ _ _ (so x.instructions) (ap (λ (u : RunOf Ask Halt). u.events) (x.run b.0)))
  stands_so (event.Arrive stores) s x =
      absurd (longer _ _ _ (so x.instructions) (ap (λ (u : RunOf Ask Halt). u.events) (x.run b.0)))
  stands_so (event.Wait counter) s x =
      let e = ap (λ (u : RunOf Ask Halt). u.end) (sym (so x.instructions) ∙ x.run b.0) in absurd (cc)
  stands_so event.Pass s x =
      let e = ap (λ (u : RunOf Ask Halt). u.end) (sym (so x.instructions) ∙ x.run b.0) in absurd (cc)
  stands_so (event.Finish end) s x =
      let e = ap (λ (u : RunOf Ask Halt). u.end) (sym (x.0.run b.0) ∙ so x.0.instructions) in
      let waiting : end ≡ Waiting = cc in
      ended_so new.node.standing end s x.1 ∙ ap (λ o. stands.Ended o) waiting

  pub has_given_up : HasGivenUp code layout old asked (record { node = new.node; asks = None })
  has_given_up = record {
    own = a.own;
    budget = a.budget;
    counters = a.counters;
    answers = a.answers;
    asks = cc;
    at = subst (IsAt code layout new.node) asks_are a.at;
    ended = stands_so a.ask a.standing (subst (λ (l : List Ask). IsNext code layout new.node l a.ask) asks_are a.next);
  }
