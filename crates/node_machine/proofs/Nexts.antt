-- What is asked at a standing is the next ask of the code's run.
use Rattle.std.proofs.Common.{◌≡◌, ℕ, ◌+◌, ◌<◌, false, List, [], ◌∷◌, ◌++◌, sym, ap, subst, ◌∙◌, append_assoc}
use Rattle.std.proofs.lemmas.List.{append-nil}
use Rattle.resumption.specs.Resumption.{RunOf, RunEnd, Ends, Short, run_of}
use Rattle.sc_base.specs.declared.value.End.{End}
use Rattle.sc_layout.specs.Layout.{Arrangement}
use Rattle.sc_isa.specs.declared.code.Code.{Code}
use Rattle.sc_isa.specs.State.{State}
use Rattle.sc_isa.specs.Run.{Ask, Issue, Wait, Arrive, Pass, Answer, Halt, Finish, NodeDoing, code_run}
use Rattle.sc_isa.specs.Sound.{IsSound}
use Rattle.sc_isa.proofs.Settling.{soundly}
use Rattle.node_machine.specs.declared.node.Node.{Node}
use Rattle.node_machine.specs.declared.node.Standing.{Standing}
use Rattle.node_machine.specs.declared.node.Standing.TheVariants as standing
use Rattle.node_machine.specs.Course.{after, HasDone, Finishes}
use Rattle.node_machine.specs.Standings.{rest_after, rest_of, passing, is_between, asked_at, end_of, HasEnded}
use Rattle.node_machine.specs.Nodes.{IsNext, plain_answers}

module _ (code : Code) (layout : Arrangement) (own budget : ℕ) (answers : List Answer) (asked : List Ask)
    (printed : List ℕ) where
  -- with no further answers
  alone : (rest : ℕ → NodeDoing) (h : HasDone code layout own budget answers asked printed rest) (many : ℕ)
      → code_run code layout own budget (h.instructions + many) answers ≡ after asked printed (run_of (rest many) [])
  alone rest h many =
      ap (λ (given : List Answer). code_run code layout own budget (h.instructions + many) given) (sym (append-nil answers))
      ∙ h.run many []

  one_event : (ask : Ask) (run : RunOf Ask Halt)
      → after asked printed (record { events = ask ∷ run.events; text = run.text; end = run.end })
      ≡ after (asked ++ ask ∷ []) printed run
  one_event ask run =
      ap (λ (es : List Ask). record { events = es; text = printed ++ run.text; end = run.end })
      (sym (append_assoc asked (ask ∷ []) run.events))

  abbrev run_with : List Ask → List ℕ → RunEnd Halt → RunOf Ask Halt
  run_with events text end = record { events = events; text = text; end = end }

  no_text : (events : List Ask) (end : RunEnd Halt) → run_with events (printed ++ []) end ≡ run_with events printed end
  no_text events end = ap (λ (t : List ℕ). run_with events t end) (append-nil printed)

  pub finishes : (end : End) (s : State)
      → HasDone code layout own budget answers asked printed (rest_of code layout own (standing.Ended end) s)
      → Finishes code layout own budget answers asked printed end
  finishes end s h = record {
    instructions = h.instructions;
    run = λ many. alone (rest_of code layout own (standing.Ended end) s) h many
        ∙ ap (λ (es : List Ask). run_with es (printed ++ []) (Ends (Finish end))) (append-nil asked)
        ∙ no_text asked (Ends (Finish end));
  }

  pub finishes_at : (st : Standing) (s : State) → HasEnded st
      → HasDone code layout own budget answers asked printed (rest_of code layout own st s)
      → Finishes code layout own budget answers asked printed (end_of st)
  finishes_at (standing.Ended end) s e h = finishes end s h
  finishes_at standing.Between s e h = absurd e
  finishes_at (standing.Issued access made) s e h = absurd e
  finishes_at (standing.Waits counter) s e h = absurd e
  finishes_at (standing.Arrives stores) s e h = absurd e
  finishes_at standing.Passes s e h = absurd e
  finishes_at standing.Stuck s e h = absurd e

  never_stuck : IsSound code layout → own < layout.nodes → (s : State)
      → HasDone code layout own budget answers asked printed (rest_of code layout own standing.Stuck s) → ⊥
  never_stuck sound in_layout s h =
      (soundly code layout sound own budget in_layout (h.instructions + 0) answers).not_stuck
      (ap (λ (r : RunOf Ask Halt). r.end) (alone (rest_of code layout own standing.Stuck s) h 0))

pub next_is : (code : Code) (layout : Arrangement) (node : Node) (asked : List Ask) (st : Standing) (s : State)
    → node.standing ≡ st → is_between st ≡ false → IsSound code layout → node.own < layout.nodes
    → HasDone code layout node.own node.budget (plain_answers node.answers.items) asked node.printed.items
    (rest_of code layout node.own st s)
    → IsNext code layout node asked (asked_at st)
next_is code layout node asked standing.Between s e b sound in_layout h = absurd (cc)
next_is code layout node asked (standing.Issued access made) s e b sound in_layout h = record {
  instructions = h.instructions;
  later = λ many. run_of (rest_after code layout node.own made s many) [];
  run = λ many. alone code layout node.own node.budget (plain_answers node.answers.items) asked node.printed.items
      (rest_of code layout node.own (standing.Issued access made) s) h many
      ∙ one_event code layout node.own node.budget (plain_answers node.answers.items) asked node.printed.items (Issue access)
      (run_of (rest_after code layout node.own made s many) []);
}
next_is code layout node asked (standing.Waits counter) s e b sound in_layout h = record {
  instructions = h.instructions;
  run = λ many. alone code layout node.own node.budget (plain_answers node.answers.items) asked node.printed.items
      (rest_of code layout node.own (standing.Waits counter) s) h many
      ∙ no_text code layout node.own node.budget (plain_answers node.answers.items) asked node.printed.items
      (asked ++ Wait counter ∷ []) Short;
}
next_is code layout node asked (standing.Arrives stores) s e b sound in_layout h = record {
  instructions = h.instructions;
  later = λ many. run_of (passing code layout node.own s many) [];
  run = λ many. alone code layout node.own node.budget (plain_answers node.answers.items) asked node.printed.items
      (rest_of code layout node.own (standing.Arrives stores) s) h many
      ∙ one_event code layout node.own node.budget (plain_answers node.answers.items) asked node.printed.items (Arrive stores)
      (run_of (passing code layout node.own s many) []);
}
next_is code layout node asked standing.Passes s e b sound in_layout h = record {
  instructions = h.instructions;
  run = λ many. alone code layout node.own node.budget (plain_answers node.answers.items) asked node.printed.items
      (rest_of code layout node.own standing.Passes s) h many
      ∙ no_text code layout node.own node.budget (plain_answers node.answers.items) asked node.printed.items
      (asked ++ Pass ∷ []) Short;
}
next_is code layout node asked (standing.Ended end) s e b sound in_layout h = (
  finishes code layout node.own node.budget (plain_answers node.answers.items) asked node.printed.items end s h,
  subst HasEnded (sym e) tt,
)
next_is code layout node asked standing.Stuck s e b sound in_layout h =
    absurd (never_stuck code layout node.own node.budget (plain_answers node.answers.items) asked node.printed.items sound
    in_layout s h)
