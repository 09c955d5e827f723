-- What is kept of one node of a run under way. A past is a list of entries, the newest first.
use Rattle.std.specs.Prelude.{◌≡◌, ℕ, List, [], ◌∷◌, ◌++◌, Option, Some, None, ◌==◌, if◌then◌else◌}
use Rattle.sc_layout.specs.Layout.{Arrangement}
use Rattle.sc_isa.specs.declared.code.Code.{Code}
use Rattle.sc_isa.specs.declared.journal.Entry.{Entry}
use Rattle.sc_isa.specs.declared.journal.Entry.TheVariants.{Issued, Waited, Arrived, Passed}
use Rattle.sc_isa.specs.declared.results.NodeResult.{NodeResult}
use Rattle.sc_isa.specs.Run.{Ask, Issue, Wait, Arrive, Pass, Answer, Broken}
use Rattle.sc_base.specs.declared.value.End.TheVariants.{Waiting}
use Rattle.node_machine.specs.declared.node.Asked.{Asked}
use Rattle.node_machine.specs.declared.node.Node.{Node}
use Rattle.node_machine.specs.declared.node.Answer.{Answer as Given}
use Rattle.node_machine.specs.declared.node.Standing.TheVariants as stands
use Rattle.node_machine.specs.Course.{Finishes}
use Rattle.node_machine.specs.Nodes.{IsAt, IsNext, HasCounters, HasRoom, plain_answers}
use Rattle.node_machine.specs.Standings.{HasEnded, ask_of, asked_at, end_of}
use Rattle.fabric.specs.Barriers.{finished}
use Rattle.fabric.specs.Asked.{answers}
use Rattle.code_sim.specs.declared.node.Runner.{Runner}
use Rattle.run_moves.specs.OfCode.{machine_of}

-- the node's asks that have an entry, the oldest first
abbrev pub asks_of : (node : ℕ) → List Entry → List Ask
asks_of node [] = []
asks_of node (Issued other number access ∷ past) =
    if other == node then asks_of node past ++ Issue access ∷ [] else asks_of node past
asks_of node (Waited other counter ∷ past) =
    if other == node then asks_of node past ++ Wait counter ∷ [] else asks_of node past
asks_of node (Arrived other stores ∷ past) =
    if other == node then asks_of node past ++ Arrive stores ∷ [] else asks_of node past
asks_of node (Passed other ∷ past) = if other == node then asks_of node past ++ Pass ∷ [] else asks_of node past
asks_of node (_ ∷ past) = asks_of node past

module _ (code : Code) (layout : Arrangement) (budget : ℕ) (past : List Entry) (number : ℕ) where
  -- the answers that the past shows to the node, which do not depend on a number of instructions
  abbrev pub shown : List Answer
  shown = answers (machine_of layout code budget 0) number past

  -- the node runs, and asks this after the asks that have an entry
  pub record IsAsking (node : Node) (ask : Asked) : Type 0 where
    pub at : IsAt code layout node (asks_of number past)
    pub next : IsNext code layout node (asks_of number past) ask
    pub standing : ask ≡ asked_at node.standing
    pub room : HasRoom node
    pub runs : finished number past ≡ None

  -- the node has finished
  pub record IsOver (node : Node) : Type 0 where
    pub asked : List Ask
    pub at : IsAt code layout node asked
    pub ended : HasEnded node.standing
    pub finished : finished number past ≡ Some (end_of node.standing)

  abbrev pub GoesOn : Node → Option Asked → Type 0
  GoesOn node (Some ask) = IsAsking node ask
  GoesOn node None = IsOver node

  pub record IsRunner (runner : Runner) : Type 0 where
    pub own : runner.node.own ≡ number
    pub its_budget : runner.node.budget ≡ budget
    pub counters : HasCounters code runner.node
    pub answered : plain_answers runner.node.answers.items ≡ shown
    pub goes : GoesOn runner.node runner.asks

-- ---- what an answer leads to

-- the answer was given to what the node asked after these asks, and the node asks again
pub record IsAnswered (code : Code) (layout : Arrangement) (old : Node) (asked : List Ask) (answer : Given)
    (new : Runner) : Type 0 where
  pub own : new.node.own ≡ old.own
  pub budget : new.node.budget ≡ old.budget
  pub counters : HasCounters code new.node
  pub answers : plain_answers new.node.answers.items ≡ plain_answers old.answers.items
      ++ plain_answers (answer ∷ [])
  pub ask : Asked
  pub asks : new.asks ≡ Some ask
  pub at : IsAt code layout new.node (asked ++ ask_of old.standing)
  pub next : IsNext code layout new.node (asked ++ ask_of old.standing) ask
  pub standing : ask ≡ asked_at new.node.standing
  pub room : HasRoom new.node

-- the node, which asked to pass after these asks, was told that its barrier is broken, and has ended as waiting
pub record HasGivenUp (code : Code) (layout : Arrangement) (old : Node) (asked : List Ask) (new : Runner) : Type 0 where
  pub own : new.node.own ≡ old.own
  pub budget : new.node.budget ≡ old.budget
  pub counters : HasCounters code new.node
  pub answers : plain_answers new.node.answers.items ≡ plain_answers old.answers.items ++ Broken ∷ []
  pub asks : new.asks ≡ None
  pub at : IsAt code layout new.node (asked ++ Pass ∷ [])
  pub ended : new.node.standing ≡ stands.Ended Waiting

-- what the node leaves
pub record IsLeft (runner : Runner) (result : NodeResult) : Type 0 where
  pub printed : result.printed ≡ runner.node.printed.items
  pub finishes : (code : Code) (layout : Arrangement) (asked : List Ask) → IsAt code layout runner.node asked
      → HasEnded runner.node.standing
      → Finishes code layout runner.node.own runner.node.budget (plain_answers runner.node.answers.items) asked
      result.printed result.end
