-- A node that runs code.
use Rattle.std.specs.Prelude.{◌<◌, List, [], ◌∷◌, length, vec_len, vec_capacity}
use Rattle.sc_layout.specs.Layout.{Arrangement}
use Rattle.sc_isa.specs.declared.code.Code.{Code}
use Rattle.sc_isa.specs.State.{State}
use Rattle.sc_isa.specs.Run.{Ask, Issue, Wait, Arrive, Pass, Answer, Landed, Passed, Broken}
use Rattle.node_machine.specs.declared.node.Answer.{Answer as Given}
use Rattle.node_machine.specs.declared.node.Answer.TheVariants as given
use Rattle.node_machine.specs.declared.node.Asked.{Asked}
use Rattle.node_machine.specs.declared.node.Asked.TheVariants as asked
use Rattle.node_machine.specs.declared.node.Node.{Node}
use Rattle.node_machine.specs.Course.{HasDone, AsksNext, WaitsFor, Finishes}
use Rattle.node_machine.specs.Standings.{rest_of, StandsBy, FliesBy, HasEnded}
use Rattle.node_machine.specs.Flights.{flights_of}

-- the answers to waits and passes
abbrev pub plain_answers : List Given → List Answer
plain_answers [] = []
plain_answers (given.Landed landed ∷ given) = Landed landed.values ∷ plain_answers given
plain_answers (given.Passed ∷ given) = Passed ∷ plain_answers given
plain_answers (given.Broken ∷ given) = Broken ∷ plain_answers given
plain_answers (given.Issued ∷ given) = plain_answers given
plain_answers (given.Arrived ∷ given) = plain_answers given

-- the node has asked this, and goes on as the code does
pub record IsAt (code : Code) (layout : Arrangement) (node : Node) (asked : List Ask) : Type 0 where
  pub state : State
  pub stands : StandsBy node.standing node.machine state
  pub flies : FliesBy node.standing (flights_of asked) state
  pub done : HasDone code layout node.own node.budget (plain_answers node.answers.items) asked node.printed.items
      (rest_of code layout node.own node.standing state)

-- the node has a count for each counter of the code
abbrev pub HasCounters : Code → Node → Type 0
HasCounters code node = code.sites < length node.machine.reads

-- ---- what is asked next

module _ (code : Code) (layout : Arrangement) (node : Node) (before : List Ask) where
  abbrev pub asks_next : Ask → Type 0
  asks_next ask =
      AsksNext code layout node.own node.budget (plain_answers node.answers.items) before node.printed.items ask

  abbrev pub waits_for : Ask → Type 0
  waits_for ask =
      WaitsFor code layout node.own node.budget (plain_answers node.answers.items) before node.printed.items ask

  -- it is the next ask of the code's run under the answers so far, after those before
  abbrev pub IsNext : Asked → Type 0
  IsNext (asked.Issue access) = asks_next (Issue access)
  IsNext (asked.Arrive stores) = asks_next (Arrive stores)
  IsNext (asked.Wait counter) = waits_for (Wait counter)
  IsNext asked.Pass = waits_for Pass
  IsNext (asked.Finish end) =
      Finishes code layout node.own node.budget (plain_answers node.answers.items) before node.printed.items end
      × HasEnded node.standing

-- there is room for one more answer
abbrev pub HasRoom : Node → Type 0
HasRoom node = vec_len node.answers < vec_capacity node.answers
