-- Where a node stands: what it asks there, what it does from there on, and where it stands after.
use Rattle.std.specs.Prelude.{◌≡◌, ℕ, Bool, true, false, List, [], ◌∷◌}
use Rattle.sc_base.specs.declared.value.End.{End}
use Rattle.sc_base.specs.declared.value.End.TheVariants.{Waiting}
use Rattle.resumption.specs.Resumption.{Asks, Makes, Stops}
use Rattle.sc_layout.specs.Layout.{Arrangement}
use Rattle.sc_isa.specs.declared.code.Code.{Code}
use Rattle.sc_isa.specs.Fitting.{fits_all}
use Rattle.sc_isa.specs.State.{State, Flight, reads_on}
use Rattle.sc_isa.specs.Run.{Ask, Issue, Wait, Arrive, Pass, Finish, Stuck, NodeDoing, fits_wait, fits_pass, landed_by, passed_by, asks_from}
use Rattle.node_machine.specs.declared.machine.After.{After}
use Rattle.node_machine.specs.declared.machine.After.TheVariants as after
use Rattle.node_machine.specs.declared.machine.Machine.{Machine}
use Rattle.node_machine.specs.declared.machine.Move.{Move}
use Rattle.node_machine.specs.declared.machine.Move.TheVariants as move
use Rattle.node_machine.specs.declared.node.Answer.{Answer as Given}
use Rattle.node_machine.specs.declared.node.Answer.TheVariants as given
use Rattle.node_machine.specs.declared.node.Asked.{Asked}
use Rattle.node_machine.specs.declared.node.Asked.TheVariants as asked
use Rattle.node_machine.specs.declared.node.Standing.{Standing}
use Rattle.node_machine.specs.declared.node.Standing.TheVariants as standing
use Rattle.node_machine.specs.Flights.{flown_by, flights_of}
use Rattle.node_machine.specs.View.{Stands}

-- ---- what a node does from its standing on, in a state, by so many instructions

module _ (code : Code) (layout : Arrangement) (node : ℕ) where
  abbrev pub rest_after : After → State → ℕ → NodeDoing
  rest_after after.GoesOn s many = asks_from code layout node many s
  rest_after (after.Ends end) s many = Stops (Finish end)
  rest_after after.Sticks s many = Stops Stuck

  abbrev pub passing : State → ℕ → NodeDoing
  passing s many = Asks Pass fits_pass (λ answer. passed_by answer (asks_from code layout node many s))

  abbrev pub rest_of : Standing → State → ℕ → NodeDoing
  rest_of standing.Between s many = asks_from code layout node many s
  rest_of (standing.Issued access after) s many = Makes (Issue access) (rest_after after s many)
  rest_of (standing.Waits counter) s many =
      Asks (Wait counter) (fits_wait layout counter s)
      (λ answer. asks_from code layout node many (landed_by counter s answer))
  rest_of (standing.Arrives stores) s many = Makes (Arrive stores) (passing s many)
  rest_of standing.Passes s many = passing s many
  rest_of (standing.Ended end) s many = Stops (Finish end)
  rest_of standing.Stuck s many = Stops Stuck

-- the machine stands for the state, if the node goes on in it
abbrev pub StandsAfter : After → Machine → State → Type 0
StandsAfter after.GoesOn m s = Stands m s
StandsAfter _ m s = Unit {0}

abbrev pub StandsBy : Standing → Machine → State → Type 0
StandsBy (standing.Issued access after) m s = StandsAfter after m s
StandsBy (standing.Ended end) m s = Unit {0}
StandsBy standing.Stuck m s = Unit {0}
StandsBy _ m s = Stands m s

-- these reads are on their way in the state, if the node goes on in it; one that is asked for is not among them yet
abbrev pub FliesAfter : After → List Flight → State → Type 0
FliesAfter after.GoesOn flying s = s.flying ≡ flying
FliesAfter _ flying s = Unit {0}

abbrev pub FliesBy : Standing → List Flight → State → Type 0
FliesBy (standing.Issued access after) flying s = FliesAfter after (flown_by access flying) s
FliesBy (standing.Ended end) flying s = Unit {0}
FliesBy standing.Stuck flying s = Unit {0}
FliesBy _ flying s = s.flying ≡ flying

-- it has ended
abbrev pub HasEnded : Standing → Type 0
HasEnded (standing.Ended end) = Unit {0}
HasEnded _ = ⊥

-- ---- the standing that a move leads to

abbrev pub between : Standing
between = standing.Between

abbrev pub standing_by : After → Standing
standing_by after.GoesOn = standing.Between
standing_by (after.Ends end) = standing.Ended end
standing_by after.Sticks = standing.Stuck

abbrev pub standing_of : Move → Standing
standing_of (move.Comes after) = standing_by after
standing_of (move.Issues access after) = standing.Issued access after
standing_of (move.Waits counter) = standing.Waits counter
standing_of (move.Meets stores) = standing.Arrives stores

abbrev pub standing_passed : Given → Standing
standing_passed given.Broken = standing.Ended Waiting
standing_passed _ = standing.Between

-- ---- asks and answers

abbrev pub is_between : Standing → Bool
is_between standing.Between = true
is_between _ = false

-- what is asked at a standing; a node that is stuck is one whose code is not sound
abbrev pub asked_at : Standing → Asked
asked_at (standing.Issued access after) = asked.Issue access
asked_at (standing.Waits counter) = asked.Wait counter
asked_at (standing.Arrives stores) = asked.Arrive stores
asked_at standing.Passes = asked.Pass
asked_at (standing.Ended end) = asked.Finish end
asked_at _ = asked.Finish Waiting

abbrev pub end_of : Standing → End
end_of (standing.Ended end) = end
end_of _ = Waiting

-- the ask that an answer there answers
abbrev pub ask_of : Standing → List Ask
ask_of (standing.Issued access after) = Issue access ∷ []
ask_of (standing.Waits counter) = Wait counter ∷ []
ask_of (standing.Arrives stores) = Arrive stores ∷ []
ask_of standing.Passes = Pass ∷ []
ask_of _ = []

-- The answer fits what was asked: to a wait, exactly one value for each read on the counter that has not landed, in
-- order of issue, which fits the cell that was read.
abbrev pub FitsAsk : Arrangement → Standing → (asked : List Ask) → Given → Type 0
FitsAsk layout (standing.Issued access after) asks given.Issued = Unit {0}
FitsAsk layout (standing.Waits counter) asks (given.Landed landed) =
    fits_all layout (reads_on counter (flights_of asks)) landed.values ≡ true
FitsAsk layout (standing.Arrives stores) asks given.Arrived = Unit {0}
FitsAsk layout standing.Passes asks given.Passed = Unit {0}
FitsAsk layout standing.Passes asks given.Broken = Unit {0}
FitsAsk layout _ asks _ = ⊥
