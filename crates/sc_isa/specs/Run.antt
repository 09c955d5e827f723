-- The code's run on a node: a resumption that asks as the instructions do, for each number of instructions.
use Rattle.std.specs.Prelude.{ℕ, zero, suc, Bool, true, false, List}
use Rattle.resumption.specs.Resumption.{Doing, Asks, Makes, Says as Tells, Stops, RunOf, run_of}
use Rattle.sc_base.specs.declared.value.End.{End}
use Rattle.sc_base.specs.declared.value.End.TheVariants.{Waiting}
use Rattle.sc_base.specs.declared.value.Value.{Value}
use Rattle.sc_layout.specs.Layout.{Arrangement}
use Rattle.sc_isa.specs.declared.access.Access.{Access}
use Rattle.sc_isa.specs.declared.code.Code.{Code}
use Rattle.sc_isa.specs.Fitting.{fits_all}
use Rattle.sc_isa.specs.State.{State, reads_on, landed}
use Rattle.sc_isa.specs.Moves.{After, GoesOn, Ends, Sticks, Move, Comes, Issues, Waits, Meets, Says}
use Rattle.sc_isa.specs.Table.{step_of}
use Rattle.sc_isa.specs.Begin.{begin}

-- what a node asks: an issue and an arrival have no answer
pub data Ask : Type 0 where
  Issue : Access → Ask
  Wait : (counter : ℕ) → Ask
  Arrive : (stores : Bool) → Ask
  Pass : Ask

-- the values that land at a wait, or that a barrier is passed or broken
pub data Answer : Type 0 where
  Landed : List Value → Answer
  Passed : Answer
  Broken : Answer

-- Why a run stops: the node finishes; or an instruction can't be done; or the number of instructions is used up, and
-- nothing more is known.
pub data Halt : Type 0 where
  Finish : End → Halt
  Stuck : Halt
  UsedUp : Halt

abbrev pub NodeDoing : Type 0
NodeDoing = Doing Ask Answer Halt

-- exactly one value for each read on the counter, in order of issue, which fits the cell that was read
abbrev pub fits_wait : Arrangement → (counter : ℕ) → State → Answer → Bool
fits_wait layout counter s (Landed values) = fits_all layout (reads_on counter s.flying) values
fits_wait layout counter s _ = false

abbrev pub fits_pass : Answer → Bool
fits_pass (Landed values) = false
fits_pass Passed = true
fits_pass Broken = true

abbrev pub landed_by : (counter : ℕ) → State → Answer → State
landed_by counter s (Landed values) = landed counter values s
landed_by counter s _ = s

-- a node that finds its barrier broken ends as waiting
abbrev pub passed_by : Answer → NodeDoing → NodeDoing
passed_by Broken rest = Stops (Finish Waiting)
passed_by _ rest = rest

-- what comes of it, where `go` says what is asked from a state on
abbrev pub comes_to : (State → NodeDoing) → After → NodeDoing
comes_to go (GoesOn s) = go s
comes_to go (Ends end) = Stops (Finish end)
comes_to go Sticks = Stops Stuck

abbrev pub asked_by : Arrangement → (State → NodeDoing) → Move → NodeDoing
asked_by layout go (Comes after) = comes_to go after
asked_by layout go (Issues access after) = Makes (Issue access) (comes_to go after)
asked_by layout go (Waits counter s) =
    Asks (Wait counter) (fits_wait layout counter s) (λ answer. go (landed_by counter s answer))
asked_by layout go (Meets stores s) = Makes (Arrive stores) (Asks Pass fits_pass (λ answer. passed_by answer (go s)))
asked_by layout go (Says text s) = Tells text (go s)

module _ (code : Code) (layout : Arrangement) (node : ℕ) where
  -- what the code asks from a state on, by so many instructions
  abbrev pub asks_from : ℕ → State → NodeDoing
  asks_from zero s = Stops UsedUp
  asks_from (suc n) s = asked_by layout (asks_from n) (step_of code layout node s)

  -- the node under this budget, by so many instructions
  abbrev pub node_asks : (budget many : ℕ) → NodeDoing
  node_asks budget many = asks_from many (begin code budget)

  -- the code's run under a list of answers: what is asked, what is printed, and how it ends
  abbrev pub code_run : (budget many : ℕ) → List Answer → RunOf Ask Halt
  code_run budget many answers = run_of (node_asks budget many) answers
