-- Laws of resumptions.
use Rattle.std.specs.Prelude.{◌≡◌, ℕ, List, ◌++◌, Option, Some, None, slice_get}
use Rattle.std.specs.List.{filter_map}
use Rattle.resumption.specs.Resumption.{Doing, RunEnd, Ends, RunOf, after_text, run_of, next_event, next_text, past_text, Followed, follow}
use Rattle.resumption.specs.Forgetting.{forget, AllAsked}

-- the run that goes on from where answers were followed to
abbrev pub run_after : {Event Answer Stop : Type 0} → Followed Event Answer Stop → RunOf Event Stop →
    RunOf Event Stop
run_after followed run = record
    { events = followed.events ++ run.events; text = followed.text ++ run.text; end = run.end }

-- the second run goes on where the first was short
pub record Extends (Event Stop : Type 0) (short long : RunOf Event Stop) : Type 0 where
  pub more_events : List Event
  pub more_text : List ℕ
  pub events : long.events ≡ short.events ++ more_events
  pub text : long.text ≡ short.text ++ more_text
  pub stopped : (stop : Stop) → short.end ≡ Ends stop → long ≡ short

-- what is shown of the events of a run
abbrev pub shown_run : {Event Other Stop : Type 0} → (Event → Option Other) → RunOf Event Stop →
    RunOf Other Stop
shown_run made run = record { events = filter_map made run.events; text = run.text; end = run.end }

module _ (Event Answer Stop : Type 0) where
  -- answers that are followed are taken by the run, and then the others
  abbrev pub FollowsAnswers : Type 0
  FollowsAnswers =
      (doing : Doing Event Answer Stop) (answers more : List Answer) (followed : Followed Event Answer Stop)
      → follow doing answers ≡ Some followed → run_of doing (answers ++ more)
      ≡ run_after followed (run_of followed.rest more)

  -- where answers are not all taken, further ones change nothing
  abbrev pub StaysShort : Type 0
  StaysShort =
      (doing : Doing Event Answer Stop) (answers more : List Answer)
      → follow doing answers ≡ None → run_of doing (answers ++ more) ≡ run_of doing answers

  -- more answers only extend what is done
  abbrev pub AnswersExtend : Type 0
  AnswersExtend =
      (doing : Doing Event Answer Stop) (answers more : List Answer)
      → Extends Event Stop (run_of doing answers) (run_of doing (answers ++ more))

  -- what is said before the next event comes first in every run
  abbrev pub SaysFirst : Type 0
  SaysFirst =
      (doing : Doing Event Answer Stop) (answers : List Answer)
      → run_of doing answers ≡ after_text (next_text doing) (run_of (past_text doing) answers)

  -- the first event of every run is the next one
  abbrev pub BeginsWithNext : Type 0
  BeginsWithNext =
      (doing : Doing Event Answer Stop) (answers : List Answer) → slice_get (run_of doing answers).events 0
      ≡ next_event doing

-- forgetting leaves out, of every run, the events that are not shown
abbrev pub ForgetsEvents : (Event Other Answer Stop : Type 0) → Type 0
ForgetsEvents Event Other Answer Stop =
    (asked : Event → Other) (made : Event → Option Other) (doing : Doing Event Answer Stop) (answers : List Answer)
    → AllAsked (λ event. made event ≡ Some (asked event)) doing
    → run_of (forget asked made doing) answers ≡ shown_run made (run_of doing answers)
