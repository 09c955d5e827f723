-- What a process does from a moment on, whatever it is answered: a resumption, after Plotkin, "A powerdomain
-- construction" (1976), over events as the interaction trees of Xia and others (2020) have them; and its run under a
-- list of answers, the oldest first.
use Rattle.std.specs.Prelude.{ℕ, List, [], ◌∷◌, ◌++◌, Bool, if◌then◌else◌, Option, Some, None}
use Rattle.std.specs.Option.{option_map}

-- It asks by an event, says which answers fit, and goes on by the answer; or it makes an event that has no answer and
-- goes on; or it says a text and goes on; or it stops.
pub data Doing (Event Answer Stop : Type 0) : Type 0 where
  Asks : Event → (fits : Answer → Bool) → (go : Answer → Doing Event Answer Stop) → Doing Event Answer Stop
  Makes : Event → Doing Event Answer Stop → Doing Event Answer Stop
  Says : List ℕ → Doing Event Answer Stop → Doing Event Answer Stop
  Stops : Stop → Doing Event Answer Stop

-- How a run under a list of answers ends: with the stop, or short of it, where the answers ran out or one did not
-- fit.
pub data RunEnd (Stop : Type 0) : Type 0 where
  Ends : Stop → RunEnd Stop
  Short : RunEnd Stop

-- the run under a list of answers: its events, what it says, and how it ends
pub record RunOf (Event Stop : Type 0) : Type 0 where
  pub events : List Event
  pub text : List ℕ
  pub end : RunEnd Stop

-- the run that asks by this event and gets no answer
abbrev pub unanswered : {Event Stop : Type 0} → Event → RunOf Event Stop
unanswered event = record { events = event ∷ []; text = []; end = Short }

abbrev pub after_event : {Event Stop : Type 0} → Event → RunOf Event Stop → RunOf Event Stop
after_event event run = record run { events = event ∷ run.events }

abbrev pub after_text : {Event Stop : Type 0} → List ℕ → RunOf Event Stop → RunOf Event Stop
after_text text run = record run { text = text ++ run.text }

-- An answer that does not fit is no answer.
abbrev pub run_of : {Event Answer Stop : Type 0} → Doing Event Answer Stop → List Answer → RunOf Event Stop
run_of (Asks event fits go) [] = unanswered event
run_of (Asks event fits go) (answer ∷ answers) =
    if fits answer then after_event event (run_of (go answer) answers) else unanswered event
run_of (Makes event rest) answers = after_event event (run_of rest answers)
run_of (Says text rest) answers = after_text text (run_of rest answers)
run_of (Stops stop) answers = record { events = []; text = []; end = Ends stop }

-- ---- what comes next

-- the next event, if there is one, and what is said before it
abbrev pub next_event : {Event Answer Stop : Type 0} → Doing Event Answer Stop → Option Event
next_event (Asks event fits go) = Some event
next_event (Makes event rest) = Some event
next_event (Says text rest) = next_event rest
next_event (Stops stop) = None

abbrev pub next_text : {Event Answer Stop : Type 0} → Doing Event Answer Stop → List ℕ
next_text (Says text rest) = text ++ next_text rest
next_text _ = []

-- what is left when that was said
abbrev pub past_text : {Event Answer Stop : Type 0} → Doing Event Answer Stop → Doing Event Answer Stop
past_text (Says text rest) = past_text rest
past_text doing = doing

-- ---- following answers

-- what was done up to an answer, and what is done from there on
pub record Followed (Event Answer Stop : Type 0) : Type 0 where
  pub events : List Event
  pub text : List ℕ
  pub rest : Doing Event Answer Stop

abbrev pub event_before : {Event Answer Stop : Type 0} → Event → Followed Event Answer Stop
    → Followed Event Answer Stop
event_before event followed = record followed { events = event ∷ followed.events }

abbrev pub text_before : {Event Answer Stop : Type 0} → List ℕ → Followed Event Answer Stop
    → Followed Event Answer Stop
text_before text followed = record followed { text = text ++ followed.text }

abbrev pub begun : {Event Answer Stop : Type 0} → Doing Event Answer Stop → Followed Event Answer Stop
begun doing = record { events = []; text = []; rest = doing }

-- up to the last of the answers: None where one of them is not asked for or does not fit
abbrev pub follow : {Event Answer Stop : Type 0} → Doing Event Answer Stop → List Answer
    → Option (Followed Event Answer Stop)
follow (Asks event fits go) [] = Some (begun (Asks event fits go))
follow (Asks event fits go) (answer ∷ answers) =
    if fits answer then option_map (event_before event) (follow (go answer) answers) else None
follow (Makes event rest) [] = Some (begun (Makes event rest))
follow (Makes event rest) (answer ∷ answers) = option_map (event_before event) (follow rest (answer ∷ answers))
follow (Says text rest) [] = Some (begun (Says text rest))
follow (Says text rest) (answer ∷ answers) = option_map (text_before text) (follow rest (answer ∷ answers))
follow (Stops stop) [] = Some (begun (Stops stop))
follow (Stops stop) (answer ∷ answers) = None
