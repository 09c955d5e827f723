-- A node that is followed by its requests and answers, with the requests of "Introduction to Split-C" (Culler and
-- others, 1995): what it has done under them, what it does next, and how it stops.
use Rattle.std.specs.Prelude.{◌≡◌, ℕ, List, [], ◌∷◌, ◌++◌, length, slice_get, Option, Some, None, Bool, true, false}
use Rattle.resumption.specs.Resumption.{Asks, Makes, Says, Stops, Ends, Short, run_of, next_event, next_text, past_text}
use Rattle.sc_meaning.specs.declared.request.Request.{Request}
use Rattle.sc_meaning.specs.Answering.{WaitsForAnswers}
use Rattle.sc_meaning.specs.Asking.{Answer, Halt, SourceDoing}
use Rattle.sc_replay.specs.Courses.{HasDone}

-- under these answers the node made these requests and said this text, and from there on does the rest
pub record Course (start : SourceDoing) (given : List Answer) (requests : List Request) (text : List ℕ)
    (rest : SourceDoing) : Type 0 where
  pub done : HasDone start given requests text rest
  pub waits : WaitsForAnswers rest

-- how the node stops, if it does so next
abbrev pub stop_of : SourceDoing → Option Halt
stop_of (Asks request fits go) = None
stop_of (Makes request rest) = None
stop_of (Says text rest) = stop_of rest
stop_of (Stops halt) = Some halt

-- an answer is none that a run got, whatever comes behind it
abbrev pub IsStuck : SourceDoing → List Answer → Type 0
IsStuck start given = (more : List Answer) → (run_of start (given ++ more)).end ≡ Short

module _ (start : SourceDoing) (given : List Answer) (requests : List Request) (text : List ℕ) where
  pub record Followed : Type 0 where
    pub said : (rest : SourceDoing) → Course start given requests text rest
        → Course start given requests (text ++ next_text rest) (past_text rest)
    -- the run's next request, and its end if there is none
    pub next : (rest : SourceDoing) → Course start given requests text rest
        → slice_get (run_of start given).events (length requests) ≡ next_event rest
    pub some_next : (rest : SourceDoing) (r : Request) → Course start given requests text rest
        → next_event rest ≡ Some r
        → (more : List Request) × ((run_of start given).events ≡ requests ++ r ∷ more)
    pub stopped : (rest : SourceDoing) (halt : Halt) → Course start given requests text rest
        → stop_of rest ≡ Some halt
        → run_of start given ≡ record { events = requests; text = text ++ next_text rest; end = Ends halt }
    pub passed : (r : Request) (rest : SourceDoing) → Course start given requests text (Makes r rest)
        → Course start given (requests ++ r ∷ []) text rest
    pub answered : (r : Request) (fits : Answer → Bool) (go : Answer → SourceDoing) (answer : Answer)
        → fits answer ≡ true
        → Course start given requests text (Asks r fits go)
        → Course start (given ++ answer ∷ []) (requests ++ r ∷ []) text (go answer)
    pub stuck : (r : Request) (fits : Answer → Bool) (go : Answer → SourceDoing) (answer : Answer)
        → fits answer ≡ false
        → Course start given requests text (Asks r fits go) → IsStuck start (given ++ answer ∷ [])

pub record CoursesAreFollowed : Type 0 where
  pub begins : (start : SourceDoing) → WaitsForAnswers start → Course start [] [] [] start
  pub goes_on : (start : SourceDoing) (given : List Answer) (requests : List Request) (text : List ℕ)
      → Followed start given requests text
