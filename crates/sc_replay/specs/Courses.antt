-- How far a node's run has come: what it did under the answers that it got, and what it does from there on.
use Rattle.std.specs.Prelude.{◌≡◌, ℕ, List, [], ◌∷◌, ◌++◌, length, Some, Bool, true, false, slice_get}
use Rattle.resumption.specs.Resumption.{Asks, Makes, Stops, Ends, Short, run_of, next_text, past_text}
use Rattle.resumption.specs.Laws.{run_after}
use Rattle.sc_meaning.specs.declared.request.Request.{Request}
use Rattle.sc_meaning.specs.Asking.{Answer, Halt, SourceDoing}

-- under these answers the node made these requests and said this text; under all further answers it goes on as the rest
pub record HasDone (start : SourceDoing) (given : List Answer) (requests : List Request) (text : List ℕ)
    (rest : SourceDoing) : Type 0 where
  pub run : (more : List Answer) → run_of start (given ++ more)
      ≡ run_after (record { events = requests; text = text; rest = rest }) (run_of rest more)

-- a node is followed step by step, and never begun anew
pub record CoursesGoOn : Type 0 where
  pub begins : (start : SourceDoing) → HasDone start [] [] [] start
  pub says : (start : SourceDoing) (given : List Answer) (requests : List Request) (text : List ℕ)
      (rest : SourceDoing)
      → HasDone start given requests text rest →
      HasDone start given requests (text ++ next_text rest) (past_text rest)
  pub makes : (start : SourceDoing) (given : List Answer) (requests : List Request) (text : List ℕ) (r : Request)
      (rest : SourceDoing)
      → HasDone start given requests text (Makes r rest) → HasDone start given (requests ++ r ∷ []) text rest
  pub asks : (start : SourceDoing) (given : List Answer) (requests : List Request) (text : List ℕ) (r : Request)
      (fits : Answer → Bool)
      (go : Answer → SourceDoing) (answer : Answer) → fits answer ≡ true
      → HasDone start given requests text (Asks r fits go) → HasDone start (given ++ answer ∷ [])
      (requests ++ r ∷ []) text (go answer)
  -- what is next, and that there is nothing more
  pub next_made : (start : SourceDoing) (given : List Answer) (requests : List Request) (text : List ℕ)
      (r : Request) (rest : SourceDoing)
      → HasDone start given requests text (Makes r rest) → slice_get (run_of start given).events
      (length requests) ≡ Some r
  pub next_asked : (start : SourceDoing) (given : List Answer) (requests : List Request) (text : List ℕ)
      (r : Request) (fits : Answer → Bool)
      (go : Answer → SourceDoing) → HasDone start given requests text (Asks r fits go)
      → run_of start given ≡ record { events = requests ++ r ∷ []; text = text; end = Short }
  pub over : (start : SourceDoing) (given : List Answer) (requests : List Request) (text : List ℕ) (halt : Halt)
      → HasDone start given requests text (Stops halt)
      → run_of start given ≡ record { events = requests; text = text; end = Ends halt }
  -- an answer that does not fit is none, whatever comes behind it
  pub refused : (start : SourceDoing) (given more : List Answer) (requests : List Request) (text : List ℕ)
      (r : Request) (fits : Answer → Bool)
      (go : Answer → SourceDoing) (answer : Answer) → fits answer ≡ false
      → HasDone start given requests text (Asks r fits go)
      → run_of start (given ++ answer ∷ more) ≡ record { events = requests ++ r ∷ []; text = text; end = Short }
