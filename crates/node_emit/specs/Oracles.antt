-- What code and a source do under an oracle, as in Leroy, "Formal verification of a realistic compiler" (2009). It
-- holds the value of each access of the node that reads, and says which barriers the node passes. Both show the same
-- things: the points that are not empty, the requests without lines, the bytes and the end.
use Rattle.std.specs.Prelude.{ℕ, suc, List, [], ◌∷◌, ◌++◌, map, filter, Bool, false, not, ◌==◌, if◌then◌else◌}
use Rattle.resumption.specs.Resumption.{Asks, Makes, Says, Stops, RunEnd, Ends, Short, RunOf, after_event, after_text}
use Rattle.sc_base.specs.declared.value.End.{End}
use Rattle.sc_base.specs.declared.value.End.TheVariants.{Waiting}
use Rattle.sc_base.specs.declared.value.Value.{Value}
use Rattle.sc_isa.specs.declared.access.Access.{Access}
use Rattle.sc_isa.specs.declared.access.Access.TheVariants.{Read as ReadAccess}
use Rattle.sc_isa.specs.declared.access.Track.{Track}
use Rattle.sc_isa.specs.declared.access.Track.TheVariants.{Counter}
use Rattle.sc_isa.specs.Run.{Issue, Wait, Arrive, Pass, Answer, Landed, Passed, Broken, Halt, Finish}
use Rattle.sc_meaning.specs.declared.request.Request.{Request}
use Rattle.sc_meaning.specs.declared.request.Request.TheVariants.{Read, Get, Sync, Barrier, AllStoreSync}
use Rattle.sc_meaning.specs.Asking as source
use Rattle.sc_meaning.specs.Asking.{PointedDoing, Requested, Finishes}
use Rattle.sc_meaning.specs.History.{barrier_of}
use Rattle.sc_meaning.specs.OfAccess.{request_in, unlined}
use Rattle.node_emit.specs.Pointed.{Asked, Came, PointedAsking}

-- the value of the node's access with this number, from 0, and whether it passes the barrier with this number
pub record Oracle : Type 0 where
  pub value : ℕ → Value
  pub passes : ℕ → Bool

-- what is shown: that the node comes to a point, or that it requests something
pub data Shown : Type 0 where
  at : (point : ℕ) → Shown
  requests : Request → Shown

abbrev pub Story : Type 0
Story = RunOf Shown End

abbrev pub nothing_more : Story
nothing_more = record { events = []; text = []; end = Short }

abbrev pub over : End → Story
over end = record { events = []; text = []; end = Ends end }

-- empty: the points that are left out, as their runs are empty
abbrev pub at_point : (empty : ℕ → Bool) → (point : ℕ) → Story → Story
at_point empty t story = if empty t then story else after_event (at t) story

-- ---- code

-- a read that was not waited for yet
pub record Flying : Type 0 where
  pub number : ℕ
  pub track : Track

-- how many accesses were made and barriers passed, and which reads have not landed
pub record Progress : Type 0 where
  pub accesses : ℕ
  pub barriers : ℕ
  pub flying : List Flying

abbrev pub at_first : Progress
at_first = record { accesses = 0; barriers = 0; flying = [] }

abbrev pub flying_by : ℕ → Access → List Flying
flying_by number (ReadAccess place track) = record { number = number; track = track } ∷ []
flying_by number _ = []

abbrev pub issued : Access → Progress → Progress
issued access p = record p { accesses = suc p.accesses; flying = p.flying ++ flying_by p.accesses access }

abbrev pub is_on : (counter : ℕ) → Track → Bool
is_on counter (Counter c) = c == counter
is_on counter _ = false

abbrev pub waited : ℕ → Progress → Progress
waited counter p = record p { flying = filter (λ f. not (is_on counter f.track)) p.flying }

-- the values that land at a wait
abbrev pub landing : Oracle → ℕ → Progress → Answer
landing oracle counter p = Landed (map (λ f. oracle.value f.number) (filter (λ f. is_on counter f.track) p.flying))

abbrev pub passing : Oracle → Progress → Answer
passing oracle p = if oracle.passes p.barriers then Passed else Broken

-- a wait for explicit accesses is a request
abbrev pub after_wait : ℕ → Story → Story
after_wait counter story = if counter == 0 then after_event (requests (Sync 0)) story else story

-- what code shows
abbrev pub plays : Oracle → (empty : ℕ → Bool) → Progress → PointedAsking → Story
plays oracle empty p (Makes (Came t) rest) = at_point empty t (plays oracle empty p rest)
plays oracle empty p (Makes (Asked (Issue access)) rest) =
    after_event (requests (request_in access)) (plays oracle empty (issued access p) rest)
plays oracle empty p (Makes (Asked (Arrive stores)) rest) =
    after_event (requests (barrier_of stores 0)) (plays oracle empty p rest)
plays oracle empty p (Asks (Asked (Wait counter)) fits go) =
    after_wait counter
    (if fits (landing oracle counter p) then plays oracle empty (waited counter p) (go (landing oracle counter p))
    else nothing_more)
plays oracle empty p (Asks (Asked Pass) fits go) =
    if fits (passing oracle p)
    then plays oracle empty (record p { barriers = suc p.barriers }) (go (passing oracle p)) else nothing_more
plays oracle empty p (Says text rest) = after_text text (plays oracle empty p rest)
plays oracle empty p (Stops (Finish end)) = over end
plays oracle empty p _ = nothing_more

-- ---- a source

-- how many accesses were requested and barriers met, and the gets since the last sync
pub record Told : Type 0 where
  pub accesses : ℕ
  pub barriers : ℕ
  pub gets : List ℕ

abbrev pub told_at_first : Told
told_at_first = record { accesses = 0; barriers = 0; gets = [] }

abbrev pub meeting : Oracle → Told → source.Answer
meeting oracle t = if oracle.passes t.barriers then source.Passed else source.Broken

-- the answer to what is answered; the last line stands for the requests that are not
abbrev pub answer_by : Oracle → Told → Request → source.Answer
answer_by oracle t (Read place line) = source.Shown (oracle.value t.accesses)
answer_by oracle t (Sync line) = source.Landed (map oracle.value t.gets)
answer_by oracle t _ = meeting oracle t

abbrev pub told_after : Told → Request → Told
told_after t (Get place line) = record t { accesses = suc t.accesses; gets = t.gets ++ t.accesses ∷ [] }
told_after t (Sync line) = record t { gets = [] }
told_after t (Barrier line) = record t { barriers = suc t.barriers }
told_after t (AllStoreSync line) = record t { barriers = suc t.barriers }
told_after t _ = record t { accesses = suc t.accesses }

-- what a source shows
abbrev pub tells : Oracle → (empty : ℕ → Bool) → Told → PointedDoing → Story
tells oracle empty t (Makes (source.Came point) rest) = at_point empty point (tells oracle empty t rest)
tells oracle empty t (Makes (Requested request) rest) =
    after_event (requests (unlined request)) (tells oracle empty (told_after t request) rest)
tells oracle empty t (Asks (Requested request) fits go) =
    after_event (requests (unlined request))
    (if fits (answer_by oracle t request) then tells oracle empty (told_after t request)
    (go (answer_by oracle t request)) else nothing_more)
tells oracle empty t (Says text rest) = after_text text (tells oracle empty t rest)
tells oracle empty t (Stops (Finishes end)) = over end
tells oracle empty t _ = nothing_more
