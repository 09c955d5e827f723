-- What a list of source events says: the effects, how far each node has come, and the answers that it shows, for the
-- split accesses, stores and barriers of "Introduction to Split-C" (Culler and others, 1995). A past is a list of
-- events, the newest first.
use Rattle.std.specs.Prelude.{ℕ, ◌+◌, List, [], ◌∷◌, ◌++◌, map, filter, Option, Some, None, pos, Bool, true, false, ◌==◌, ◌&&◌, ◌||◌, nat_lt, slice_get, if◌then◌else◌}
use Rattle.std.specs.Option.{option_map_or}
use Rattle.sc_base.specs.declared.value.Value.{Value}
use Rattle.sc_base.specs.declared.value.Value.TheVariants.{Int}
use Rattle.sc_base.specs.declared.value.Place.{Place}
use Rattle.sc_base.specs.declared.value.End.{End}
use Rattle.sc_base.specs.declared.value.End.TheVariants.{Waiting}
use Rattle.effect_order.specs.Effect.{held, Effect as CellEffect}
use Rattle.sc_meaning.specs.declared.request.Request.{Request}
use Rattle.sc_meaning.specs.declared.event.SourceEvent.{SourceEvent}
use Rattle.sc_meaning.specs.declared.event.SourceEvent.TheVariants.{Do, Issue, Effect, Sync, Arrive, Release, End as Over}
use Rattle.resumption.specs.Resumption.{RunOf, run_of}
use Rattle.effect_order.specs.Transfer.{part_value}
use Rattle.sc_meaning.specs.Asking.{Answer, Shown, Landed, Passed, Broken, Halt, SourceDoing}
use Rattle.sc_meaning.specs.Parts.{is_get}

-- how many nodes there are, what each cell holds before any write, and what each node does from its beginning
pub record Processes : Type 0 where
  pub nodes : ℕ
  pub start : Place → Value
  pub starts : ℕ → SourceDoing

-- the effects on cells, the newest first
abbrev pub effects : List SourceEvent → List CellEffect
effects [] = []
effects (Do node request wrote place value ∷ past) =
    record { node = node; number = request; cell = 0; wrote = wrote; place = place; value = value } ∷ effects past
effects (Effect node request cell wrote place value ∷ past) =
    record { node = node; number = request; cell = cell; wrote = wrote; place = place; value = value } ∷ effects past
effects (_ ∷ past) = effects past

-- what the place holds: the value last written to it, or the start value
abbrev pub shown : (Place → Value) → Place → List SourceEvent → Value
shown start place past = held start place (effects past)

-- how many releases there were
abbrev pub releases : List SourceEvent → ℕ
releases [] = 0
releases (Release number ∷ past) = releases past + 1
releases (_ ∷ past) = releases past

-- how often the node has arrived at a barrier
abbrev pub arrivals : ℕ → List SourceEvent → ℕ
arrivals node [] = 0
arrivals node (Arrive other request stores ∷ past) =
    if other == node then arrivals node past + 1 else arrivals node past
arrivals node (_ ∷ past) = arrivals node past

-- some node's m-th arrival waits for stores
abbrev pub stores_at : ℕ → List SourceEvent → Bool
stores_at m [] = false
stores_at m (Arrive node request stores ∷ past) = (stores && (arrivals node past + 1 == m)) || stores_at m past
stores_at m (_ ∷ past) = stores_at m past

-- how many requests the node has made
abbrev pub made : ℕ → List SourceEvent → ℕ
made node [] = 0
made node (Do other request wrote place value ∷ past) = if other == node then made node past + 1 else made node past
made node (Issue other request ∷ past) = if other == node then made node past + 1 else made node past
made node (Sync other request ∷ past) = if other == node then made node past + 1 else made node past
made node (Arrive other request stores ∷ past) = if other == node then made node past + 1 else made node past
made node (_ ∷ past) = made node past

-- how the node ended
abbrev pub ended : ℕ → List SourceEvent → Option End
ended node [] = None
ended node (Over other end ∷ past) = if other == node then Some end else ended node past
ended node (_ ∷ past) = ended node past

-- the numbers of the node's issued requests since its last sync, in order
abbrev pub issued_since : ℕ → List SourceEvent → List ℕ
issued_since node [] = []
issued_since node (Issue other request ∷ past) =
    if other == node then issued_since node past ++ request ∷ [] else issued_since node past
issued_since node (Sync other request ∷ past) = if other == node then [] else issued_since node past
issued_since node (_ ∷ past) = issued_since node past

abbrev pub or_zero : Option Value → Value
or_zero None = Int (pos 0)
or_zero (Some value) = value

-- the values that these gets read
abbrev pub got : ℕ → List CellEffect → List ℕ → List Value
got node earlier numbers = map (λ number. or_zero (part_value node number 0 false earlier)) numbers

-- those of the numbers at which a get was requested
abbrev pub gets_among : List Request → List ℕ → List ℕ
gets_among requests numbers = filter (λ number. option_map_or is_get (slice_get requests number) false) numbers

-- what the event answers to the node, which was given these answers before it. A release answers all that stand at
-- its barrier, and an end as waiting finds its barrier broken.
abbrev pub answer_to : Processes → ℕ → List Answer → List SourceEvent → SourceEvent → Option Answer
answer_to processes node given past (Do other request false place value) =
    if other == node then Some (Shown value) else None
answer_to processes node given past (Sync other request) =
    if other == node
    then Some
    (Landed (got node (effects past)
    (gets_among (run_of (processes.starts node) given).events (issued_since node past))))
    else None
answer_to processes node given past (Release number) = if arrivals node past == number then Some Passed else None
answer_to processes node given past (Over other Waiting) = if other == node then Some Broken else None
answer_to processes node given past _ = None

abbrev pub and_answer : List Answer → Option Answer → List Answer
and_answer given None = given
and_answer given (Some answer) = given ++ answer ∷ []

-- the answers that the events show to the node, in order
abbrev pub answers : Processes → ℕ → List SourceEvent → List Answer
answers processes node [] = []
answers processes node (event ∷ past) =
    and_answer (answers processes node past) (answer_to processes node (answers processes node past) past event)

-- the node's run under the answers that it was shown
abbrev pub run_so_far : Processes → ℕ → List SourceEvent → RunOf Request Halt
run_so_far processes node past = run_of (processes.starts node) (answers processes node past)

-- the request that the node has made with this number
abbrev pub request_at : Processes → ℕ → ℕ → List SourceEvent → Option Request
request_at processes node number past =
    if nat_lt number (made node past) then slice_get (run_so_far processes node past).events number else None
