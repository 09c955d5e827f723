-- What the examples compute by: a run by picks, and whether a list of events is a whole history.
use Rattle.std.proofs.Common.{ℕ, zero, suc, List, [], ◌∷◌, Option, Some, None, Bool, true, false}
use Rattle.std.specs.Prelude.{◌%◌, ◌&&◌, ◌==◌, slice_get, length, reverse, pos, is_some, nat_lt}
use Rattle.sc_base.specs.declared.value.Value.{Value}
use Rattle.sc_base.specs.declared.value.Value.TheVariants.{Int}
use Rattle.sc_base.specs.declared.value.Place.{Place}
use Rattle.sc_meaning.specs.declared.event.SourceEvent.{SourceEvent}
use Rattle.sc_meaning.specs.Below.{all_below}
use Rattle.sc_meaning.specs.Asking.{Answer, Shown, Landed, Passed, Broken}
use Rattle.sc_meaning.specs.Parts.{is_issued}
use Rattle.sc_meaning.specs.Past.{Processes, ended}
use Rattle.sc_meaning.specs.Test.{allowed, all_done}
use Rattle.sc_isa.specs.declared.journal.Entry.{Entry}
use Rattle.fabric.specs.Asked.{Machine}
use Rattle.run_moves.specs.Moves.{moves}

abbrev pub and_so_on : Option Entry → List Entry → (List Entry → List Entry) → List Entry
and_so_on None past go = past
and_so_on (Some entry) past go = go (entry ∷ past)

-- at most so many moves by the picks, in which 0 stands past the end; the newest first
abbrev pub nth_or_zero : List ℕ → ℕ → ℕ
nth_or_zero [] k = 0
nth_or_zero (p ∷ ps) zero = p
nth_or_zero (p ∷ ps) (suc k) = nth_or_zero ps k

abbrev pub simulated : ℕ → Machine → List ℕ → List Entry → List Entry
simulated zero machine picks past = past
simulated (suc n) machine picks past =
    let all = moves machine past in
    and_so_on (slice_get all (nth_or_zero picks (length past) % length all)) past (simulated n machine picks)

-- each event is allowed after those before it
abbrev pub all_allowed : Processes → List SourceEvent → Bool
all_allowed processes [] = true
all_allowed processes (event ∷ past) = allowed processes past event && all_allowed processes past

-- each node has ended, with all its parts done
abbrev pub all_over : Processes → List SourceEvent → Bool
all_over processes past =
    all_below processes.nodes (λ node. is_some (ended node past) && all_done processes is_issued node past)

abbrev pub is_whole : Processes → List SourceEvent → Bool
is_whole processes history = all_allowed processes (reverse history) && all_over processes (reverse history)

-- ---- answers of numbers

abbrev pub number : ℕ → Value
number n = Int (pos n)

abbrev pub cell : (object node offset : ℕ) → Place
cell object node offset = record { object = object; node = node; offset = offset }

abbrev pub is_number : Value → Bool
is_number (Int (pos n)) = nat_lt n 100
is_number _ = false

abbrev pub text_of : Value → List ℕ
text_of (Int (pos n)) = n ∷ []
text_of _ = []

abbrev pub shows_number : Answer → Bool
shows_number (Shown value) = is_number value
shows_number _ = false

abbrev pub text_in : Answer → List ℕ
text_in (Shown value) = text_of value
text_in _ = []

abbrev pub lands : ℕ → Answer → Bool
lands n (Landed values) = length values == n
lands n _ = false

abbrev pub meets : Answer → Bool
meets Passed = true
meets Broken = true
meets _ = false

abbrev pub has : ℕ → List Value → Bool
has n values = length values == n

abbrev pub text_first : List Value → List ℕ
text_first [] = []
text_first (value ∷ _) = text_of value
