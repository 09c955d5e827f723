-- Which requests are answered, and processes that ask by these alone: reads that block, syncs and barriers are
-- answered, and every other request of "Introduction to Split-C" (Culler and others, 1995) goes on at once.
use Rattle.std.specs.Prelude.{◌≡◌, ℕ, ◌<◌, Bool, true, false}
use Rattle.resumption.specs.Resumption.{Asks, Makes, Says, Stops}
use Rattle.sc_meaning.specs.declared.request.Request.{Request}
use Rattle.sc_meaning.specs.declared.request.Request.TheVariants.{Read, Sync, Barrier, AllStoreSync}
use Rattle.sc_meaning.specs.Asking.{SourceDoing}
use Rattle.sc_meaning.specs.Past.{Processes}

abbrev pub is_answered : Request → Bool
is_answered (Read place line) = true
is_answered (Sync line) = true
is_answered (Barrier line) = true
is_answered (AllStoreSync line) = true
is_answered _ = false

-- the process waits for an answer exactly after the requests that are answered
unfoldable pub WaitsForAnswers : SourceDoing → Type 0
WaitsForAnswers (Asks request fits go) = (is_answered request ≡ true)
    × ((answer : _) → WaitsForAnswers (go answer))
WaitsForAnswers (Makes request rest) = (is_answered request ≡ false) × WaitsForAnswers rest
WaitsForAnswers (Says text rest) = WaitsForAnswers rest
WaitsForAnswers (Stops halt) = Unit {0}

abbrev pub AllWaitForAnswers : Processes → Type 0
AllWaitForAnswers processes = (node : ℕ) → node < processes.nodes → WaitsForAnswers (processes.starts node)
