-- How often each node of a run has arrived at barriers and passed them, and how it finished. A past is a list of
-- entries, the newest first. Barriers are those of "Introduction to Split-C" (Culler and others, 1995).
use Rattle.std.specs.Prelude.{ℕ, ◌+◌, List, [], ◌∷◌, max, Option, Some, None, Bool, false, ◌==◌, ◌&&◌, ◌||◌, if◌then◌else◌}
use Rattle.sc_base.specs.declared.value.End.{End}
use Rattle.sc_isa.specs.declared.journal.Entry.{Entry}
use Rattle.sc_isa.specs.declared.journal.Entry.TheVariants.{Arrived, Passed, Finished}

-- how often the node has arrived at a barrier
abbrev pub arrivals : ℕ → List Entry → ℕ
arrivals node [] = 0
arrivals node (Arrived other stores ∷ past) = if other == node then arrivals node past + 1 else arrivals node past
arrivals node (_ ∷ past) = arrivals node past

-- how often it has passed one
abbrev pub passes : ℕ → List Entry → ℕ
passes node [] = 0
passes node (Passed other ∷ past) = if other == node then passes node past + 1 else passes node past
passes node (_ ∷ past) = passes node past

-- how many barriers some node has passed
abbrev pub released : List Entry → ℕ
released [] = 0
released (Passed node ∷ past) = max (released past) (passes node past + 1)
released (_ ∷ past) = released past

-- some node's m-th arrival waits for stores
abbrev pub stores_at : ℕ → List Entry → Bool
stores_at m [] = false
stores_at m (Arrived node stores ∷ past) = (stores && (arrivals node past + 1 == m)) || stores_at m past
stores_at m (_ ∷ past) = stores_at m past

-- how the node finished
abbrev pub finished : ℕ → List Entry → Option End
finished node [] = None
finished node (Finished other end ∷ past) = if other == node then Some end else finished node past
finished node (_ ∷ past) = finished node past
