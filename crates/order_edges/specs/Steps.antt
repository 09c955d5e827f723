-- The requests of a node in a journal, as far as the order asks for them. A past is a list of entries, the newest
-- first.
use Rattle.std.specs.Prelude.{ℕ, ◌+◌, List, [], ◌∷◌, ◌++◌, Option, Some, None, Bool, false, ◌==◌, ◌&&◌, if◌then◌else◌}
use Rattle.sc_isa.specs.declared.access.Access.TheVariants.{Read, Write, Copy}
use Rattle.sc_isa.specs.declared.access.Track.{Track}
use Rattle.sc_isa.specs.declared.journal.Entry.{Entry}
use Rattle.sc_isa.specs.declared.journal.Entry.TheVariants.{Issued, Delivered, Waited, Arrived, Passed, Finished}
use Rattle.fabric.specs.Barriers.{arrivals}
use Rattle.order_edges.specs.declared.steps.Step.{Step}

abbrev pub track_in : Entry → Option Track
track_in (Issued node number (Read place track)) = Some track
track_in (Issued node number (Write place value track)) = Some track
track_in (Issued node number (Copy from to cells track)) = Some track
track_in _ = None

abbrev pub is_request : ℕ → Entry → Bool
is_request node (Issued other number access) = other == node
is_request node (Waited other counter) = (other == node) && (counter == 0)
is_request node (Arrived other stores) = other == node
is_request node _ = false

abbrev pub is_arrival : ℕ → Entry → Bool
is_arrival node (Arrived other stores) = other == node
is_arrival node _ = false

abbrev pub a_step : Option Track → ℕ → Step
a_step track arrivals = record { track = track; arrivals = arrivals }

-- the request that the entry is, after so many arrivals of the node
abbrev pub step_if : (node arrivals : ℕ) → Entry → List Step
step_if node arrivals entry = if is_request node entry then a_step (track_in entry) arrivals ∷ [] else []

abbrev pub arrivals_with : (node arrivals : ℕ) → Entry → ℕ
arrivals_with node arrivals entry = if is_arrival node entry then arrivals + 1 else arrivals

-- the requests of the node
abbrev pub steps_before : ℕ → List Entry → List Step
steps_before node [] = []
steps_before node (entry ∷ past) = steps_before node past ++ step_if node (arrivals node past) entry

-- and its end as one more
abbrev pub steps_of : ℕ → List Entry → List Step
steps_of node past = steps_before node past ++ a_step None (arrivals node past) ∷ []
