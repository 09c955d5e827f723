-- The own steps of the nodes of a run: what each entry of a journal is for the source, and its number among the node's
-- requests. Explicit and blocking accesses are those of "Introduction to Split-C" (Culler and others, 1995). A past is
-- a list of entries, the newest first.
use Rattle.std.specs.Prelude.{ℕ, ◌+◌, List, [], ◌∷◌, ◌++◌, Option, Some, None, Bool, false, ◌==◌, ◌&&◌, nat_lt, if◌then◌else◌}
use Rattle.sc_meaning.specs.declared.request.Request.{Request}
use Rattle.sc_meaning.specs.declared.request.Request.TheVariants.{Sync}
use Rattle.sc_meaning.specs.History.{barrier_of}
use Rattle.sc_meaning.specs.OfAccess.{request_in}
use Rattle.sc_isa.specs.declared.access.Access.TheVariants.{Read, Write, Copy}
use Rattle.sc_isa.specs.declared.access.Track.{Track}
use Rattle.sc_isa.specs.declared.journal.Entry.{Entry}
use Rattle.sc_isa.specs.declared.journal.Entry.TheVariants.{Issued, Waited, Arrived, Finished}

-- what the entry requests of the source on this node: issues, waits for explicit accesses, and arrivals do
abbrev pub request_by : ℕ → Entry → Option Request
request_by node (Issued other number access) = if other == node then Some (request_in access) else None
request_by node (Waited other counter) = if (other == node) && (counter == 0) then Some (Sync 0) else None
request_by node (Arrived other stores) = if other == node then Some (barrier_of stores 0) else None
request_by node _ = None

abbrev pub and_request : List Request → Option Request → List Request
and_request requests None = requests
and_request requests (Some request) = requests ++ request ∷ []

-- the requests of the node, in order
abbrev pub own_requests : ℕ → List Entry → List Request
own_requests node [] = []
own_requests node (entry ∷ past) = and_request (own_requests node past) (request_by node entry)

abbrev pub count_one : Option Request → ℕ → ℕ
count_one None n = n
count_one (Some request) n = n + 1

-- how many they are
abbrev pub requested : ℕ → List Entry → ℕ
requested node [] = 0
requested node (entry ∷ past) = count_one (request_by node entry) (requested node past)

-- the number among the node's requests of its issue with this number
abbrev pub request_of : (node number : ℕ) → List Entry → ℕ
request_of node number [] = 0
request_of node number (Issued other n access ∷ past) =
    if (other == node) && (n == number) then requested node past else request_of node number past
request_of node number (_ ∷ past) = request_of node number past

-- the track of the node's access with this number among its requests
abbrev pub track_at : (node request : ℕ) → List Entry → Option Track
track_at node request [] = None
track_at node request (Issued other n (Read place track) ∷ past) =
    if (other == node) && (requested node past == request) then Some track else track_at node request past
track_at node request (Issued other n (Write place value track) ∷ past) =
    if (other == node) && (requested node past == request) then Some track else track_at node request past
track_at node request (Issued other n (Copy from to cells track) ∷ past) =
    if (other == node) && (requested node past == request) then Some track else track_at node request past
track_at node request (_ ∷ past) = track_at node request past

-- how many of the node's first requests, so many of them, are arrivals at barriers
abbrev pub arrivals_among : (node first : ℕ) → List Entry → ℕ
arrivals_among node first [] = 0
arrivals_among node first (Arrived other stores ∷ past) =
    if (other == node) && nat_lt (requested node past) first then arrivals_among node first past + 1
    else arrivals_among node first past
arrivals_among node first (_ ∷ past) = arrivals_among node first past

-- the node finishes
abbrev pub finishes : ℕ → Entry → Bool
finishes node (Finished other end) = other == node
finishes node _ = false
