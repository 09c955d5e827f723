-- The books of a run: for each node how many of its cells are outstanding on each counter and where it stands between
-- barriers, and for all nodes together how many one-way cells are in flight.
use Rattle.std.specs.Prelude.{◌≡◌, ℕ, ◌+◌, ◌≤◌, ◌⊎◌, List, Bool, true, false, not, ◌&&◌, ◌||◌, if◌then◌else◌}
use Rattle.std.specs.Prelude.{Option, None, map, length, slice_set, slice_index_or, sum, sum_by, count_by, replicate}
use Rattle.std.specs.Prelude.{IsTrue, IsSome}
use Rattle.std.specs.List.{list_any, list_all, position}
use Rattle.sc_isa.specs.declared.access.Track.{Track}
use Rattle.sc_isa.specs.declared.access.Track.TheVariants.{Counter, Store, Covered}
use Rattle.sync_book.specs.declared.standing.Standing.{Standing}
use Rattle.sync_book.specs.declared.standing.Standing.TheVariants.{Away, Arrived, Released}
use Rattle.sync_book.specs.declared.gap.Gap.{Gap}

-- What is counted of one node.
pub record NodeBook : Type 0 where
  pub counters : List ℕ  -- how many cells of its accesses on each counter, from 0 on, are outstanding
  pub standing : Standing  -- where it stands between barriers
  pub finished : Bool  -- it has finished

-- What is counted of a run.
pub record Book : Type 0 where
  pub nodes : List NodeBook
  pub sites : ℕ  -- counters go from 0 to this number
  pub stores : ℕ  -- how many cells of explicit one-way stores are in flight, of all nodes
  pub covered : ℕ  -- how many cells of one-way stores that the compiler made are in flight, of all nodes

-- a node that has issued nothing, arrived nowhere and not finished
abbrev pub fresh_node : ℕ → NodeBook
fresh_node sites = record { counters = replicate (sites + 1) 0; standing = Away; finished = false }

-- the node has a count for each counter
abbrev pub HasCounters : ℕ → NodeBook → Type 0
HasCounters sites row = length row.counters ≡ sites + 1

-- nothing is outstanding or in flight
abbrev pub empty_book : ℕ → ℕ → Book
empty_book nodes sites = record { nodes = replicate nodes (fresh_node sites); sites = sites; stores = 0; covered = 0 }

-- what is counted of the node
abbrev pub node_at : Book → ℕ → NodeBook
node_at book node = slice_index_or book.nodes node (fresh_node book.sites)

-- the books with this for the node
abbrev pub with_node : Book → ℕ → NodeBook → Book
with_node book node row = record book { nodes = slice_set book.nodes node row }

-- how many of the node's cells are outstanding on the counter
abbrev pub outstanding : Book → ℕ → ℕ → ℕ
outstanding book node counter = slice_index_or (node_at book node).counters counter 0

-- how many cells are outstanding on the track: of the node on a counter, of all nodes on the others
abbrev pub outstanding_on : Book → ℕ → Track → ℕ
outstanding_on book node (Counter counter) = outstanding book node counter
outstanding_on book node Store = book.stores
outstanding_on book node Covered = book.covered

-- the node with this count on the counter
abbrev pub with_counter : NodeBook → ℕ → ℕ → NodeBook
with_counter row counter count = record row { counters = slice_set row.counters counter count }

-- the books with this count there
abbrev pub with_outstanding : Book → ℕ → Track → ℕ → Book
with_outstanding book node (Counter counter) count =
    with_node book node (with_counter (node_at book node) counter count)
with_outstanding book node Store count = record book { stores = count }
with_outstanding book node Covered count = record book { covered = count }

-- all cells that are outstanding
abbrev pub all_outstanding : Book → ℕ
all_outstanding book = sum_by (λ row. sum row.counters) book.nodes + book.stores + book.covered

-- the counter is one of the books'
abbrev pub IsTrackOf : Book → Track → Type 0
IsTrackOf book (Counter counter) = counter ≤ book.sites
IsTrackOf book _ = Unit {0}

-- the node has arrived at the next release
abbrev pub is_arrived : Standing → Bool
is_arrived (Arrived _) = true
is_arrived _ = false

-- the node has arrived at the next release, and there waits for all stores
abbrev pub waits_for_stores : Standing → Bool
waits_for_stores (Arrived stores) = stores
waits_for_stores _ = false

-- how many nodes have not arrived at the next release, and how many cells it waits for: those that the compiler made
-- one-way, and where a node arrived for all stores, the explicit ones too
abbrev pub gap_of : Book → Gap
gap_of book = record {
  missing = count_by (λ row. not (is_arrived row.standing)) book.nodes;
  flying = book.covered + (if list_any (λ row. waits_for_stores row.standing) book.nodes then book.stores else 0);
}

-- each node has arrived, and no cell that the release waits for is in flight
pub record CanRelease (book : Book) : Type 0 where
  pub all_arrived : (gap_of book).missing ≡ 0
  pub none_flying : (gap_of book).flying ≡ 0

-- an arrival at the next release is released
abbrev pub released_node : NodeBook → NodeBook
released_node row = record row { standing = if is_arrived row.standing then Released else row.standing }

-- every arrival at the next release is released
abbrev pub after_release : Book → Book
after_release book = record book { nodes = map released_node book.nodes }

-- the node runs, and stands at the next release
abbrev pub stands : NodeBook → Bool
stands row = is_arrived row.standing && not row.finished

-- the node has arrived at the next release or has finished
abbrev pub is_settled : NodeBook → Bool
is_settled row = is_arrived row.standing || row.finished

-- the least finished node, where some node stands at the next release and every other one has arrived or finished; none
-- where none has finished
abbrev pub broken_by : Book → Option ℕ
broken_by book =
    if list_any stands book.nodes && list_all is_settled book.nodes
    then position (λ row. row.finished) book.nodes
    else None

-- the node stands at no barrier, or at a broken one, and has not finished
pub record MayFinish (book : Book) (node : ℕ) : Type 0 where
  pub running : (node_at book node).finished ≡ false
  pub free :
      ((node_at book node).standing ≡ Away) ⊎ (IsTrue (stands (node_at book node)) × IsSome (broken_by book))
