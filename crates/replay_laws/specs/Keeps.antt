-- What is kept is what a list of events says of the nodes: how far each has come, and which parts of its transfers have
-- occurred, as in Lamport's sequential consistency (1979). A past is a list of events, the newest first.
use Rattle.std.specs.Prelude.{◌≡◌, ℕ, ◌+◌, ◌<◌, ◌≤◌, List, length, map, slice_get, Some, None, is_none}
use Rattle.std.specs.Prelude.{Bool, true, false}
use Rattle.sc_base.specs.declared.value.CopyMode.{CopyMode}
use Rattle.effect_order.specs.Transfer.{part_value}
use Rattle.sc_meaning.specs.declared.request.Request.{Request}
use Rattle.sc_meaning.specs.declared.event.SourceEvent.{SourceEvent}
use Rattle.sc_meaning.specs.Parts.{is_issued}
use Rattle.sc_meaning.specs.Past.{Processes, effects, releases, arrivals, stores_at, made, ended, issued_since}
use Rattle.sc_meaning.specs.Past.{gets_among, request_at}
use Rattle.replay_books.specs.Counts.{how_many, AllBelow}
use Rattle.replay_books.specs.Entry.{EntryBook, parts_of, side_of, part_of}
use Rattle.replay_books.specs.Row.{RowBook, open_of, is_open}
use Rattle.replay_books.specs.Tables.{TablesBook, row_at}

-- the requests that the node has made
abbrev pub requests_of : RowBook → List Request
requests_of row = map (λ e. e.request) row.entries

-- the parts of the node's request with this number are those of the past
pub record KeepsEntry (node number : ℕ) (past : List SourceEvent) (e : EntryBook) : Type 0 where
  pub sides : (wrote : Bool) → length (side_of e wrote) ≡ parts_of e.request wrote
  pub parts : is_issued e.request ≡ true → (cell : ℕ) (wrote : Bool)
      → part_of e cell wrote ≡ part_value node number cell wrote (effects past)
  pub left : e.left ≡ how_many is_none e.reads + how_many is_none e.writes

-- the row is what the past says of the node
pub record KeepsRow (node : ℕ) (past : List SourceEvent) (row : RowBook) : Type 0 where
  pub made : length row.entries ≡ made node past
  pub arrived : row.arrived ≡ arrivals node past
  pub ended : row.ended ≡ ended node past
  pub entries : (number : ℕ) (e : EntryBook) → slice_get row.entries number ≡ Some e →
      KeepsEntry node number past e
  -- no part has occurred of what was not requested
  pub none_beyond : (number cell : ℕ) (wrote : Bool) → length row.entries ≤ number
      → part_value node number cell wrote (effects past) ≡ None
  pub gets : row.gets ≡ gets_among (requests_of row) (issued_since node past)
  pub issued_before : AllBelow (length row.entries) (issued_since node past)
  pub opened : (mode : CopyMode) → open_of mode row ≡ how_many (is_open mode) row.entries

-- so it is for each node, which has arrived at each barrier that was released and at most at one more
pub record Keeps (nodes : ℕ) (past : List SourceEvent) (t : TablesBook) : Type 0 where
  pub all : length t.rows ≡ nodes
  pub rows : (node : ℕ) → node < nodes → KeepsRow node past (row_at t node)
  pub released : t.releases ≡ releases past
  pub stores : t.stores ≡ stores_at (releases past + 1) past
  pub no_later : (m : ℕ) → releases past + 1 < m → stores_at m past ≡ false
  pub reached : (node : ℕ) → node < nodes → releases past ≤ arrivals node past
  pub no_further : (node : ℕ) → node < nodes → arrivals node past ≤ releases past + 1

-- the requests of the node's row are those that it has made in the past
abbrev pub Knows : Processes → (node : ℕ) → List SourceEvent → RowBook → Type 0
Knows processes node past row =
    (number : ℕ) → request_at processes node number past ≡ slice_get (requests_of row) number

pub record KnowsAll (processes : Processes) (past : List SourceEvent) (t : TablesBook) : Type 0 where
  pub keeps : Keeps processes.nodes past t
  pub requests : (node : ℕ) → node < processes.nodes → Knows processes node past (row_at t node)
