-- What the tables keep of all nodes.
use Rattle.std.specs.Prelude.{ℕ, ◌+◌, List, [], length, slice_get, slice_set, slice_index_or, replicate}
use Rattle.std.specs.Prelude.{Option, Some, None, is_none, Bool, true, false, not, ◌&&◌, ◌||◌, ◌==◌, nat_le, nat_lt}
use Rattle.std.specs.Option.{option_map_or}
use Rattle.std.specs.List.{list_any, list_all}
use Rattle.sc_base.specs.declared.value.CopyMode.TheVariants.{Blocking, Split, OneWay}
use Rattle.sc_base.specs.declared.value.End.{End}
use Rattle.sc_base.specs.declared.value.End.TheVariants.{Waiting, Cut}
use Rattle.sc_base.specs.declared.value.Place.{Place}
use Rattle.sc_base.specs.declared.value.Value.{Value}
use Rattle.sc_meaning.specs.declared.request.Request.{Request}
use Rattle.replay_books.specs.Row.{RowBook, fresh_row, goes_on, all_over, with_request, with_part, may_occur_at}

-- What is kept of all nodes.
pub record TablesBook : Type 0 where
  pub rows : List RowBook
  pub releases : ℕ  -- how many there were
  pub stores : Bool  -- a node that stands at a barrier waits for stores there

abbrev pub fresh_tables : (nodes : ℕ) → TablesBook
fresh_tables nodes = record { rows = replicate nodes fresh_row; releases = 0; stores = false }

abbrev pub row_at : TablesBook → ℕ → RowBook
row_at t node = slice_index_or t.rows node fresh_row

abbrev pub with_row : TablesBook → ℕ → RowBook → TablesBook
with_row t node row = record t { rows = slice_set t.rows node row }

abbrev pub goes_on_at : TablesBook → ℕ → Bool
goes_on_at t node = option_map_or (goes_on t.releases) (slice_get t.rows node) false

abbrev pub made_at : TablesBook → ℕ → ℕ
made_at t node = length (row_at t node).entries

abbrev pub split_over : TablesBook → ℕ → Bool
split_over t node = all_over Split (row_at t node)

abbrev pub may_occur_in_tables :
    TablesBook → (node number cell : ℕ) → (wrote : Bool) → Place → (value shown : Value) → Bool
may_occur_in_tables t node number cell wrote place value shown =
    option_map_or (λ row. may_occur_at row number cell wrote place value shown) (slice_get t.rows node) false

-- ---- after an event

abbrev pub with_made : TablesBook → ℕ → Request → TablesBook
with_made t node request = with_row t node (with_request (row_at t node) request)

abbrev pub with_occurred : TablesBook → (node number cell : ℕ) → (wrote : Bool) → Value → TablesBook
with_occurred t node number cell wrote value = with_row t node (with_part (row_at t node) number cell wrote value)

abbrev pub landed : RowBook → RowBook
landed row = record row { gets = [] }

abbrev pub with_sync : TablesBook → ℕ → Request → TablesBook
with_sync t node request = with_row t node (landed (with_request (row_at t node) request))

abbrev pub arrived : RowBook → RowBook
arrived row = record row { arrived = row.arrived + 1 }

abbrev pub with_arrival : TablesBook → ℕ → Request → (stores : Bool) → TablesBook
with_arrival t node request stores =
    record (with_row t node (arrived (with_request (row_at t node) request))) { stores = t.stores || stores }

abbrev pub with_release : TablesBook → TablesBook
with_release t = record t { releases = t.releases + 1; stores = false }

abbrev pub ended_so : End → RowBook → RowBook
ended_so end row = record row { ended = Some end }

abbrev pub with_end : TablesBook → ℕ → End → TablesBook
with_end t node end = with_row t node (ended_so end (row_at t node))

-- ---- releases

-- the node has arrived, has not ended, and its parts have occurred that a release with stores waits for
abbrev pub is_ready : (number : ℕ) → (stores : Bool) → RowBook → Bool
is_ready number stores row = nat_le number row.arrived && (is_none row.ended && (not stores || all_over OneWay row))

abbrev pub may_release_in : TablesBook → ℕ → Bool
may_release_in t number = (number == t.releases + 1) && list_all (is_ready number t.stores) t.rows

-- the node stands at a barrier that was not released
abbrev pub stands_in : (releases : ℕ) → RowBook → Bool
stands_in releases row = is_none row.ended && (row.arrived == releases + 1)

abbrev pub stands_at : TablesBook → ℕ → Bool
stands_at t node = option_map_or (stands_in t.releases) (slice_get t.rows node) false

-- ---- completeness

-- the node has ended otherwise than as waiting, and has not arrived at the next barrier
abbrev pub gone_before : (releases arrived : ℕ) → Option End → Bool
gone_before releases arrived None = false
gone_before releases arrived (Some Waiting) = false
gone_before releases arrived (Some end) = nat_le arrived releases

abbrev pub left_behind : (releases : ℕ) → RowBook → Bool
left_behind releases row = gone_before releases row.arrived row.ended

-- the node has ended, as waiting only at the next barrier where one has gone before it
abbrev pub ended_as : (releases : ℕ) → (forsaken : Bool) → (arrived : ℕ) → Option End → Bool
ended_as releases forsaken arrived None = false
ended_as releases forsaken arrived (Some Waiting) = forsaken && nat_lt releases arrived
ended_as releases forsaken arrived (Some end) = true

abbrev pub ended_well : (releases : ℕ) → (forsaken : Bool) → RowBook → Bool
ended_well releases forsaken row = ended_as releases forsaken row.arrived row.ended

-- and all parts of its transfers have occurred
abbrev pub is_finished : (releases : ℕ) → (forsaken : Bool) → RowBook → Bool
is_finished releases forsaken row =
    all_over Blocking row && (all_over Split row && (all_over OneWay row && ended_well releases forsaken row))

abbrev pub is_complete_in : TablesBook → Bool
is_complete_in t = list_all (is_finished t.releases (list_any (left_behind t.releases) t.rows)) t.rows

abbrev pub end_or_cut : Option End → End
end_or_cut None = Cut
end_or_cut (Some end) = end
