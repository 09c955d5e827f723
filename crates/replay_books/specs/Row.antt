-- What the tables keep of one node: its requests, how often it arrived at a barrier, how it ended, and which transfers
-- it waits for, as the split accesses and stores of "Introduction to Split-C" (Culler and others, 1995) are waited
-- for.
use Rattle.std.specs.Prelude.{ℕ, ◌+◌, ◌-◌, List, [], ◌∷◌, ◌++◌, length, map, slice_get, slice_set, pos}
use Rattle.std.specs.Prelude.{Option, None, is_none, Bool, false, not, ◌&&◌, ◌==◌, nat_le, if◌then◌else◌}
use Rattle.std.specs.Option.{option_map_or, unwrap_or}
use Rattle.sc_base.specs.declared.value.CopyMode.{CopyMode}
use Rattle.sc_base.specs.declared.value.CopyMode.TheVariants.{Blocking, Split, OneWay}
use Rattle.sc_base.specs.declared.value.End.{End}
use Rattle.sc_base.specs.declared.value.Place.{Place}
use Rattle.sc_base.specs.declared.value.Value.{Value}
use Rattle.sc_base.specs.declared.value.Value.TheVariants.{Int}
use Rattle.sc_meaning.specs.declared.request.Request.{Request}
use Rattle.sc_meaning.specs.Parts.{is_get, is_blocking_copy, is_split, is_one_way}
pub use Rattle.replay_books.specs.Counts.{one_if}
use Rattle.replay_books.specs.Entry.{EntryBook, fresh_entry, part_of, occurred, may_occur_in}

-- What is kept of a node.
pub record RowBook : Type 0 where
  pub entries : List EntryBook  -- its requests by number
  pub arrived : ℕ  -- at how many barriers it has arrived
  pub ended : Option End  -- how it ended
  pub gets : List ℕ  -- the numbers of its gets since its last sync, in order
  pub blocking : ℕ  -- how many of its transfers of each mode have parts that have not occurred
  pub split : ℕ
  pub one_way : ℕ

-- a node before its first step
abbrev pub fresh_row : RowBook
fresh_row = record { entries = []; arrived = 0; ended = None; gets = []; blocking = 0; split = 0; one_way = 0 }

-- the node can do its next own event, where there were so many releases
abbrev pub goes_on : (releases : ℕ) → RowBook → Bool
goes_on releases row = is_none row.ended && ((row.blocking == 0) && nat_le row.arrived releases)

-- how many transfers of this mode have parts that have not occurred
abbrev pub open_of : CopyMode → RowBook → ℕ
open_of Blocking row = row.blocking
open_of Split row = row.split
open_of OneWay row = row.one_way

abbrev pub all_over : CopyMode → RowBook → Bool
all_over mode row = open_of mode row == 0

-- the requests of each mode
abbrev pub is_of : CopyMode → Request → Bool
is_of Blocking request = is_blocking_copy request
is_of Split request = is_split request
is_of OneWay request = is_one_way request

-- a request of this mode that has parts which have not occurred
abbrev pub is_open : CopyMode → EntryBook → Bool
is_open mode e = is_of mode e.request && not (e.left == 0)

abbrev pub gets_with : RowBook → Request → List ℕ
gets_with row request = if is_get request then row.gets ++ length row.entries ∷ [] else row.gets

-- the node makes the request, which is its next
abbrev pub with_request : RowBook → Request → RowBook
with_request row request = record row {
  entries = row.entries ++ fresh_entry request ∷ [];
  gets = gets_with row request;
  blocking = row.blocking + one_if (is_open Blocking (fresh_entry request));
  split = row.split + one_if (is_open Split (fresh_entry request));
  one_way = row.one_way + one_if (is_open OneWay (fresh_entry request));
}

-- the part of the request with this number may occur
abbrev pub may_occur_at : RowBook → (number cell : ℕ) → (wrote : Bool) → Place →
    (value shown : Value) → Bool
may_occur_at row number cell wrote place value shown =
    option_map_or (λ e. may_occur_in e cell wrote place value shown) (slice_get row.entries number) false

-- the last part of a request of this mode has occurred
abbrev pub closes : CopyMode → EntryBook → Bool
closes mode e = is_of mode e.request && (e.left == 0)

-- the entry stands at the number from now on, and is counted no longer if no part is left
abbrev pub with_entry : RowBook → (number : ℕ) → EntryBook → RowBook
with_entry row number e = record row {
  entries = slice_set row.entries number e;
  blocking = row.blocking - one_if (closes Blocking e);
  split = row.split - one_if (closes Split e);
  one_way = row.one_way - one_if (closes OneWay e);
}

-- the part of the request with this number has occurred
abbrev pub with_part : RowBook → (number cell : ℕ) → (wrote : Bool) → Value → RowBook
with_part row number cell wrote value =
    option_map_or (λ e. with_entry row number (occurred e cell wrote value)) (slice_get row.entries number) row

-- the value that the get with this number read, or 0
abbrev pub value_got : RowBook → ℕ → Value
value_got row number =
    option_map_or (λ e. unwrap_or (part_of e 0 false) (Int (pos 0))) (slice_get row.entries number) (Int (pos 0))

abbrev pub landing : RowBook → List Value
landing row = map (value_got row) row.gets
