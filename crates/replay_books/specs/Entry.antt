-- A request that a node has made, and of each of its parts whether it has occurred: the parts of the split accesses,
-- stores and bulk transfers of "Introduction to Split-C" (Culler and others, 1995).
use Rattle.std.specs.Prelude.{ℕ, ◌+◌, ◌-◌, List, slice_get, slice_set, replicate, Option, Some, None, is_none, Bool, true, false, ◌&&◌, if◌then◌else◌}
use Rattle.std.specs.Option.{option_and_then}
use Rattle.sc_base.specs.declared.value.Place.{Place}
use Rattle.sc_base.specs.declared.value.Value.{Value}
use Rattle.effect_order.specs.Effect.{same_value}
use Rattle.effect_order.specs.Transfer.{part_place}
use Rattle.sc_meaning.specs.declared.request.Request.{Request}
use Rattle.sc_meaning.specs.declared.request.Request.TheVariants.{Get, Put, Store, Copy}
use Rattle.sc_meaning.specs.Parts.{transfer_of, is_issued}
use Rattle.sc_meaning.specs.Test.{holds_place, holds_value}

-- how many parts of an issued request read, or write
abbrev pub parts_of : Request → (wrote : Bool) → ℕ
parts_of (Get place line) wrote = if wrote then 0 else 1
parts_of (Put place value line) wrote = if wrote then 1 else 0
parts_of (Store place value line) wrote = if wrote then 1 else 0
parts_of (Copy from to cells mode line) wrote = cells
parts_of _ wrote = 0

-- What is kept of a request.
pub record EntryBook : Type 0 where
  pub request : Request
  pub reads : List (Option Value)  -- the values of its reading parts by cell, of those that have occurred
  pub writes : List (Option Value)  -- and of its writing parts
  pub left : ℕ  -- how many parts have not occurred

-- no part has occurred
abbrev pub fresh_entry : Request → EntryBook
fresh_entry request = record {
  request = request;
  reads = replicate (parts_of request false) None;
  writes = replicate (parts_of request true) None;
  left = parts_of request false + parts_of request true;
}

abbrev pub side_of : EntryBook → (wrote : Bool) → List (Option Value)
side_of e wrote = if wrote then e.writes else e.reads

-- the value of the part, if it has occurred
abbrev pub part_of : EntryBook → (cell : ℕ) → (wrote : Bool) → Option Value
part_of e cell wrote = option_and_then (λ part. part) (slice_get (side_of e wrote) cell)

-- what a writing part writes, if that is known
abbrev pub given_or : Option Value → Option Value → Option Value
given_or (Some value) read = Some value
given_or None read = read

abbrev pub written_in : EntryBook → (cell : ℕ) → Option Value
written_in e cell = given_or (transfer_of e.request).value (part_of e cell false)

-- the part may occur at the place with the value, where the place holds what is shown
abbrev pub may_occur_in : EntryBook → (cell : ℕ) → (wrote : Bool) → Place → (value shown : Value) → Bool
may_occur_in e cell wrote place value shown =
    is_issued e.request && (holds_place place (part_place (transfer_of e.request) cell wrote)
    && (is_none (part_of e cell wrote)
    && (if wrote then holds_value value (written_in e cell) else same_value value shown)))

-- the part has occurred with the value
abbrev pub occurred : EntryBook → (cell : ℕ) → (wrote : Bool) → Value → EntryBook
occurred e cell wrote value = record e {
  reads = if wrote then e.reads else slice_set e.reads cell (Some value);
  writes = if wrote then slice_set e.writes cell (Some value) else e.writes;
  left = e.left - 1;
}
