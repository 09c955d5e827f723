-- Which request an access of code is: explicit and blocking accesses are those of "Introduction to Split-C" (Culler and
-- others, 1995). Code and journals have no lines, so the request has line 0.
use Rattle.std.specs.Prelude.{Bool, true, false, not, ◌==◌, if◌then◌else◌}
use Rattle.sc_base.specs.declared.value.CopyMode.{CopyMode}
use Rattle.sc_base.specs.declared.value.CopyMode.TheVariants.{Blocking, Split, OneWay}
use Rattle.sc_isa.specs.declared.access.Access.{Access}
use Rattle.sc_isa.specs.declared.access.Access.TheVariants.{Read, Write, Copy}
use Rattle.sc_isa.specs.declared.access.Track.{Track}
use Rattle.sc_isa.specs.declared.access.Track.TheVariants.{Counter, Store, Covered}
use Rattle.sc_meaning.specs.declared.request.Request.{Request}
use Rattle.sc_meaning.specs.declared.request.Request.TheVariants.{Read as ReadRequest, Write as WriteRequest, Get, Put, Store as StoreRequest, Copy as CopyRequest, Sync, Barrier, AllStoreSync}

-- an access on counter 0 or as a store is explicit, every other blocks
abbrev pub is_blocking : Track → Bool
is_blocking (Counter c) = not (c == 0)
is_blocking Store = false
is_blocking Covered = true

abbrev pub is_split : Track → Bool
is_split (Counter c) = c == 0
is_split _ = false

-- a blocking read or write, which is one event of the source
abbrev pub is_done_at_once : Access → Bool
is_done_at_once (Read place track) = is_blocking track
is_done_at_once (Write place value track) = is_blocking track
is_done_at_once (Copy from to cells track) = false

abbrev pub mode_of : Track → CopyMode
mode_of (Counter c) = if c == 0 then Split else Blocking
mode_of Store = OneWay
mode_of Covered = Blocking

abbrev pub written_as : Track → Request → Request → Request → Request
written_as (Counter c) blocking split one_way = if c == 0 then split else blocking
written_as Store blocking split one_way = one_way
written_as Covered blocking split one_way = blocking

-- the request that an access is, with line 0: a journal has no lines
abbrev pub request_in : Access → Request
request_in (Read place track) = if is_blocking track then ReadRequest place 0 else Get place 0
request_in (Write place value track) =
    written_as track (WriteRequest place value 0) (Put place value 0) (StoreRequest place value 0)
request_in (Copy from to cells track) = CopyRequest from to cells (mode_of track) 0

-- the request with line 0
abbrev pub unlined : Request → Request
unlined (ReadRequest place line) = ReadRequest place 0
unlined (WriteRequest place value line) = WriteRequest place value 0
unlined (Get place line) = Get place 0
unlined (Put place value line) = Put place value 0
unlined (StoreRequest place value line) = StoreRequest place value 0
unlined (CopyRequest from to cells mode line) = CopyRequest from to cells mode 0
unlined (Sync line) = Sync 0
unlined (Barrier line) = Barrier 0
unlined (AllStoreSync line) = AllStoreSync 0
