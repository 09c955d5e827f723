-- What each request moves, and by what it is waited for: the reads, writes, gets, puts, stores and bulk transfers of
-- "Introduction to Split-C" (Culler and others, 1995).
use Rattle.std.specs.Prelude.{Bool, true, false, ◌||◌}
use Rattle.sc_base.specs.declared.value.CopyMode.TheVariants.{Blocking, Split, OneWay}
use Rattle.effect_order.specs.Transfer.{Transfer, taking, filling, moving, no_transfer}
use Rattle.sc_meaning.specs.declared.request.Request.{Request}
use Rattle.sc_meaning.specs.declared.request.Request.TheVariants.{Read, Write, Get, Put, Store, Copy}

-- what a request moves
abbrev pub transfer_of : Request → Transfer
transfer_of (Read place line) = taking place
transfer_of (Write place value line) = filling place value
transfer_of (Get place line) = taking place
transfer_of (Put place value line) = filling place value
transfer_of (Store place value line) = filling place value
transfer_of (Copy from to cells mode line) = moving from to cells
transfer_of _ = no_transfer

-- a blocking copy, which is over before the node's next own event
abbrev pub is_blocking_copy : Request → Bool
is_blocking_copy (Copy from to cells Blocking line) = true
is_blocking_copy _ = false

abbrev pub is_get : Request → Bool
is_get (Get place line) = true
is_get _ = false

-- what the node's next sync waits for
abbrev pub is_split : Request → Bool
is_split (Get place line) = true
is_split (Put place value line) = true
is_split (Copy from to cells Split line) = true
is_split _ = false

-- what a barrier with stores waits for
abbrev pub is_one_way : Request → Bool
is_one_way (Store place value line) = true
is_one_way (Copy from to cells OneWay line) = true
is_one_way _ = false

-- what is issued, and has its effects as events of their own
abbrev pub is_issued : Request → Bool
is_issued request = is_blocking_copy request || is_split request || is_one_way request
