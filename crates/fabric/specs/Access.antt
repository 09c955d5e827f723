-- What an access moves, and what it is waited for by: the reads, writes and bulk transfers of "Introduction to Split-C"
-- (Culler and others, 1995).
use Rattle.std.specs.Prelude.{ℕ, Bool, true, false, ◌==◌}
use Rattle.effect_order.specs.Transfer.{Transfer, taking, filling, moving}
use Rattle.sc_isa.specs.declared.access.Access.{Access}
use Rattle.sc_isa.specs.declared.access.Access.TheVariants.{Read, Write, Copy}
use Rattle.sc_isa.specs.declared.access.Track.{Track}
use Rattle.sc_isa.specs.declared.access.Track.TheVariants.{Counter, Store, Covered}

-- the cells that the access moves
abbrev pub transfer_of : Access → Transfer
transfer_of (Read place track) = taking place
transfer_of (Write place value track) = filling place value
transfer_of (Copy from to cells track) = moving from to cells

abbrev pub track_of : Access → Track
track_of (Read place track) = track
track_of (Write place value track) = track
track_of (Copy from to cells track) = track

-- ---- tests of tracks

abbrev pub is_counter : ℕ → Track → Bool
is_counter counter (Counter c) = c == counter
is_counter counter _ = false

abbrev pub is_store : Track → Bool
is_store Store = true
is_store _ = false

abbrev pub is_covered : Track → Bool
is_covered Covered = true
is_covered _ = false

abbrev pub any_track : Track → Bool
any_track track = true

-- the access reads one cell, and is waited for on the counter
abbrev pub is_read_on : ℕ → Access → Bool
is_read_on counter (Read place track) = is_counter counter track
is_read_on counter _ = false
