-- A sink that never fails keeps the first of the bytes that were put, and tells what it holds while it kept all.
use Rattle.std.specs.Prelude.{ℕ, ◌+◌, nat_lt, ◌||◌, if◌then◌else◌, List, ◌++◌, length, take, Option, Some, None}
use Rattle.sc_io.specs.SteadyState.{SteadyState}

abbrev pub told : SteadyState → Option (List ℕ)
told s = if s.over then None else Some s.kept

-- all bytes were put after what was kept
abbrev pub after_all : SteadyState → List ℕ → SteadyState
after_all s bytes =
    record s { kept = take s.room (s.kept ++ bytes); over = s.over || nat_lt s.room (length s.kept + length bytes) }
