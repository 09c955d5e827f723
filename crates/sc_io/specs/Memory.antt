-- What the calls of a source and of a sink in memory answer, and what they leave: calls fail by their numbers, and
-- the others move as many bytes as the call, the piece and what there is allow. This is the program's own rule.
use Rattle.std.specs.Prelude.{ℕ, ◌+◌, ◌-◌, ◌^◌, ◌==◌, min, Bool, ◌||◌, if◌then◌else◌, List, ◌++◌, length, take, drop}
use Rattle.std.specs.List.{list_any}
use Rattle.sc_io.specs.MemoryState.{SourceState, SinkState}
use Rattle.sc_io.specs.declared.stream.Take.{Take}
use Rattle.sc_io.specs.declared.stream.Take.TheVariants.{Got, End, Failed as TakeFailed}
use Rattle.sc_io.specs.declared.stream.Put.{Put}
use Rattle.sc_io.specs.declared.stream.Put.TheVariants.{Done, Failed as PutFailed}

-- one more, up to the last number of 64 bits
abbrev pub one_more : ℕ → ℕ
one_more n = min (n + 1) (2 ^ 64 - 1)

abbrev pub is_among : ℕ → List ℕ → Bool
is_among call failing = list_any (λ k. k == call) failing

-- what a source answers to a call with so much room
abbrev pub take_answer : SourceState → ℕ → Take
take_answer s room =
    if is_among s.call s.failing then TakeFailed else
    if length s.left == 0 then End else Got (min (min room s.piece) (length s.left))

abbrev pub after_take : SourceState → Take → SourceState
after_take s (Got n) = record s { left = drop n s.left; call = one_more s.call }
after_take s End = record s { call = one_more s.call }
after_take s TakeFailed = record s { call = one_more s.call; faults = one_more s.faults }

-- what a sink answers to a call with so many bytes
abbrev pub put_answer : SinkState → ℕ → Put
put_answer s count =
    if (s.room - length s.held == 0) || is_among s.call s.failing then PutFailed else
    Done (min (min count s.piece) (s.room - length s.held))

abbrev pub after_put : SinkState → Put → List ℕ → SinkState
after_put s (Done n) bytes = record s { held = s.held ++ take n bytes; call = one_more s.call }
after_put s PutFailed bytes = record s { call = one_more s.call; faults = one_more s.faults }
