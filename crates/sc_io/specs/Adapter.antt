-- What the sources and sinks over std's readers and writers count, and what a writer holds.
use Rattle.std.specs.Prelude.{◌≡◌, ℕ, List, take, Option}
use Rattle.std.specs.Io.KnownBytes.{Keeps, Appends}
use Rattle.sc_io.specs.Memory.{one_more}
use Rattle.sc_io.specs.declared.stream.Take.{Take}
use Rattle.sc_io.specs.declared.stream.Take.TheVariants.{Got, End, Failed as TakeFailed}
use Rattle.sc_io.specs.declared.stream.Put.{Put}
use Rattle.sc_io.specs.declared.stream.Put.TheVariants.{Done, Failed as PutFailed}

-- the count rises at a failure, and stays otherwise
abbrev pub TakeCount : ℕ → ℕ → Take → Type 0
TakeCount before now (Got n) = now ≡ before
TakeCount before now End = now ≡ before
TakeCount before now TakeFailed = now ≡ one_more before

abbrev pub PutCount : ℕ → ℕ → Put → Type 0
PutCount before now (Done n) = now ≡ before
PutCount before now PutFailed = now ≡ one_more before

-- what the writer is known to hold grows by the bytes that were taken
abbrev pub Writes : Option (List ℕ) → Option (List ℕ) → Put → List ℕ → Type 0
Writes old new (Done n) bytes = Appends old new (take n bytes)
Writes old new PutFailed bytes = Keeps old new
