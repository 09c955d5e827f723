-- What the calls of a source and of a sink do to the bytes that are left and that are held, and to the counts of
-- faults. A source and a sink are as the `Read` and `Write` of Rust's standard library ("std::io"), whose words on
-- known bytes are taken over; the counts are this program's own.
use Rattle.std.specs.Prelude.{◌≡◌, ℕ, ◌-◌, ◌^◌, ◌<◌, ◌≤◌, List, [], ◌++◌, length, take, ◌⊎◌, Option, Some, None}
use Rattle.std.specs.Io.KnownBytes.{Keeps, Consumes, IsAtEnd}
use Rattle.sc_io.specs.declared.stream.Take.{Take}
use Rattle.sc_io.specs.declared.stream.Take.TheVariants.{Got, End, Failed as TakeFailed}
use Rattle.sc_io.specs.declared.stream.Put.{Put}
use Rattle.sc_io.specs.declared.stream.Put.TheVariants.{Done, Failed as PutFailed}

-- a count of faults rose, or stands still at the last number of 64 bits
abbrev pub Rose : ℕ → ℕ → Type 0
Rose before now = (before < now) ⊎ ((before ≡ now) × (now ≡ 2 ^ 64 - 1))

-- what is left loses the bytes that were given, and nothing else; a source that told what is left still tells it,
-- and one at its end has nothing left
abbrev pub Takes : Option (List ℕ) → Option (List ℕ) → Take → List ℕ → Type 0
Takes old new (Got n) into = (0 < n) × (n ≤ length into) × Consumes old new (take n into)
Takes old new End into = Keeps old new × IsAtEnd new
Takes old new TakeFailed into = Keeps old new

-- a sink that tells what it holds told it before too, and now holds these bytes after those
abbrev pub Gains : Option (List ℕ) → Option (List ℕ) → List ℕ → Type 0
Gains old None bytes = Unit {0}
Gains None (Some now) bytes = ⊥
Gains (Some before) (Some now) bytes = now ≡ before ++ bytes

-- a sink gains the first of the bytes, as many as it says, and none where it failed
abbrev pub Puts : Option (List ℕ) → Option (List ℕ) → Put → List ℕ → Type 0
Puts old new (Done n) bytes = (0 < n) × (n ≤ length bytes) × Gains old new (take n bytes)
Puts old new PutFailed bytes = Gains old new []

-- a count never falls, and a source answers that it failed only where its count rose
pub record TakeCause (before now : ℕ) (answer : Take) : Type 0 where
  pub later : before ≤ now
  pub failed : answer ≡ TakeFailed → Rose before now

-- the same of a sink
pub record PutCause (before now : ℕ) (answer : Put) : Type 0 where
  pub later : before ≤ now
  pub failed : answer ≡ PutFailed → Rose before now

-- of the bytes that a source gave, where it tells what is left, this holds
abbrev pub GivenWhere : Option (List ℕ) → Option (List ℕ) → (List ℕ → Type 0) → Type 0
GivenWhere old new P = (given : List ℕ) × Consumes old new given × P given
