-- What is seen of a source and of a sink in memory.
use Rattle.std.specs.Prelude.{ℕ, List}

-- the bytes that are left, the numbers of the calls that fail, how many bytes a call gives at most, the number of
-- the next call, and how often a call failed
pub record SourceState : Type 0 where
  pub left : List ℕ
  pub failing : List ℕ
  pub piece : ℕ
  pub call : ℕ
  pub faults : ℕ

-- the bytes that are held, how many there can be, the numbers of the calls that fail, how many bytes a call takes at
-- most, the number of the next call, and how often a call failed
pub record SinkState : Type 0 where
  pub held : List ℕ
  pub room : ℕ
  pub failing : List ℕ
  pub piece : ℕ
  pub call : ℕ
  pub faults : ℕ
