-- What is seen of a sink that never fails.
use Rattle.std.specs.Prelude.{ℕ, List, Bool}

-- the bytes that it kept, how many it keeps at most, and whether more were put
pub record SteadyState : Type 0 where
  pub kept : List ℕ
  pub room : ℕ
  pub over : Bool
