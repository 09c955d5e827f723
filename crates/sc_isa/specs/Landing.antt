-- The values that land at a wait, with room for more.
use Rattle.std.specs.Prelude.{ℕ, List}
use Rattle.sc_base.specs.declared.value.Value.{Value}

-- the values in order of issue, and for how many more there is room
pub record Landing : Type 0 where
  pub values : List Value
  pub spare : ℕ
