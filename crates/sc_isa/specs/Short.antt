-- What is counted in 32 bits.
use Rattle.std.specs.Prelude.{ℕ, ◌^◌, ◌<◌, nat_lt, Bool, List, length, IsTrue}
use Rattle.std.specs.List.{list_all}

abbrev pub is_short : List ℕ → Bool
is_short text = nat_lt (length text) (2 ^ 32)

-- so many functions and instructions, and these texts, can be counted in 32 bits
pub record IsShort (functions instrs : ℕ) (texts : List (List ℕ)) : Type 0 where
  pub few_functions : functions < 2 ^ 32
  pub few_instrs : instrs < 2 ^ 32
  pub few_texts : length texts < 2 ^ 32
  pub short_texts : IsTrue (list_all is_short texts)
