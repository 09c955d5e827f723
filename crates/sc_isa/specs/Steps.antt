-- The steps that take values from the left: those that leave one value, and those that leave none. An instruction is
-- one of them, and so is a step of the evaluation of a source.
use Rattle.std.specs.Prelude.{ℕ, Bool, List}
use Rattle.sc_isa.specs.Pure.{Pure, arity}

-- a step that leaves one value
pub data Gain : Type 0 where
  pure : Pure → Gain
  load set : ℕ → Gain
  read write : Gain
  -- of a function with so many parameters
  call : (function count : ℕ) → Gain

-- a step that leaves none
pub data Act : Type 0 where
  drop : Act
  clear : (local : ℕ) → (pointer : Bool) → Act
  -- by a format, with so many values
  print : (format : List ℕ) → (count : ℕ) → Act
  fill get : (local : ℕ) → Act
  put send : Act
  copy : Act
  -- on a counter, which is 0 for explicit gets and puts
  wait : (counter : ℕ) → Act
  -- stores: all one-way stores are waited for too
  barrier : (stores : Bool) → Act

-- how many values they take
abbrev pub takes : Gain → ℕ
takes (pure op) = arity op
takes (load local) = 0
takes (set local) = 1
takes read = 1
takes write = 2
takes (call function count) = count

abbrev pub uses_up : Act → ℕ
uses_up drop = 1
uses_up (clear local pointer) = 0
uses_up (print format count) = count
uses_up (fill local) = 1
uses_up (get local) = 1
uses_up put = 2
uses_up send = 2
uses_up copy = 3
uses_up (wait counter) = 0
uses_up (barrier stores) = 0
