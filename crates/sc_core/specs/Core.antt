-- The core tree: what a typed source says in few forms, in which every choice that its types decide is made. All that
-- evaluates its arguments from left to right and then does one thing is a step; a place is an expression that gives a
-- pointer. It is an intermediate language in the sense of Reynolds, "The essence of Algol" (1981).
use Rattle.std.specs.Prelude.{ℕ, Bool, List, Option}
use Rattle.sc_base.specs.declared.shape.Ty.{Ty}
use Rattle.sc_tree.specs.Names.{Text}
use Rattle.sc_core.specs.declared.operation.Constant.{Constant}
use Rattle.sc_core.specs.declared.operation.Operation.{Operation}
use Rattle.sc_core.specs.declared.operation.Action.{Action}

mutual
  pub data Core : Type 0 where
    constant : Constant → Core
    step : Operation → Arguments → (line : ℕ) → Core
    -- `?:`, whose test is of a pointer where the first says so; also `&&` and `||`
    choice : (of_pointer : Bool) → (test yes no : Core) → Core
    -- A compound assignment to the cell behind the pointer, which is evaluated once: it is read, the right side is
    -- evaluated, the two are joined and the result is written. Where the last says so, its value is the old one,
    -- taken back from what was written by that operation and 1.
    update : (pointer : Core) → Operation → (right : Core) → (taken_back : Option Operation) →
        (line : ℕ) → Core

  -- the arguments of a step
  pub data Arguments : Type 0 where
    none : Arguments
    argument : Core → Arguments → Arguments

pub data Does : Type 0 where
  nothing : Does
  break : Does
  continue : Does
  then_ : Does → Does → Does
  act : Action → Arguments → (line : ℕ) → Does
  choose : (of_pointer : Bool) → (test : Core) → (yes no : Does) → Does
  -- What is done before a turn is counted, the body, and what is done after it. Where it is a `for_my_1d`, the
  -- first names its local.
  loop : (mine : Option ℕ) → (before body after : Does) → Does
  return : Core → (line : ℕ) → Does

-- A function: its parameters' types and those of its other locals, in the order of their numbers, and what its body
-- does. `line` is that of its name, at which the end of its body stands.
pub record Function : Type 0 where
  pub params : List Ty
  pub others : List Ty
  pub result : Ty
  pub body : Does
  pub line : ℕ

-- A source: its functions in the order of the text, the number of the one that is named `splitc_main`, and its texts:
-- the formats, and then the names of the functions.
pub record Program : Type 0 where
  pub functions : List Function
  pub main : ℕ
  pub texts : List Text
