-- Statements as plain data.
use Rattle.std.specs.Prelude.{ℕ, Bool, List, Option}
use Rattle.sc_base.specs.declared.shape.Ty.{Ty}
use Rattle.sc_tree.specs.Plain.{Expression}

-- a local that is declared, with what it begins with
pub record Declared : Type 0 where
  pub name : ℕ
  pub ty : Ty
  pub init : Option Expression
  pub at : ℕ
  pub line : ℕ

mutual
  pub data Statement : Type 0 where
    block : Statements → Statement
    empty : Statement
    declare : List Declared → Statement
    simple : Expression → Statement
    split : (left right : Expression) → (oneway : Bool) → (at line : ℕ) → Statement
    choose : Arms → Statement
    choose_else : Arms → Statement → Statement
    while_ : Expression → Statement → Statement
    do_while : Statement → Expression → Statement
    for_ : (first test next : Option Expression) → Statement → Statement
    for_mine : (name : ℕ) → Expression → Statement → (at line : ℕ) → Statement
    return : Option Expression → (at line : ℕ) → Statement
    break : (at : ℕ) → Statement
    continue : (at : ℕ) → Statement

  pub data Statements : Type 0 where
    no_statements : Statements
    statements : Statement → Statements → Statements

  -- a test and what it guards
  pub data Arm : Type 0 where
    arm : Expression → Statement → Arm

  pub data Arms : Type 0 where
    no_arms : Arms
    arms : Arm → Arms → Arms
