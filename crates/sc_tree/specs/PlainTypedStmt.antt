-- Statements with the types of their expressions as plain data.
use Rattle.std.specs.Prelude.{ℕ, Bool, List, Option}
use Rattle.sc_base.specs.declared.shape.Ty.{Ty}
use Rattle.sc_tree.specs.declared.typed.Named.{Named}
use Rattle.sc_tree.specs.PlainTyped.{TypedExpression}

-- a local that is declared, with what it begins with
pub record TypedDeclared : Type 0 where
  pub name : ℕ
  pub ty : Ty
  pub init : Option TypedExpression
  pub at : ℕ
  pub line : ℕ

mutual
  pub data TypedStatement : Type 0 where
    block : TypedStatements → TypedStatement
    empty : TypedStatement
    declare : List TypedDeclared → TypedStatement
    simple : TypedExpression → TypedStatement
    split : (left right : TypedExpression) → (oneway : Bool) → (at line : ℕ) → TypedStatement
    choose : TypedArms → TypedStatement
    choose_else : TypedArms → TypedStatement → TypedStatement
    while_ : TypedExpression → TypedStatement → TypedStatement
    do_while : TypedStatement → TypedExpression → TypedStatement
    for_ : (first test next : Option TypedExpression) → TypedStatement → TypedStatement
    for_mine : (name : Named) → TypedExpression → TypedStatement → (at line : ℕ) → TypedStatement
    return : Option TypedExpression → (at line : ℕ) → TypedStatement
    break : (at : ℕ) → TypedStatement
    continue : (at : ℕ) → TypedStatement

  pub data TypedStatements : Type 0 where
    no_statements : TypedStatements
    statements : TypedStatement → TypedStatements → TypedStatements

  -- a test and what it guards
  pub data TypedArm : Type 0 where
    arm : TypedExpression → TypedStatement → TypedArm

  pub data TypedArms : Type 0 where
    no_arms : TypedArms
    arms : TypedArm → TypedArms → TypedArms
