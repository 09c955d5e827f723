-- Functions and whole sources as plain data.
use Rattle.std.specs.Prelude.{ℕ, List, Option}
use Rattle.sc_base.specs.declared.shape.Ty.{Ty}
use Rattle.sc_base.specs.declared.shape.Shape.{Shape}
use Rattle.sc_tree.specs.declared.tree.Param.{Param}
use Rattle.sc_tree.specs.PlainStmt.{Statements}

-- a function, or a prototype where there is no body
pub record PlainFunction : Type 0 where
  pub name : ℕ
  pub result : Ty
  pub params : List Param
  pub body : Option Statements
  pub at : ℕ
  pub line : ℕ

-- a source: its objects, its functions, the lines of its tokens, and the line of the last one
pub record PlainTree : Type 0 where
  pub objects : List Shape
  pub functions : List PlainFunction
  pub lines : List ℕ
  pub last : ℕ
