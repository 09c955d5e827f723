-- Typed functions and whole typed sources as plain data.
use Rattle.std.specs.Prelude.{ℕ, List, Option}
use Rattle.sc_base.specs.declared.shape.Ty.{Ty}
use Rattle.sc_base.specs.declared.shape.Shape.{Shape}
use Rattle.sc_tree.specs.Names.{Text}
use Rattle.sc_tree.specs.declared.typed_stmt.TypedParam.{TypedParam}
use Rattle.sc_tree.specs.PlainTypedStmt.{TypedStatements}

-- a function, or a prototype where there is no body
pub record PlainTypedFunction : Type 0 where
  pub name : ℕ
  pub result : Ty
  pub params : List TypedParam
  pub body : Option TypedStatements
  pub at : ℕ
  pub line : ℕ

-- a source: its objects, its functions, the lines of its tokens, the line of the last one, and its texts
pub record PlainTypedTree : Type 0 where
  pub objects : List Shape
  pub functions : List PlainTypedFunction
  pub lines : List ℕ
  pub last : ℕ
  pub texts : List Text
