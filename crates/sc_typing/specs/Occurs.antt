-- The expressions that the functions of a source evaluate.
use Rattle.std.specs.Prelude.{◌≡◌, Bool, false, Option, Some}
use Rattle.std.specs.List.{Contains}
use Rattle.sc_tree.specs.Plain.{Expression}
use Rattle.sc_tree.specs.PlainStmt.{Statement, Statements}
use Rattle.sc_tree.specs.PlainTree.{PlainFunction, PlainTree}
use Rattle.sc_typing.specs.Scope.{Scope}
use Rattle.sc_typing.specs.Program.{body_scope}
use Rattle.sc_typing.specs.StatementParts.{Place, place, InSequence, IsPart, Evaluates}

-- a statement, or one within it, evaluates the expression, with this in scope
pub data Occurs (there : Scope) (e : Expression) : Place → Statement → Type 0 where
  here : {p : Place} {it : Statement} → Evaluates p.scope there e it → Occurs there e p it
  in_part : {p q : Place} {it part : Statement} → IsPart p q part it → Occurs there e q part → Occurs there e p it

-- a statement in the body of a function of the source evaluates it
pub record OccursIn (tree : PlainTree) (there : Scope) (e : Expression) : Type 0 where
  pub function : PlainFunction
  pub all : Statements
  pub before : Scope
  pub it : Statement
  pub in_source : Contains tree.functions function
  pub in_body : function.body ≡ Some all
  pub in_sequence : InSequence before it (body_scope function) all
  pub occurs : Occurs there e (place false 0 before) it
