-- In a well-typed source each expression that is evaluated has a type, and so has each of its operands.
use Rattle.std.proofs.Common.{◌≡◌, refl, ℕ, true, List}
use Rattle.std.specs.Prelude.{is_some}
use Rattle.sc_tree.specs.Names.{Text}
use Rattle.sc_tree.specs.Plain.{Expression, expression, Kind}
use Rattle.sc_tree.specs.PlainStmt.{Statement}
use Rattle.sc_tree.specs.PlainTree.{PlainTree}
use Rattle.sc_typing.specs.declared.notes.Breach.{Breach}
use Rattle.sc_typing.specs.declared.scope.InScope.{InScope}
use Rattle.sc_typing.specs.Scope.{Scope}
use Rattle.sc_typing.specs.Source.{Source}
use Rattle.sc_typing.specs.Statements.{Within}
use Rattle.sc_typing.specs.Typing.{judge}
use Rattle.sc_typing.specs.ExpressionParts.{IsOperand}
use Rattle.sc_typing.specs.BrokenExpressions.{BrokenIn, within_operand}
use Rattle.sc_typing.specs.StatementParts.{Place}
use Rattle.sc_typing.specs.BrokenStatements.{BrokenBy, in_expression, in_part}
use Rattle.sc_typing.specs.Broken.{FunctionBreaks, FileBreaks}
use Rattle.sc_typing.specs.Answer.{IsWellTyped}
use Rattle.sc_typing.specs.Occurs
use Rattle.sc_typing.specs.Occurs.{Occurs, OccursIn}
use Rattle.sc_typing.specs.Program.{source_of_tree, within}
use Rattle.sc_typing.proofs.TypedValues.{typed-value}

module _ (c : Source) (locals : List InScope) (indices : ℕ) (e : Expression) where
  pub unbroken-typed : ((b : Breach) → BrokenIn c locals b indices e → ⊥) →
      is_some (judge c locals indices e).known ≡ true
  unbroken-typed h = (typed-value c locals indices e).told h

  pub typed-unbroken : is_some (judge c locals indices e).known ≡ true → (b : Breach) →
      BrokenIn c locals b indices e → ⊥
  typed-unbroken h = (typed-value c locals indices e).none h

pub operand-typed : (c : Source) (locals : List InScope) (indices taken start at line : ℕ) (kind : Kind)
    (e : Expression) →
    is_some (judge c locals indices (expression kind start at line)).known ≡ true →
    IsOperand c locals kind taken e → is_some (judge c locals taken e).known ≡ true
operand-typed c locals indices taken start at line kind e h is =
    unbroken-typed c locals taken e
    (λ b broken. typed-unbroken c locals indices (expression kind start at line) h b (within_operand is broken))

broken-by : (w : Within) (b : Breach) (there : Scope) (e : Expression) (p : Place) (it : Statement) →
    Occurs there e p it → BrokenIn w.source there.locals b 0 e → BrokenBy w b p it
broken-by w b there e p it (Occurs.here evaluates) h = in_expression evaluates h
broken-by w b there e p it (Occurs.in_part {q = q} {part = part} is occurs) h =
    in_part is (broken-by w b there e q part occurs h)

pub occurring-typed : (tree : PlainTree) (names texts : List Text) → IsWellTyped tree names texts → (there : Scope)
    (e : Expression) → OccursIn tree there e →
    is_some (judge (source_of_tree tree names texts) there.locals 0 e).known ≡ true
occurring-typed tree names texts typed there e o =
    unbroken-typed (source_of_tree tree names texts) there.locals 0 e
    (λ b h. typed b (FileBreaks.in_function o.in_source
    (FunctionBreaks.in_body o.in_body o.in_sequence
    (broken-by (within (source_of_tree tree names texts) o.function) b there e _ o.it o.occurs h))))
