-- A plain assignment as a whole statement, by what its sides come to.
use Rattle.std.proofs.Common.{◌≡◌, refl, ap, ◌∙◌, ℕ, List, None}
use Rattle.sc_base.specs.declared.shape.Shape.{Shape}
use Rattle.sc_base.specs.declared.shape.Ty.{Ty}
use Rattle.sc_tree.specs.declared.typed.TypedExpr.{TypedExpr}
use Rattle.sc_tree.specs.PlainTyped.{TypedExpression, typed_expression, assign}
use Rattle.sc_tree.specs.ViewTyped.{plain_typed, plain_typed_kind}
use Rattle.sc_tree.proofs.ViewTypedLaws.{typed_expr-is}
use Rattle.sc_core.specs.declared.operation.Action.TheVariants as acts
use Rattle.sc_core.specs.Places.{fetched, assigned}
use Rattle.sc_core.specs.Expressions.{value_of, found, found_form}
use Rattle.sc_core.specs.Statements.{act_on, assigning, whole, whole_form, dropped}
use Rattle.core_lower.specs.ViewWhole.{set_whole}

value-found : (objects : List Shape) (e : TypedExpression) → value_of objects e ≡ fetched (found objects e)
unfolding value_of found
value-found objects (typed_expression form ty start at line) = refl

value-set : (objects : List Shape) (left right : TypedExpression) (ty : Ty) (start at line : ℕ) →
    value_of objects (typed_expression (assign None left right) ty start at line) ≡ assigned (found objects left) (value_of objects right) line
unfolding value_of found_form
value-set objects left right ty start at line = refl

pub whole-set : (objects : List Shape) (left right : TypedExpression) (ty : Ty) (start at line : ℕ) →
    whole objects (typed_expression (assign None left right) ty start at line) ≡ set_whole objects left right line
whole-set objects left right ty start at line =
    ap (λ v. assigning (found objects left) (found objects right) (act_on acts.Drop v line) line)
    (value-set objects left right ty start at line ∙ ap (λ v. assigned (found objects left) v line) (value-found objects right))

pub whole-is : (objects : List Shape) (e : TypedExpr) → whole objects (plain_typed e) ≡ whole_form objects (plain_typed_kind e.kind) (dropped objects (plain_typed e)) e.line
whole-is objects e = rw (typed_expr-is e) refl

pub ruleset wholes = (whole-set, whole-is)
