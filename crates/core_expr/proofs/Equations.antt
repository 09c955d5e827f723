-- What the definitions say of the code's trees and lists.
use Rattle.std.proofs.Common.{◌≡◌, refl, ap, List, [], ◌∷◌, ◌++◌, length, map, arith}
use Rattle.sc_base.specs.declared.shape.Shape.{Shape}
use Rattle.sc_tree.specs.declared.typed.TypedExpr.{TypedExpr}
use Rattle.sc_tree.specs.PlainTyped.{TypedExpressions, no_expressions, expressions}
use Rattle.sc_tree.specs.ViewTyped.{plain_typed, plain_typed_kind, typed_expressions_of}
use Rattle.sc_tree.proofs.ViewTypedLaws.{typed_expr-is}
use Rattle.sc_core.specs.Core.{Core, choice, argument}
use Rattle.sc_core.specs.Places.{number_one, number_zero, is_pointer, fetched}
use Rattle.sc_core.specs.Expressions.{star_of, count_of, behind_all, value_of, found, found_form, values_of, every, any}
use Rattle.sc_core.specs.View.{arguments_of, every_of, any_of}
use Rattle.core_expr.specs.Listed.{values_in, tests_in}

pub found-is : (objects : List Shape) (e : TypedExpr) → found objects (plain_typed e) ≡ found_form objects (plain_typed_kind e.kind) e.line
unfolding found
found-is objects e = rw (typed_expr-is e) refl

pub value-is : (objects : List Shape) (e : TypedExpr) → value_of objects (plain_typed e) ≡ fetched (found objects (plain_typed e))
unfolding value_of found
value-is objects e = rw (typed_expr-is e) refl

pub ruleset equations = (found-is, value-is)

pub every-are : (objects : List Shape) (all : TypedExpressions) → every objects all ≡ every_of (tests_in objects all)
unfolding every tests_in
every-are objects no_expressions = refl
every-are objects (expressions e more) =
    ap (λ rest. choice (is_pointer (star_of e)) (value_of objects e) rest number_zero) (every-are objects more)

pub any-are : (objects : List Shape) (all : TypedExpressions) → any objects all ≡ any_of (tests_in objects all)
unfolding any tests_in
any-are objects no_expressions = refl
any-are objects (expressions e more) =
    ap (λ rest. choice (is_pointer (star_of e)) (value_of objects e) number_one rest) (any-are objects more)

pub ruleset operands = (every-are, any-are)

pub values-are : (objects : List Shape) (all : TypedExpressions) → arguments_of (values_in objects all) ≡ values_of objects all
unfolding values_of values_in
values-are objects no_expressions = refl
values-are objects (expressions e more) = ap (λ rest. argument (value_of objects e) rest) (values-are objects more)

pub count-is : (all : List TypedExpr) → count_of (typed_expressions_of (map plain_typed all)) ≡ length all
count-is [] = refl
count-is (e ∷ more) = let h : count_of (typed_expressions_of (map plain_typed more)) ≡ length more = count-is more in omega arith

pub ruleset arguments = (values-are, count-is)

pub arguments-more : (all : List Core) (e : Core) → arguments_of (all ++ e ∷ []) ≡ behind_all (arguments_of all) e
arguments-more [] e = refl
arguments-more (x ∷ all) e = ap (λ rest. argument x rest) (arguments-more all e)
