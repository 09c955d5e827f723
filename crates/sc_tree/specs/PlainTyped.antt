-- Expressions with their types as plain data. A name stands as what it means.
use Rattle.std.specs.Prelude.{ℕ, ℤ, Bool, List, Option}
use Rattle.sc_base.specs.declared.operator.Binary.{Binary}
use Rattle.sc_base.specs.declared.operator.Unary.{Unary}
use Rattle.sc_base.specs.declared.shape.Star.{Star}
use Rattle.sc_base.specs.declared.shape.Ty.{Ty}
use Rattle.sc_tree.specs.declared.typed.Named.{Named}

mutual
  pub data TypedExpression : Type 0 where
    typed_expression : TypedForm → (ty : Ty) → (start at line : ℕ) → TypedExpression

  pub data TypedForm : Type 0 where
    number : ℤ → TypedForm
    null : TypedForm
    my_proc : TypedForm
    procs : TypedForm
    size_int : TypedForm
    name : Named → TypedForm
    format : ℕ → TypedForm
    chain : TypedExpression → TypedLinks → TypedForm
    both : TypedExpressions → TypedForm
    either : TypedExpressions → TypedForm
    choice : (test yes no : TypedExpression) → TypedForm
    assign : Option Binary → (left right : TypedExpression) → TypedForm
    step : Bool → TypedExpression → TypedForm
    plus : TypedExpression → TypedForm
    prefix : Unary → TypedExpression → TypedForm
    deref : TypedExpression → TypedForm
    address : TypedExpression → TypedForm
    cast : List Star → TypedExpression → TypedForm
    postfix : TypedExpression → TypedTails → TypedForm
    call : Named → TypedExpressions → TypedForm
    convert : Ty → TypedExpression → TypedForm
    printf : (format : ℕ) → TypedExpressions → TypedForm
    sync : TypedForm
    barrier : TypedForm
    all_store_sync : TypedForm
    to_global : (node pointer : TypedExpression) → TypedForm
    to_proc : TypedExpression → TypedForm
    to_local : TypedExpression → TypedForm
    bulk_read : (to from bytes : TypedExpression) → TypedForm
    bulk_write : (to from bytes : TypedExpression) → TypedForm
    bulk_get : (to from bytes : TypedExpression) → TypedForm
    bulk_put : (to from bytes : TypedExpression) → TypedForm
    bulk_store : (to from bytes : TypedExpression) → TypedForm

  pub data TypedExpressions : Type 0 where
    no_expressions : TypedExpressions
    expressions : TypedExpression → TypedExpressions → TypedExpressions

  -- an operator and its right operand
  pub data TypedLink : Type 0 where
    link : Binary → TypedExpression → (at line : ℕ) → TypedLink

  pub data TypedLinks : Type 0 where
    no_links : TypedLinks
    links : TypedLink → TypedLinks → TypedLinks

  -- an index, or a step up or down behind a place
  pub data TypedTail : Type 0 where
    index : TypedExpression → (at line : ℕ) → TypedTail
    up : (at line : ℕ) → TypedTail
    down : (at line : ℕ) → TypedTail

  pub data TypedTails : Type 0 where
    no_tails : TypedTails
    tails : TypedTail → TypedTails → TypedTails
