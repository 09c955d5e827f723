-- Expressions as plain data, which definitions go over by cases: the syntax trees that the grammar of Split-C's
-- expressions, those of C, spells. A token is its number, counted from 1.
use Rattle.std.specs.Prelude.{ℕ, ℤ, Bool, List, Option}
use Rattle.sc_base.specs.declared.operator.Binary.{Binary}
use Rattle.sc_base.specs.declared.operator.Unary.{Unary}
use Rattle.sc_base.specs.declared.shape.Star.{Star}

mutual
  pub data Expression : Type 0 where
    expression : Kind → (start at line : ℕ) → Expression

  pub data Kind : Type 0 where
    number : ℤ → Kind
    null : Kind
    my_proc : Kind
    procs : Kind
    size_int : Kind
    name : ℕ → Kind
    format : ℕ → Kind
    chain : Expression → Links → Kind
    both : Expressions → Kind
    either : Expressions → Kind
    choice : (test yes no : Expression) → Kind
    assign : Option Binary → (left right : Expression) → Kind
    step : Bool → Expression → Kind
    plus : Expression → Kind
    prefix : Unary → Expression → Kind
    deref : Expression → Kind
    address : Expression → Kind
    cast : List Star → Expression → Kind
    postfix : Expression → Tails → Kind
    call : ℕ → Expressions → Kind

  pub data Expressions : Type 0 where
    no_expressions : Expressions
    expressions : Expression → Expressions → Expressions

  -- an operator and its right operand
  pub data Link : Type 0 where
    link : Binary → Expression → (at line : ℕ) → Link

  pub data Links : Type 0 where
    no_links : Links
    links : Link → Links → Links

  -- an index, or a step up or down behind a place
  pub data Tail : Type 0 where
    index : Expression → (at line : ℕ) → Tail
    up : (at line : ℕ) → Tail
    down : (at line : ℕ) → Tail

  pub data Tails : Type 0 where
    no_tails : Tails
    tails : Tail → Tails → Tails
