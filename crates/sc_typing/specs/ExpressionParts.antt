-- The parts of an expression: what it is made of, which of its operands are tested or stand behind a sign, and what a
-- chain or a postfix expression is to the left of one of its parts.
use Rattle.std.specs.Prelude.{ℕ, ◌+◌, Bool, ◌&&◌, Option, Some, None, List}
use Rattle.sc_base.specs.declared.operator.Binary.{Binary}
use Rattle.sc_base.specs.declared.operator.Unary.{Unary}
use Rattle.sc_base.specs.declared.operator.Unary.TheVariants as unary
use Rattle.sc_base.specs.declared.shape.Star.{Star}
use Rattle.sc_tree.specs.Plain.{Expression, expression, Kind, format, chain, both, either, choice, assign, step, plus}
use Rattle.sc_tree.specs.Plain.{prefix, deref, address, cast, postfix, call, Expressions, expressions, Link, link}
use Rattle.sc_tree.specs.Plain.{Links, links, Tail, index, Tails, tails}
use Rattle.sc_typing.specs.declared.calls.Given.{Given}
use Rattle.sc_typing.specs.declared.scope.InScope.{InScope}
use Rattle.sc_typing.specs.Known.{Judgement}
use Rattle.sc_typing.specs.Source.{Source}
use Rattle.sc_typing.specs.Chains.{Linked, begin_chain, join}
use Rattle.sc_typing.specs.Tails.{Tailing, begin_tails}
use Rattle.sc_typing.specs.Typing.{judge, judge_tail, judge_behind}
use Rattle.sc_typing.specs.Naming.{leading, called_meaning, format_given}

-- an expression of a list
pub data Among (e : Expression) : Expressions → Type 0 where
  at_front : {more : Expressions} → Among e (expressions e more)
  further : {other : Expression} {more : Expressions} → Among e more → Among e (expressions other more)

-- an argument of a call, other than the format that is printed
pub data Argument (e : Expression) : Option Given → Expressions → Type 0 where
  plain : {all : Expressions} → Among e all → Argument e None all
  behind : {given : Given} {other : Expression} {more : Expressions} →
      Among e more →
      Argument e (Some given) (expressions other more)

-- a link of a chain, and what the chain is to the left of it
pub data IsLink (c : Source) (locals : List InScope) (at_left : Option Linked) (it : Link) :
    Option Linked → Links → Type 0 where
  at_front : {more : Links} → IsLink c locals at_left it at_left (links it more)
  further : {left : Option Linked} {op : Binary} {e : Expression} {at line : ℕ} {more : Links} →
      IsLink c locals at_left it (join left op (judge c locals 0 e) at line) more →
      IsLink c locals at_left it left (links (link op e at line) more)

-- what stands behind the first part of a postfix expression, and what that expression is before it
pub data IsTail (c : Source) (locals : List InScope) (before : Tailing) (it : Tail) : Tailing → Tails → Type 0 where
  at_front : {more : Tails} → IsTail c locals before it before (tails it more)
  further : {t : Tailing} {other : Tail} {more : Tails} →
      IsTail c locals before it (judge_tail c locals t other) more →
      IsTail c locals before it t (tails other more)

abbrev pub begun_chain : Source → List InScope → Expression → Option Linked
begun_chain c locals first = begin_chain (judge c locals 0 first)

abbrev pub begun_tails : Source → List InScope → Expression → Tails → Tailing
begun_tails c locals first rest = begin_tails (judge c locals (leading rest) first)

-- An operand, with how many indices stand directly behind it. Each is used as a value.
pub data IsOperand (c : Source) (locals : List InScope) : Kind → (indices : ℕ) → Expression → Type 0 where
  chain_first : {first : Expression} {rest : Links} → IsOperand c locals (chain first rest) 0 first
  chain_link : {first : Expression} {rest : Links} {left : Option Linked} {op : Binary} {e : Expression}
      {at line : ℕ} →
      IsLink c locals left (link op e at line) (begun_chain c locals first) rest →
      IsOperand c locals (chain first rest) 0 e
  of_both : {all : Expressions} {e : Expression} → Among e all → IsOperand c locals (both all) 0 e
  of_either : {all : Expressions} {e : Expression} → Among e all → IsOperand c locals (either all) 0 e
  choice_test : {test on off : Expression} → IsOperand c locals (choice test on off) 0 test
  choice_on : {test on off : Expression} → IsOperand c locals (choice test on off) 0 on
  choice_off : {test on off : Expression} → IsOperand c locals (choice test on off) 0 off
  assign_left : {op : Option Binary} {left right : Expression} →
      IsOperand c locals (assign op left right) 0 left
  assign_right : {op : Option Binary} {left right : Expression} →
      IsOperand c locals (assign op left right) 0 right
  step_place : {is_up : Bool} {e : Expression} → IsOperand c locals (step is_up e) 0 e
  plus_operand : {e : Expression} → IsOperand c locals (plus e) 0 e
  prefix_operand : {op : Unary} {e : Expression} → IsOperand c locals (prefix op e) 0 e
  deref_operand : {e : Expression} → IsOperand c locals (deref e) 0 e
  address_operand : {e : Expression} → IsOperand c locals (address e) 0 e
  cast_operand : {stars : List Star} {e : Expression} → IsOperand c locals (cast stars e) 0 e
  postfix_first : {first : Expression} {rest : Tails} →
      IsOperand c locals (postfix first rest) (leading rest) first
  postfix_index : {first : Expression} {rest : Tails} {t : Tailing} {e : Expression} {at line : ℕ} →
      IsTail c locals t (index e at line) (begun_tails c locals first rest) rest →
      IsOperand c locals (postfix first rest) 0 e
  argument : {n : ℕ} {args : Expressions} {e : Expression} →
      Argument e (format_given (called_meaning c locals n) args) args →
      IsOperand c locals (call n args) 0 e

-- An expression that is tested: an operand of `!`, `&&` and `||`, and the test of `?:`.
pub data IsTested : Kind → Expression → Type 0 where
  of_both : {all : Expressions} {e : Expression} → Among e all → IsTested (both all) e
  of_either : {all : Expressions} {e : Expression} → Among e all → IsTested (either all) e
  of_choice : {test on off : Expression} → IsTested (choice test on off) test
  of_not : {e : Expression} → IsTested (prefix unary.Not e) e

-- `-`, `~` or `+` before an operand
pub data IsSigned : Kind → Expression → Type 0 where
  minus : {e : Expression} → IsSigned (prefix unary.Minus e) e
  invert : {e : Expression} → IsSigned (prefix unary.Invert e) e
  plus_sign : {e : Expression} → IsSigned (plus e) e

abbrev pub known_of : Source → List InScope → Expression → Judgement
known_of c locals e = judge c locals 0 e

-- the format that a call prints
abbrev pub given_of : Source → List InScope → (n : ℕ) → Expressions → Option Given
given_of c locals n args = format_given (called_meaning c locals n) args

-- the judged arguments of a call
abbrev pub arguments_of : Source → List InScope → (n : ℕ) → Expressions → List Judgement
arguments_of c locals n args = judge_behind c locals (given_of c locals n args) args
