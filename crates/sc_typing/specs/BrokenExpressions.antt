-- Which rules an expression breaks, and at which tokens, in no order. The rules are those of Split-C (Culler and
-- others, 1995) and C, each a predicate in `Rules`, or in `NameRules` or `Arguments` where it is on names or arguments.
use Rattle.std.specs.Prelude.{ℕ, ◌≡◌, Bool, true, false, Option, Some, None, List, nat_lt, slice_get}
use Rattle.sc_base.specs.declared.operator.Binary.{Binary}
use Rattle.sc_base.specs.declared.shape.Star.{Star}
use Rattle.sc_base.specs.declared.shape.Shape.{Shape}
use Rattle.sc_tree.specs.Plain.{Expression, expression, Kind, name, format, chain, choice, assign, step, deref, address}
use Rattle.sc_tree.specs.Plain.{cast, postfix, call, Expressions, link, Links, index, up, down, Tails}
use Rattle.sc_typing.specs.declared.file.Meaning.TheVariants as means
use Rattle.sc_typing.specs.declared.library.Library.{Library}
use Rattle.sc_typing.specs.declared.notes.Breach.{Breach}
use Rattle.sc_typing.specs.declared.scope.InScope.{InScope}
use Rattle.sc_typing.specs.declared.rule.Rule.{Rule}
use Rattle.sc_typing.specs.declared.rule.Rule.TheVariants as rules
use Rattle.sc_typing.specs.Source.{Source}
use Rattle.sc_typing.specs.Rules
use Rattle.sc_typing.specs.NameRules
use Rattle.sc_typing.specs.Operators.{cast_type}
use Rattle.sc_typing.specs.Chains.{Linked, join_kept, row_of}
use Rattle.sc_typing.specs.Tails.{Tailing, pointed, stepped}
use Rattle.sc_typing.specs.Arguments.{arguments_kept, library_kept, library_token, library_rule}
use Rattle.sc_typing.specs.Typing.{judge}
use Rattle.sc_typing.specs.Naming.{called_meaning}
use Rattle.sc_typing.specs.ExpressionParts.{given_of, IsLink, IsTail, begun_chain, begun_tails, IsOperand, IsTested}
use Rattle.sc_typing.specs.ExpressionParts.{IsSigned}
use Rattle.sc_typing.specs.ExpressionParts.{known_of, arguments_of}

abbrev pub breach : (at : ℕ) → Rule → Breach
breach at rule = record { at = at; rule = rule }

-- Rules that an expression breaks itself, whatever its operands break. Its own token is `at`.
pub data Breaks (c : Source) (locals : List InScope) (indices : ℕ) (start at line : ℕ) : Kind →
    Breach → Type 0 where
  undeclared : {n : ℕ} →
      NameRules.is_declared c locals n ≡ false →
      Breaks c locals indices start at line (name n) (breach at rules.Declared)
  undeclared_call : {n : ℕ} {args : Expressions} →
      NameRules.is_declared c locals n ≡ false →
      Breaks c locals indices start at line (call n args) (breach at rules.Declared)
  uncalled : {n : ℕ} →
      NameRules.name_kept c locals n ≡ false →
      Breaks c locals indices start at line (name n) (breach at rules.Called)
  called : {n : ℕ} {args : Expressions} →
      NameRules.call_kept c locals n ≡ false →
      Breaks c locals indices start at line (call n args) (breach at rules.Called)
  indices_missing : {n o : ℕ} {object : Shape} →
      called_meaning c locals n ≡ Some (means.Object o) →
      slice_get c.objects o ≡ Some object →
      Rules.indices_kept object indices ≡ false →
      Breaks c locals indices start at line (name n) (breach at rules.Indices)
  index_no_int : {first : Expression} {rest : Tails} {t : Tailing} {e : Expression} {at_index line_index : ℕ} →
      IsTail c locals t (index e at_index line_index) (begun_tails c locals first rest) rest →
      Rules.index_kept (known_of c locals e).known ≡ false →
      Breaks c locals indices start at line (postfix first rest) (breach at_index rules.Index)
  sign_no_int : {kind : Kind} {e : Expression} →
      IsSigned kind e →
      Rules.int_kept (known_of c locals e).known ≡ false →
      Breaks c locals indices start at line kind (breach at rules.Ints)
  link_broken : {first : Expression} {rest : Links} {left : Option Linked} {op : Binary} {e : Expression}
      {at_link line_link : ℕ} →
      IsLink c locals left (link op e at_link line_link) (begun_chain c locals first) rest →
      join_kept left op (known_of c locals e) ≡ false →
      Breaks c locals indices start at line (chain first rest) (breach at_link (row_of op).rule)
  test_no_scalar : {kind : Kind} {e : Expression} →
      IsTested kind e →
      Rules.test_kept (known_of c locals e).known ≡ false →
      Breaks c locals indices start at line kind (breach (known_of c locals e).start rules.Test)
  deref_no_pointer : {e : Expression} →
      Rules.pointer_kept (known_of c locals e).known ≡ false →
      Breaks c locals indices start at line (deref e) (breach at rules.Pointer)
  index_no_pointer : {first : Expression} {rest : Tails} {t : Tailing} {e : Expression} {at_index line_index : ℕ} →
      IsTail c locals t (index e at_index line_index) (begun_tails c locals first rest) rest →
      nat_lt 0 t.skip ≡ false →
      pointed t ≡ false →
      Breaks c locals indices start at line (postfix first rest) (breach at_index rules.Pointer)
  address_no_memory : {e : Expression} →
      Rules.address_kept (known_of c locals e) ≡ false →
      Breaks c locals indices start at line (address e) (breach at rules.Address)
  assign_broken : {left right : Expression} →
      Rules.assignment_kept (known_of c locals left) (known_of c locals right) ≡ false →
      Breaks c locals indices start at line (assign None left right) (breach at rules.Assignment)
  compound_broken : {op : Binary} {left right : Expression} →
      Rules.update_kept op (known_of c locals left) (known_of c locals right) ≡ false →
      Breaks c locals indices start at line (assign (Some op) left right) (breach at rules.Update)
  step_broken : {is_up : Bool} {e : Expression} →
      Rules.place_kept true (known_of c locals e).place (known_of c locals e).known ≡ false →
      Breaks c locals indices start at line (step is_up e) (breach at rules.Update)
  up_broken : {first : Expression} {rest : Tails} {t : Tailing} {at_step line_step : ℕ} →
      IsTail c locals t (up at_step line_step) (begun_tails c locals first rest) rest →
      stepped t ≡ false →
      Breaks c locals indices start at line (postfix first rest) (breach at_step rules.Update)
  down_broken : {first : Expression} {rest : Tails} {t : Tailing} {at_step line_step : ℕ} →
      IsTail c locals t (down at_step line_step) (begun_tails c locals first rest) rest →
      stepped t ≡ false →
      Breaks c locals indices start at line (postfix first rest) (breach at_step rules.Update)
  arguments_broken : {n function : ℕ} {args : Expressions} →
      called_meaning c locals n ≡ Some (means.Function function) →
      arguments_kept c function (arguments_of c locals n args) ≡ false →
      Breaks c locals indices start at line (call n args) (breach at rules.Arguments)
  format_unprinted : {f : ℕ} → Breaks c locals indices start at line (format f) (breach at rules.Format)
  library_broken : {n : ℕ} {args : Expressions} {library : Library} →
      called_meaning c locals n ≡ Some (means.Library library) →
      library_kept c library (given_of c locals n args) (arguments_of c locals n args) ≡ false →
      Breaks c locals indices start at line (call n args)
      (breach (library_token library (given_of c locals n args) at) (library_rule library))
  void_used : {kind : Kind} {taken : ℕ} {e : Expression} →
      IsOperand c locals kind taken e →
      Rules.value_kept (judge c locals taken e).known ≡ false →
      Breaks c locals indices start at line kind (breach (judge c locals taken e).start rules.Use)
  arms_broken : {test on off : Expression} →
      Rules.arms_kept (known_of c locals on).known (known_of c locals off).known ≡ false →
      Breaks c locals indices start at line (choice test on off) (breach at rules.Use)
  cast_broken : {stars : List Star} {e : Expression} →
      Rules.cast_kept (cast_type stars) (known_of c locals e).known ≡ false →
      Breaks c locals indices start at line (cast stars e) (breach at rules.Use)

-- Some expression within the expression breaks the rule at the token.
pub data BrokenIn (c : Source) (locals : List InScope) (b : Breach) : (indices : ℕ) → Expression → Type 0 where
  here : {indices : ℕ} {kind : Kind} {start at line : ℕ} →
      Breaks c locals indices start at line kind b →
      BrokenIn c locals b indices (expression kind start at line)
  within_operand : {indices taken : ℕ} {kind : Kind} {start at line : ℕ} {e : Expression} →
      IsOperand c locals kind taken e →
      BrokenIn c locals b taken e →
      BrokenIn c locals b indices (expression kind start at line)
