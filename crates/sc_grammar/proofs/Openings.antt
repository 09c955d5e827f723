-- The first token of an expression begins one, at its depth.
use Rattle.std.proofs.Common.{◌≡◌, refl, ap, ℕ, suc, ◌≤◌, arith, Bool, true, Some}
use Rattle.sc_tree.specs.declared.token.TokenKind.{TokenKind}
use Rattle.sc_tree.specs.declared.token.Mark.{Mark as TheMark}
use Rattle.sc_tree.specs.declared.token.Mark.TheVariants as marks
use Rattle.sc_tree.specs.Plain.{Expression}
use Rattle.sc_grammar.specs.declared.operators.Prefix.{Prefix}
use Rattle.sc_grammar.specs.Marks.{prefix_of}
use Rattle.sc_grammar.specs.Rest.{Rest, Takes, takes}
use Rattle.sc_grammar.specs.Expressions.{IsAssign, no_assignment, assignment, IsCond, no_choice, choosing, IsBranch, branch, IsLevel, tightest, arithmetic, logic, IsUnary, prefix_operator, casting, no_prefix, IsPrimary, numeral, null_word, my_proc_word, procs_word, size_of_int, named, called, parenthesized}
use Rattle.sc_grammar.proofs.Reading.{is_given}
use Rattle.sc_grammar.proofs.ReadingExpressions.{begins_expression, begins_mark}
use Rattle.sc_grammar.proofs.Derived.{Opened, opened}

pub opened_token : {k : TokenKind → Bool} {kind : TokenKind} {d e : ℕ} {a b : Rest} → Takes kind e a b → k kind ≡ true → d ≤ e → Opened k d a
opened_token takes h le = opened h le

deeper : {k : TokenKind → Bool} {d e : ℕ} {a : Rest} → d ≤ e → Opened k e a → Opened k d a
deeper le (opened h g) = opened h (omega arith)

prefix_begins : (m : TheMark) (x : Prefix) → prefix_of m ≡ Some x → begins_mark m ≡ true
prefix_begins m x h = go m (ap is_given h)
  where
    go : (m : TheMark) → is_given (prefix_of m) ≡ true → begins_mark m ≡ true
    go marks.OpenRound e = refl
    go m e = e

mutual
  pub opened-primary : {d : ℕ} {a b : Rest} {e : Expression} → IsPrimary d a b e → Opened begins_expression d a
  opened-primary (numeral t) = opened_token t refl (omega arith)
  opened-primary (null_word t) = opened_token t refl (omega arith)
  opened-primary (my_proc_word t) = opened_token t refl (omega arith)
  opened-primary (procs_word t) = opened_token t refl (omega arith)
  opened-primary (size_of_int t u v w) = opened_token t refl (omega arith)
  opened-primary (named t) = opened_token t refl (omega arith)
  opened-primary (called t u v w) = opened_token t refl (omega arith)
  opened-primary (parenthesized t h u) = opened_token t refl (omega arith)

  pub opened-unary : {d : ℕ} {a b : Rest} {e : Expression} → IsUnary d a b e → Opened begins_expression d a
  opened-unary (prefix_operator {m = m} {x = x} h t u) = opened_token t (prefix_begins m x h) (omega arith)
  opened-unary (casting t u v w h) = opened_token t refl (omega arith)
  opened-unary (no_prefix p ts) = opened-primary p

  pub opened-level : {l d : ℕ} {a b : Rest} {e : Expression} → IsLevel l d a b e → Opened begins_expression d a
  opened-level (tightest u) = opened-unary u
  opened-level (arithmetic lt h ls) = opened-level h
  opened-level (logic le h es) = opened-level h

pub opened-cond : {d : ℕ} {a b : Rest} {e : Expression} → IsCond d a b e → Opened begins_expression d a
opened-cond (no_choice h) = opened-level h
opened-cond (choosing h t v u w) = opened-level h

pub opened-branch : {d : ℕ} {a b : Rest} {e : Expression} → IsBranch d a b e → Opened begins_expression (suc d) a
opened-branch (branch h) = opened-cond h

pub opened-assign : {d : ℕ} {a b : Rest} {e : Expression} → IsAssign d a b e → Opened begins_expression (suc d) a
opened-assign (no_assignment h) = opened-cond h
opened-assign (assignment h g t r) = opened-cond h
