-- What the plain copy of an expression is, at each variant.
use Rattle.std.proofs.Common.{◌≡◌, sym, ap, ◌∙◌, ℕ, ℤ, Bool, List, Option, map}
use Rattle.sc_base.specs.declared.operator.Binary.{Binary}
use Rattle.sc_base.specs.declared.operator.Unary.{Unary}
use Rattle.sc_base.specs.declared.shape.Star.{Star}
use Rattle.sc_tree.specs.declared.expr.Expr.{Expr, fold_out-Expr}
use Rattle.sc_tree.specs.declared.expr.Link.{Link as CodeLink, fold_out-Link}
use Rattle.sc_tree.specs.declared.expr.Tail.{Tail as CodeTail, fold-roll-Tail}
use Rattle.sc_tree.specs.declared.expr.Tail.TheVariants as tail
use Rattle.sc_tree.specs.declared.expr.ExprKind.{fold-roll-ExprKind}
use Rattle.sc_tree.specs.declared.expr.ExprKind.TheVariants as kind
use Rattle.sc_tree.specs.Plain.{expression, number, null, my_proc, procs, size_int, name, format, chain, both, either, choice, assign, step, plus, prefix, deref, address, cast, postfix, call, link, index, up, down}
use Rattle.sc_tree.specs.View.{plain, plain_kind, plain_link, plain_tail, expressions_of, links_of, tails_of}

pub kind-number : (n : ℤ) → plain_kind (kind.Number n) ≡ number n
kind-number n = ap plain_kind (sym (kind.rolls-Number n)) ∙ fold-roll-ExprKind _ _ _ _ _ _ _ _ _

pub kind-null : plain_kind kind.Null ≡ null
kind-null = ap plain_kind (sym kind.rolls-Null) ∙ fold-roll-ExprKind _ _ _ _ _ _ _ _ _

pub kind-my_proc : plain_kind kind.MyProc ≡ my_proc
kind-my_proc = ap plain_kind (sym kind.rolls-MyProc) ∙ fold-roll-ExprKind _ _ _ _ _ _ _ _ _

pub kind-procs : plain_kind kind.Procs ≡ procs
kind-procs = ap plain_kind (sym kind.rolls-Procs) ∙ fold-roll-ExprKind _ _ _ _ _ _ _ _ _

pub kind-size_int : plain_kind kind.SizeInt ≡ size_int
kind-size_int = ap plain_kind (sym kind.rolls-SizeInt) ∙ fold-roll-ExprKind _ _ _ _ _ _ _ _ _

pub kind-name : (n : ℕ) → plain_kind (kind.Name n) ≡ name n
kind-name n = ap plain_kind (sym (kind.rolls-Name n)) ∙ fold-roll-ExprKind _ _ _ _ _ _ _ _ _

pub kind-format : (n : ℕ) → plain_kind (kind.Format n) ≡ format n
kind-format n = ap plain_kind (sym (kind.rolls-Format n)) ∙ fold-roll-ExprKind _ _ _ _ _ _ _ _ _

pub kind-chain : (first : Expr) (rest : List CodeLink) → plain_kind (kind.Chain first rest) ≡ chain (plain first) (links_of (map plain_link rest))
kind-chain first rest = ap plain_kind (sym (kind.rolls-Chain first rest)) ∙ fold-roll-ExprKind _ _ _ _ _ _ _ _ _

pub kind-and : (all : List Expr) → plain_kind (kind.And all) ≡ both (expressions_of (map plain all))
kind-and all = ap plain_kind (sym (kind.rolls-And all)) ∙ fold-roll-ExprKind _ _ _ _ _ _ _ _ _

pub kind-or : (all : List Expr) → plain_kind (kind.Or all) ≡ either (expressions_of (map plain all))
kind-or all = ap plain_kind (sym (kind.rolls-Or all)) ∙ fold-roll-ExprKind _ _ _ _ _ _ _ _ _

pub kind-cond : (test on off : Expr) → plain_kind (kind.Cond test on off) ≡ choice (plain test) (plain on) (plain off)
kind-cond test on off = ap plain_kind (sym (kind.rolls-Cond test on off)) ∙ fold-roll-ExprKind _ _ _ _ _ _ _ _ _

pub kind-assign : (op : Option Binary) (left right : Expr) → plain_kind (kind.Assign op left right) ≡ assign op (plain left) (plain right)
kind-assign op left right = ap plain_kind (sym (kind.rolls-Assign op left right)) ∙ fold-roll-ExprKind _ _ _ _ _ _ _ _ _

pub kind-step : (is_up : Bool) (place : Expr) → plain_kind (kind.Step is_up place) ≡ step is_up (plain place)
kind-step is_up place = ap plain_kind (sym (kind.rolls-Step is_up place)) ∙ fold-roll-ExprKind _ _ _ _ _ _ _ _ _

pub kind-plus : (e : Expr) → plain_kind (kind.Plus e) ≡ plus (plain e)
kind-plus e = ap plain_kind (sym (kind.rolls-Plus e)) ∙ fold-roll-ExprKind _ _ _ _ _ _ _ _ _

pub kind-prefix : (op : Unary) (e : Expr) → plain_kind (kind.Prefix op e) ≡ prefix op (plain e)
kind-prefix op e = ap plain_kind (sym (kind.rolls-Prefix op e)) ∙ fold-roll-ExprKind _ _ _ _ _ _ _ _ _

pub kind-deref : (e : Expr) → plain_kind (kind.Deref e) ≡ deref (plain e)
kind-deref e = ap plain_kind (sym (kind.rolls-Deref e)) ∙ fold-roll-ExprKind _ _ _ _ _ _ _ _ _

pub kind-address : (e : Expr) → plain_kind (kind.Address e) ≡ address (plain e)
kind-address e = ap plain_kind (sym (kind.rolls-Address e)) ∙ fold-roll-ExprKind _ _ _ _ _ _ _ _ _

pub kind-cast : (stars : List Star) (e : Expr) → plain_kind (kind.Cast stars e) ≡ cast stars (plain e)
kind-cast stars e = ap plain_kind (sym (kind.rolls-Cast stars e)) ∙ fold-roll-ExprKind _ _ _ _ _ _ _ _ _

pub kind-postfix : (first : Expr) (rest : List CodeTail) → plain_kind (kind.Postfix first rest) ≡ postfix (plain first) (tails_of (map plain_tail rest))
kind-postfix first rest = ap plain_kind (sym (kind.rolls-Postfix first rest)) ∙ fold-roll-ExprKind _ _ _ _ _ _ _ _ _

pub kind-call : (n : ℕ) (args : List Expr) → plain_kind (kind.Call n args) ≡ call n (expressions_of (map plain args))
kind-call n args = ap plain_kind (sym (kind.rolls-Call n args)) ∙ fold-roll-ExprKind _ _ _ _ _ _ _ _ _

pub tail-index : (e : Expr) (at line : ℕ) → plain_tail (tail.Index e at line) ≡ index (plain e) at line
tail-index e at line = ap plain_tail (sym (tail.rolls-Index e at line)) ∙ fold-roll-Tail _ _ _ _ _ _ _ _ _

pub tail-up : (at line : ℕ) → plain_tail (tail.Up at line) ≡ up at line
tail-up at line = ap plain_tail (sym (tail.rolls-Up at line)) ∙ fold-roll-Tail _ _ _ _ _ _ _ _ _

pub tail-down : (at line : ℕ) → plain_tail (tail.Down at line) ≡ down at line
tail-down at line = ap plain_tail (sym (tail.rolls-Down at line)) ∙ fold-roll-Tail _ _ _ _ _ _ _ _ _

pub expr-is : (e : Expr) → plain e ≡ expression (plain_kind e.kind) e.start e.at e.line
expr-is e = fold_out-Expr _ _ _ _ _ _ _ _ e

pub link-is : (l : CodeLink) → plain_link l ≡ link l.op (plain l.e) l.at l.line
link-is l = fold_out-Link _ _ _ _ _ _ _ _ l

-- for the functions that make such trees
pub ruleset expression_views = (kind-number, kind-null, kind-my_proc, kind-procs, kind-size_int, kind-name, kind-format, kind-chain, kind-and, kind-or, kind-cond, kind-assign, kind-step, kind-plus, kind-prefix, kind-deref, kind-address, kind-cast, kind-postfix, kind-call, tail-index, tail-up, tail-down, expr-is, link-is)
