-- What the plain copy of a typed expression is, at each variant.
use Rattle.std.proofs.Common.{◌≡◌, sym, ap, ◌∙◌, ℕ, ℤ, Bool, List, Option, map}
use Rattle.sc_base.specs.declared.operator.Binary.{Binary}
use Rattle.sc_base.specs.declared.operator.Unary.{Unary}
use Rattle.sc_base.specs.declared.shape.Star.{Star}
use Rattle.sc_base.specs.declared.shape.Ty.{Ty}
use Rattle.sc_tree.specs.declared.typed.Named.{Named}
use Rattle.sc_tree.specs.declared.typed.TypedExpr.{TypedExpr, fold_out-TypedExpr}
use Rattle.sc_tree.specs.declared.typed.TypedLink.{TypedLink as CodeLink, fold_out-TypedLink}
use Rattle.sc_tree.specs.declared.typed.TypedTail.{TypedTail as CodeTail, fold-roll-TypedTail}
use Rattle.sc_tree.specs.declared.typed.TypedTail.TheVariants as tail
use Rattle.sc_tree.specs.declared.typed.TypedKind.{fold-roll-TypedKind}
use Rattle.sc_tree.specs.declared.typed.TypedKind.TheVariants as kind
use Rattle.sc_tree.specs.PlainTyped.{typed_expression, number, null, my_proc, procs, size_int, name, format, chain, both, either, choice, assign, step, plus, prefix, deref, address, cast, postfix, call, convert, printf, sync, barrier, all_store_sync, to_global, to_proc, to_local, bulk_read, bulk_write, bulk_get, bulk_put, bulk_store, link, index, up, down}
use Rattle.sc_tree.specs.ViewTyped.{plain_typed, plain_typed_kind, plain_typed_link, plain_typed_tail, typed_expressions_of, typed_links_of, typed_tails_of}

pub typed_kind-number : (n : ℤ) → plain_typed_kind (kind.Number n) ≡ number n
typed_kind-number n = ap plain_typed_kind (sym (kind.rolls-Number n)) ∙ fold-roll-TypedKind _ _ _ _ _ _ _ _ _

pub typed_kind-null : plain_typed_kind kind.Null ≡ null
typed_kind-null = ap plain_typed_kind (sym kind.rolls-Null) ∙ fold-roll-TypedKind _ _ _ _ _ _ _ _ _

pub typed_kind-my_proc : plain_typed_kind kind.MyProc ≡ my_proc
typed_kind-my_proc = ap plain_typed_kind (sym kind.rolls-MyProc) ∙ fold-roll-TypedKind _ _ _ _ _ _ _ _ _

pub typed_kind-procs : plain_typed_kind kind.Procs ≡ procs
typed_kind-procs = ap plain_typed_kind (sym kind.rolls-Procs) ∙ fold-roll-TypedKind _ _ _ _ _ _ _ _ _

pub typed_kind-size_int : plain_typed_kind kind.SizeInt ≡ size_int
typed_kind-size_int = ap plain_typed_kind (sym kind.rolls-SizeInt) ∙ fold-roll-TypedKind _ _ _ _ _ _ _ _ _

pub typed_kind-name : (n : Named) → plain_typed_kind (kind.Name n) ≡ name n
typed_kind-name n = ap plain_typed_kind (sym (kind.rolls-Name n)) ∙ fold-roll-TypedKind _ _ _ _ _ _ _ _ _

pub typed_kind-format : (n : ℕ) → plain_typed_kind (kind.Format n) ≡ format n
typed_kind-format n = ap plain_typed_kind (sym (kind.rolls-Format n)) ∙ fold-roll-TypedKind _ _ _ _ _ _ _ _ _

pub typed_kind-chain : (first : TypedExpr) (rest : List CodeLink) → plain_typed_kind (kind.Chain first rest) ≡ chain (plain_typed first) (typed_links_of (map plain_typed_link rest))
typed_kind-chain first rest = ap plain_typed_kind (sym (kind.rolls-Chain first rest)) ∙ fold-roll-TypedKind _ _ _ _ _ _ _ _ _

pub typed_kind-and : (all : List TypedExpr) → plain_typed_kind (kind.And all) ≡ both (typed_expressions_of (map plain_typed all))
typed_kind-and all = ap plain_typed_kind (sym (kind.rolls-And all)) ∙ fold-roll-TypedKind _ _ _ _ _ _ _ _ _

pub typed_kind-or : (all : List TypedExpr) → plain_typed_kind (kind.Or all) ≡ either (typed_expressions_of (map plain_typed all))
typed_kind-or all = ap plain_typed_kind (sym (kind.rolls-Or all)) ∙ fold-roll-TypedKind _ _ _ _ _ _ _ _ _

pub typed_kind-cond : (test on off : TypedExpr) → plain_typed_kind (kind.Cond test on off) ≡ choice (plain_typed test) (plain_typed on) (plain_typed off)
typed_kind-cond test on off = ap plain_typed_kind (sym (kind.rolls-Cond test on off)) ∙ fold-roll-TypedKind _ _ _ _ _ _ _ _ _

pub typed_kind-assign : (op : Option Binary) (left right : TypedExpr) → plain_typed_kind (kind.Assign op left right) ≡ assign op (plain_typed left) (plain_typed right)
typed_kind-assign op left right = ap plain_typed_kind (sym (kind.rolls-Assign op left right)) ∙ fold-roll-TypedKind _ _ _ _ _ _ _ _ _

pub typed_kind-step : (is_up : Bool) (place : TypedExpr) → plain_typed_kind (kind.Step is_up place) ≡ step is_up (plain_typed place)
typed_kind-step is_up place = ap plain_typed_kind (sym (kind.rolls-Step is_up place)) ∙ fold-roll-TypedKind _ _ _ _ _ _ _ _ _

pub typed_kind-plus : (e : TypedExpr) → plain_typed_kind (kind.Plus e) ≡ plus (plain_typed e)
typed_kind-plus e = ap plain_typed_kind (sym (kind.rolls-Plus e)) ∙ fold-roll-TypedKind _ _ _ _ _ _ _ _ _

pub typed_kind-prefix : (op : Unary) (e : TypedExpr) → plain_typed_kind (kind.Prefix op e) ≡ prefix op (plain_typed e)
typed_kind-prefix op e = ap plain_typed_kind (sym (kind.rolls-Prefix op e)) ∙ fold-roll-TypedKind _ _ _ _ _ _ _ _ _

pub typed_kind-deref : (e : TypedExpr) → plain_typed_kind (kind.Deref e) ≡ deref (plain_typed e)
typed_kind-deref e = ap plain_typed_kind (sym (kind.rolls-Deref e)) ∙ fold-roll-TypedKind _ _ _ _ _ _ _ _ _

pub typed_kind-address : (e : TypedExpr) → plain_typed_kind (kind.Address e) ≡ address (plain_typed e)
typed_kind-address e = ap plain_typed_kind (sym (kind.rolls-Address e)) ∙ fold-roll-TypedKind _ _ _ _ _ _ _ _ _

pub typed_kind-cast : (stars : List Star) (e : TypedExpr) → plain_typed_kind (kind.Cast stars e) ≡ cast stars (plain_typed e)
typed_kind-cast stars e = ap plain_typed_kind (sym (kind.rolls-Cast stars e)) ∙ fold-roll-TypedKind _ _ _ _ _ _ _ _ _

pub typed_kind-postfix : (first : TypedExpr) (rest : List CodeTail) → plain_typed_kind (kind.Postfix first rest) ≡ postfix (plain_typed first) (typed_tails_of (map plain_typed_tail rest))
typed_kind-postfix first rest = ap plain_typed_kind (sym (kind.rolls-Postfix first rest)) ∙ fold-roll-TypedKind _ _ _ _ _ _ _ _ _

pub typed_kind-call : (n : Named) (args : List TypedExpr) → plain_typed_kind (kind.Call n args) ≡ call n (typed_expressions_of (map plain_typed args))
typed_kind-call n args = ap plain_typed_kind (sym (kind.rolls-Call n args)) ∙ fold-roll-TypedKind _ _ _ _ _ _ _ _ _

pub typed_kind-convert : (ty : Ty) (e : TypedExpr) → plain_typed_kind (kind.Convert ty e) ≡ convert ty (plain_typed e)
typed_kind-convert ty e = ap plain_typed_kind (sym (kind.rolls-Convert ty e)) ∙ fold-roll-TypedKind _ _ _ _ _ _ _ _ _

pub typed_kind-printf : (n : ℕ) (args : List TypedExpr) → plain_typed_kind (kind.Printf n args) ≡ printf n (typed_expressions_of (map plain_typed args))
typed_kind-printf n args = ap plain_typed_kind (sym (kind.rolls-Printf n args)) ∙ fold-roll-TypedKind _ _ _ _ _ _ _ _ _

pub typed_kind-sync : plain_typed_kind kind.Sync ≡ sync
typed_kind-sync = ap plain_typed_kind (sym kind.rolls-Sync) ∙ fold-roll-TypedKind _ _ _ _ _ _ _ _ _

pub typed_kind-barrier : plain_typed_kind kind.Barrier ≡ barrier
typed_kind-barrier = ap plain_typed_kind (sym kind.rolls-Barrier) ∙ fold-roll-TypedKind _ _ _ _ _ _ _ _ _

pub typed_kind-all_store_sync : plain_typed_kind kind.AllStoreSync ≡ all_store_sync
typed_kind-all_store_sync = ap plain_typed_kind (sym kind.rolls-AllStoreSync) ∙ fold-roll-TypedKind _ _ _ _ _ _ _ _ _

pub typed_kind-to_global : (node e : TypedExpr) → plain_typed_kind (kind.ToGlobal node e) ≡ to_global (plain_typed node) (plain_typed e)
typed_kind-to_global node e = ap plain_typed_kind (sym (kind.rolls-ToGlobal node e)) ∙ fold-roll-TypedKind _ _ _ _ _ _ _ _ _

pub typed_kind-to_proc : (e : TypedExpr) → plain_typed_kind (kind.ToProc e) ≡ to_proc (plain_typed e)
typed_kind-to_proc e = ap plain_typed_kind (sym (kind.rolls-ToProc e)) ∙ fold-roll-TypedKind _ _ _ _ _ _ _ _ _

pub typed_kind-to_local : (e : TypedExpr) → plain_typed_kind (kind.ToLocal e) ≡ to_local (plain_typed e)
typed_kind-to_local e = ap plain_typed_kind (sym (kind.rolls-ToLocal e)) ∙ fold-roll-TypedKind _ _ _ _ _ _ _ _ _

pub typed_kind-bulk_read : (to from bytes : TypedExpr) → plain_typed_kind (kind.BulkRead to from bytes) ≡ bulk_read (plain_typed to) (plain_typed from) (plain_typed bytes)
typed_kind-bulk_read to from bytes = ap plain_typed_kind (sym (kind.rolls-BulkRead to from bytes)) ∙ fold-roll-TypedKind _ _ _ _ _ _ _ _ _

pub typed_kind-bulk_write : (to from bytes : TypedExpr) → plain_typed_kind (kind.BulkWrite to from bytes) ≡ bulk_write (plain_typed to) (plain_typed from) (plain_typed bytes)
typed_kind-bulk_write to from bytes = ap plain_typed_kind (sym (kind.rolls-BulkWrite to from bytes)) ∙ fold-roll-TypedKind _ _ _ _ _ _ _ _ _

pub typed_kind-bulk_get : (to from bytes : TypedExpr) → plain_typed_kind (kind.BulkGet to from bytes) ≡ bulk_get (plain_typed to) (plain_typed from) (plain_typed bytes)
typed_kind-bulk_get to from bytes = ap plain_typed_kind (sym (kind.rolls-BulkGet to from bytes)) ∙ fold-roll-TypedKind _ _ _ _ _ _ _ _ _

pub typed_kind-bulk_put : (to from bytes : TypedExpr) → plain_typed_kind (kind.BulkPut to from bytes) ≡ bulk_put (plain_typed to) (plain_typed from) (plain_typed bytes)
typed_kind-bulk_put to from bytes = ap plain_typed_kind (sym (kind.rolls-BulkPut to from bytes)) ∙ fold-roll-TypedKind _ _ _ _ _ _ _ _ _

pub typed_kind-bulk_store : (to from bytes : TypedExpr) → plain_typed_kind (kind.BulkStore to from bytes) ≡ bulk_store (plain_typed to) (plain_typed from) (plain_typed bytes)
typed_kind-bulk_store to from bytes = ap plain_typed_kind (sym (kind.rolls-BulkStore to from bytes)) ∙ fold-roll-TypedKind _ _ _ _ _ _ _ _ _

pub typed_tail-index : (e : TypedExpr) (at line : ℕ) → plain_typed_tail (tail.Index e at line) ≡ index (plain_typed e) at line
typed_tail-index e at line = ap plain_typed_tail (sym (tail.rolls-Index e at line)) ∙ fold-roll-TypedTail _ _ _ _ _ _ _ _ _

pub typed_tail-up : (at line : ℕ) → plain_typed_tail (tail.Up at line) ≡ up at line
typed_tail-up at line = ap plain_typed_tail (sym (tail.rolls-Up at line)) ∙ fold-roll-TypedTail _ _ _ _ _ _ _ _ _

pub typed_tail-down : (at line : ℕ) → plain_typed_tail (tail.Down at line) ≡ down at line
typed_tail-down at line = ap plain_typed_tail (sym (tail.rolls-Down at line)) ∙ fold-roll-TypedTail _ _ _ _ _ _ _ _ _

pub typed_expr-is : (e : TypedExpr) → plain_typed e ≡ typed_expression (plain_typed_kind e.kind) e.ty e.start e.at e.line
typed_expr-is e = fold_out-TypedExpr _ _ _ _ _ _ _ _ e

pub typed_link-is : (l : CodeLink) → plain_typed_link l ≡ link l.op (plain_typed l.e) l.at l.line
typed_link-is l = fold_out-TypedLink _ _ _ _ _ _ _ _ l

-- for the functions that make such trees
pub ruleset typed_expression_views = (typed_kind-number, typed_kind-null, typed_kind-my_proc, typed_kind-procs, typed_kind-size_int, typed_kind-name, typed_kind-format, typed_kind-chain, typed_kind-and, typed_kind-or, typed_kind-cond, typed_kind-assign, typed_kind-step, typed_kind-plus, typed_kind-prefix, typed_kind-deref, typed_kind-address, typed_kind-cast, typed_kind-postfix, typed_kind-call, typed_kind-convert, typed_kind-printf, typed_kind-sync, typed_kind-barrier, typed_kind-all_store_sync, typed_kind-to_global, typed_kind-to_proc, typed_kind-to_local, typed_kind-bulk_read, typed_kind-bulk_write, typed_kind-bulk_get, typed_kind-bulk_put, typed_kind-bulk_store, typed_tail-index, typed_tail-up, typed_tail-down, typed_expr-is, typed_link-is)
