-- What the plain copy of a typed statement is, at each variant.
use Rattle.std.proofs.Common.{◌≡◌, sym, ap, ◌∙◌, ℕ, Bool, List, Option, Some, None, map}
use Rattle.std.specs.Option.{option_map}
use Rattle.sc_tree.specs.declared.typed.Named.{Named}
use Rattle.sc_tree.specs.declared.typed.TypedExpr.{TypedExpr}
use Rattle.sc_tree.specs.declared.typed_stmt.TypedLocal.{TypedLocal}
use Rattle.sc_tree.specs.declared.typed_stmt.TypedArm.{TypedArm as CodeArm, fold_out-TypedArm}
use Rattle.sc_tree.specs.declared.typed_stmt.TypedStmt.{TypedStmt, fold-roll-TypedStmt}
use Rattle.sc_tree.specs.declared.typed_stmt.TypedStmt.TheVariants as stmt
use Rattle.sc_tree.specs.PlainTypedStmt.{block, empty, declare, simple, split, choose, choose_else, while_, do_while, for_, for_mine, return, break, continue, arm}
use Rattle.sc_tree.specs.ViewTyped.{plain_typed}
use Rattle.sc_tree.specs.ViewTypedStmt.{plain_typed_stmt, plain_typed_arm, typed_statements_of, typed_arms_of, typed_declared, typed_chosen}

pub typed_stmt-block : (all : List TypedStmt) → plain_typed_stmt (stmt.Block all) ≡ block (typed_statements_of (map plain_typed_stmt all))
typed_stmt-block all = ap plain_typed_stmt (sym (stmt.rolls-Block all)) ∙ fold-roll-TypedStmt _ _ _ _ _

pub typed_stmt-empty : plain_typed_stmt stmt.Empty ≡ empty
typed_stmt-empty = ap plain_typed_stmt (sym stmt.rolls-Empty) ∙ fold-roll-TypedStmt _ _ _ _ _

pub typed_stmt-declare : (locals : List TypedLocal) → plain_typed_stmt (stmt.Declare locals) ≡ declare (map typed_declared locals)
typed_stmt-declare locals = ap plain_typed_stmt (sym (stmt.rolls-Declare locals)) ∙ fold-roll-TypedStmt _ _ _ _ _

pub typed_stmt-simple : (e : TypedExpr) → plain_typed_stmt (stmt.Simple e) ≡ simple (plain_typed e)
typed_stmt-simple e = ap plain_typed_stmt (sym (stmt.rolls-Simple e)) ∙ fold-roll-TypedStmt _ _ _ _ _

pub typed_stmt-split : (left right : TypedExpr) (oneway : Bool) (at line : ℕ) → plain_typed_stmt (stmt.Split left right oneway at line) ≡ split (plain_typed left) (plain_typed right) oneway at line
typed_stmt-split left right oneway at line = ap plain_typed_stmt (sym (stmt.rolls-Split left right oneway at line)) ∙ fold-roll-TypedStmt _ _ _ _ _

pub typed_stmt-choose : (all : List CodeArm) → plain_typed_stmt (stmt.If all None) ≡ choose (typed_arms_of (map plain_typed_arm all))
typed_stmt-choose all = ap plain_typed_stmt (sym (stmt.rolls-If all None)) ∙ fold-roll-TypedStmt _ _ _ _ _

pub typed_stmt-choose_else : (all : List CodeArm) (rest : TypedStmt) → plain_typed_stmt (stmt.If all (Some rest)) ≡ choose_else (typed_arms_of (map plain_typed_arm all)) (plain_typed_stmt rest)
typed_stmt-choose_else all rest = ap plain_typed_stmt (sym (stmt.rolls-If all (Some rest))) ∙ fold-roll-TypedStmt _ _ _ _ _

pub typed_stmt-if : (all : List CodeArm) (rest : Option TypedStmt) → plain_typed_stmt (stmt.If all rest) ≡ typed_chosen (typed_arms_of (map plain_typed_arm all)) (option_map plain_typed_stmt rest)
typed_stmt-if all None = typed_stmt-choose all
typed_stmt-if all (Some rest) = typed_stmt-choose_else all rest

pub typed_stmt-while : (test : TypedExpr) (body : TypedStmt) → plain_typed_stmt (stmt.While test body) ≡ while_ (plain_typed test) (plain_typed_stmt body)
typed_stmt-while test body = ap plain_typed_stmt (sym (stmt.rolls-While test body)) ∙ fold-roll-TypedStmt _ _ _ _ _

pub typed_stmt-do_while : (body : TypedStmt) (test : TypedExpr) → plain_typed_stmt (stmt.DoWhile body test) ≡ do_while (plain_typed_stmt body) (plain_typed test)
typed_stmt-do_while body test = ap plain_typed_stmt (sym (stmt.rolls-DoWhile body test)) ∙ fold-roll-TypedStmt _ _ _ _ _

pub typed_stmt-for : (first test next : Option TypedExpr) (body : TypedStmt) → plain_typed_stmt (stmt.For first test next body) ≡ for_ (option_map plain_typed first) (option_map plain_typed test) (option_map plain_typed next) (plain_typed_stmt body)
typed_stmt-for first test next body = ap plain_typed_stmt (sym (stmt.rolls-For first test next body)) ∙ fold-roll-TypedStmt _ _ _ _ _

pub typed_stmt-for_mine : (n : Named) (bound : TypedExpr) (body : TypedStmt) (at line : ℕ) → plain_typed_stmt (stmt.ForMine n bound body at line) ≡ for_mine n (plain_typed bound) (plain_typed_stmt body) at line
typed_stmt-for_mine n bound body at line = ap plain_typed_stmt (sym (stmt.rolls-ForMine n bound body at line)) ∙ fold-roll-TypedStmt _ _ _ _ _

pub typed_stmt-return : (value : Option TypedExpr) (at line : ℕ) → plain_typed_stmt (stmt.Return value at line) ≡ return (option_map plain_typed value) at line
typed_stmt-return value at line = ap plain_typed_stmt (sym (stmt.rolls-Return value at line)) ∙ fold-roll-TypedStmt _ _ _ _ _

pub typed_stmt-break : (at : ℕ) → plain_typed_stmt (stmt.Break at) ≡ break at
typed_stmt-break at = ap plain_typed_stmt (sym (stmt.rolls-Break at)) ∙ fold-roll-TypedStmt _ _ _ _ _

pub typed_stmt-continue : (at : ℕ) → plain_typed_stmt (stmt.Continue at) ≡ continue at
typed_stmt-continue at = ap plain_typed_stmt (sym (stmt.rolls-Continue at)) ∙ fold-roll-TypedStmt _ _ _ _ _

pub typed_arm-is : (a : CodeArm) → plain_typed_arm a ≡ arm (plain_typed a.test) (plain_typed_stmt a.body)
typed_arm-is a = fold_out-TypedArm _ _ _ _ a

-- for the functions that make such trees
pub ruleset typed_statement_views = (typed_stmt-block, typed_stmt-empty, typed_stmt-declare, typed_stmt-simple, typed_stmt-split, typed_stmt-choose, typed_stmt-choose_else, typed_stmt-while, typed_stmt-do_while, typed_stmt-for, typed_stmt-for_mine, typed_stmt-return, typed_stmt-break, typed_stmt-continue, typed_arm-is)
