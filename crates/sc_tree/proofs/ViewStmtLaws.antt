-- What the plain copy of a statement is, at each variant.
use Rattle.std.proofs.Common.{◌≡◌, sym, ap, ◌∙◌, ℕ, Bool, List, Option, Some, None, map}
use Rattle.std.specs.Option.{option_map}
use Rattle.sc_tree.specs.declared.expr.Expr.{Expr}
use Rattle.sc_tree.specs.declared.stmt.Local.{Local}
use Rattle.sc_tree.specs.declared.stmt.Arm.{Arm as CodeArm, fold_out-Arm}
use Rattle.sc_tree.specs.declared.stmt.Stmt.{Stmt, fold-roll-Stmt}
use Rattle.sc_tree.specs.declared.stmt.Stmt.TheVariants as stmt
use Rattle.sc_tree.specs.PlainStmt.{block, empty, declare, simple, split, choose, choose_else, while_, do_while, for_, for_mine, return, break, continue, arm}
use Rattle.sc_tree.specs.View.{plain}
use Rattle.sc_tree.specs.ViewStmt.{plain_stmt, plain_arm, statements_of, arms_of, declared, chosen}

pub stmt-block : (all : List Stmt) → plain_stmt (stmt.Block all) ≡ block (statements_of (map plain_stmt all))
stmt-block all = ap plain_stmt (sym (stmt.rolls-Block all)) ∙ fold-roll-Stmt _ _ _ _ _

pub stmt-empty : plain_stmt stmt.Empty ≡ empty
stmt-empty = ap plain_stmt (sym stmt.rolls-Empty) ∙ fold-roll-Stmt _ _ _ _ _

pub stmt-declare : (locals : List Local) → plain_stmt (stmt.Declare locals) ≡ declare (map declared locals)
stmt-declare locals = ap plain_stmt (sym (stmt.rolls-Declare locals)) ∙ fold-roll-Stmt _ _ _ _ _

pub stmt-simple : (e : Expr) → plain_stmt (stmt.Simple e) ≡ simple (plain e)
stmt-simple e = ap plain_stmt (sym (stmt.rolls-Simple e)) ∙ fold-roll-Stmt _ _ _ _ _

pub stmt-split : (left right : Expr) (oneway : Bool) (at line : ℕ) → plain_stmt (stmt.Split left right oneway at line) ≡ split (plain left) (plain right) oneway at line
stmt-split left right oneway at line = ap plain_stmt (sym (stmt.rolls-Split left right oneway at line)) ∙ fold-roll-Stmt _ _ _ _ _

pub stmt-choose : (all : List CodeArm) → plain_stmt (stmt.If all None) ≡ choose (arms_of (map plain_arm all))
stmt-choose all = ap plain_stmt (sym (stmt.rolls-If all None)) ∙ fold-roll-Stmt _ _ _ _ _

pub stmt-choose_else : (all : List CodeArm) (rest : Stmt) → plain_stmt (stmt.If all (Some rest)) ≡ choose_else (arms_of (map plain_arm all)) (plain_stmt rest)
stmt-choose_else all rest = ap plain_stmt (sym (stmt.rolls-If all (Some rest))) ∙ fold-roll-Stmt _ _ _ _ _

pub stmt-if : (all : List CodeArm) (rest : Option Stmt) → plain_stmt (stmt.If all rest) ≡ chosen (arms_of (map plain_arm all)) (option_map plain_stmt rest)
stmt-if all None = stmt-choose all
stmt-if all (Some rest) = stmt-choose_else all rest

pub stmt-while : (test : Expr) (body : Stmt) → plain_stmt (stmt.While test body) ≡ while_ (plain test) (plain_stmt body)
stmt-while test body = ap plain_stmt (sym (stmt.rolls-While test body)) ∙ fold-roll-Stmt _ _ _ _ _

pub stmt-do_while : (body : Stmt) (test : Expr) → plain_stmt (stmt.DoWhile body test) ≡ do_while (plain_stmt body) (plain test)
stmt-do_while body test = ap plain_stmt (sym (stmt.rolls-DoWhile body test)) ∙ fold-roll-Stmt _ _ _ _ _

pub stmt-for : (first test next : Option Expr) (body : Stmt) → plain_stmt (stmt.For first test next body) ≡ for_ (option_map plain first) (option_map plain test) (option_map plain next) (plain_stmt body)
stmt-for first test next body = ap plain_stmt (sym (stmt.rolls-For first test next body)) ∙ fold-roll-Stmt _ _ _ _ _

pub stmt-for_mine : (n : ℕ) (bound : Expr) (body : Stmt) (at line : ℕ) → plain_stmt (stmt.ForMine n bound body at line) ≡ for_mine n (plain bound) (plain_stmt body) at line
stmt-for_mine n bound body at line = ap plain_stmt (sym (stmt.rolls-ForMine n bound body at line)) ∙ fold-roll-Stmt _ _ _ _ _

pub stmt-return : (value : Option Expr) (at line : ℕ) → plain_stmt (stmt.Return value at line) ≡ return (option_map plain value) at line
stmt-return value at line = ap plain_stmt (sym (stmt.rolls-Return value at line)) ∙ fold-roll-Stmt _ _ _ _ _

pub stmt-break : (at : ℕ) → plain_stmt (stmt.Break at) ≡ break at
stmt-break at = ap plain_stmt (sym (stmt.rolls-Break at)) ∙ fold-roll-Stmt _ _ _ _ _

pub stmt-continue : (at : ℕ) → plain_stmt (stmt.Continue at) ≡ continue at
stmt-continue at = ap plain_stmt (sym (stmt.rolls-Continue at)) ∙ fold-roll-Stmt _ _ _ _ _

pub arm-is : (a : CodeArm) → plain_arm a ≡ arm (plain a.test) (plain_stmt a.body)
arm-is a = fold_out-Arm _ _ _ _ a

-- for the functions that make such trees
pub ruleset statement_views = (stmt-block, stmt-empty, stmt-declare, stmt-simple, stmt-split, stmt-choose, stmt-choose_else, stmt-while, stmt-do_while, stmt-for, stmt-for_mine, stmt-return, stmt-break, stmt-continue, arm-is)
