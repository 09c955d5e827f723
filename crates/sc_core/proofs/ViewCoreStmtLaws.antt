-- What the plain copy of a core statement is, at each variant.
use Rattle.std.proofs.Common.{◌≡◌, sym, ap, ◌∙◌, ℕ, Bool, List, Option, map}
use Rattle.sc_core.specs.declared.operation.Action.{Action}
use Rattle.sc_core.specs.declared.expression.CoreExpr.{CoreExpr}
use Rattle.sc_core.specs.declared.statement.CoreArm.{CoreArm, fold_out-CoreArm}
use Rattle.sc_core.specs.declared.statement.CoreStmt.{CoreStmt, fold-roll-CoreStmt}
use Rattle.sc_core.specs.declared.statement.CoreStmt.TheVariants as stmt
use Rattle.sc_core.specs.Core.{nothing, break, continue, act, loop, return}
use Rattle.sc_core.specs.View.{plain_core, arguments_of}
use Rattle.sc_core.specs.ViewStatements.{plain_does, block_of, chosen}
use Rattle.sc_core.specs.ViewParts.{plain_core_arm}

pub core_stmt-nothing : plain_does stmt.Nothing ≡ nothing
core_stmt-nothing = ap plain_does (sym stmt.rolls-Nothing) ∙ fold-roll-CoreStmt _ _ _ _ _

pub core_stmt-break : plain_does stmt.Break ≡ break
core_stmt-break = ap plain_does (sym stmt.rolls-Break) ∙ fold-roll-CoreStmt _ _ _ _ _

pub core_stmt-continue : plain_does stmt.Continue ≡ continue
core_stmt-continue = ap plain_does (sym stmt.rolls-Continue) ∙ fold-roll-CoreStmt _ _ _ _ _

pub core_stmt-block : (all : List CoreStmt) → plain_does (stmt.Block all) ≡ block_of (map plain_does all)
core_stmt-block all = ap plain_does (sym (stmt.rolls-Block all)) ∙ fold-roll-CoreStmt _ _ _ _ _

pub core_stmt-act : (action : Action) (all : List CoreExpr) (line : ℕ) → plain_does (stmt.Act action all line) ≡ act action (arguments_of (map plain_core all)) line
core_stmt-act action all line = ap plain_does (sym (stmt.rolls-Act action all line)) ∙ fold-roll-CoreStmt _ _ _ _ _

pub core_stmt-choose : (arms : List CoreArm) (rest : CoreStmt) → plain_does (stmt.Choose arms rest) ≡ chosen (map plain_core_arm arms) (plain_does rest)
core_stmt-choose arms rest = ap plain_does (sym (stmt.rolls-Choose arms rest)) ∙ fold-roll-CoreStmt _ _ _ _ _

pub core_stmt-loop : (mine : Option ℕ) (before body after : CoreStmt) → plain_does (stmt.Loop mine before body after) ≡ loop mine (plain_does before) (plain_does body) (plain_does after)
core_stmt-loop mine before body after = ap plain_does (sym (stmt.rolls-Loop mine before body after)) ∙ fold-roll-CoreStmt _ _ _ _ _

pub core_stmt-return : (value : CoreExpr) (line : ℕ) → plain_does (stmt.Return value line) ≡ return (plain_core value) line
core_stmt-return value line = ap plain_does (sym (stmt.rolls-Return value line)) ∙ fold-roll-CoreStmt _ _ _ _ _

pub core_arm-is : (a : CoreArm) → plain_core_arm a ≡ record { of_pointer = a.of_pointer; test = plain_core a.test; body = plain_does a.body }
core_arm-is a = fold_out-CoreArm _ _ _ _ a

-- for the functions that make such statements
pub ruleset core_statement_views = (core_stmt-nothing, core_stmt-break, core_stmt-continue, core_stmt-block, core_stmt-act, core_stmt-choose, core_stmt-loop, core_stmt-return, core_arm-is)
