-- A statement where a level of depth is left.
use Rattle.std.proofs.Common.{◌≡◌, refl, subst, ℕ, zero, suc, ◌-◌, Result, arith}
use Rattle.sc_parser.specs.declared.reader.Reader.{Reader}
use Rattle.sc_grammar.specs.declared.error.Refused.{Refused}
use Rattle.sc_tree.specs.PlainStmt.{Statement}
use Rattle.sc_parser.specs.Returned.{Gives}
use Rattle.sc_grammar.proofs.ReadingExpressions.{assigned}
use Rattle.sc_grammar.proofs.ReadingStatements.{statement, statement_by}

pub gives_statement : {X : Type 0} (view : X → Statement) (result : Result X Refused) (old new : Reader) (k : ℕ) → (k ≡ 0 → ⊥) → Gives view result old new (statement_by (assigned (k - 1)) (statement (k - 1))) → Gives view result old new (statement k)
unfolding statement
gives_statement view result old new zero some h = absurd (some refl)
gives_statement view result old new (suc k) some h =
    let one_less : suc k - 1 ≡ k = omega arith in
    subst (λ (j : ℕ). Gives view result old new (statement_by (assigned j) (statement j))) one_less h
