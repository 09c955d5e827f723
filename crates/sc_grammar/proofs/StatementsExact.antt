-- Statements and blocks are read exactly, with so many levels of depth left, where each `assign` is.
use Rattle.std.proofs.Common.{◌+◌, ◌≡◌, subst, ℕ, zero, suc, arith}
use Rattle.sc_tree.specs.declared.token.Mark.TheVariants as marks
use Rattle.sc_grammar.specs.Expressions.{IsAssign}
use Rattle.sc_grammar.specs.Statements.{IsStatement, IsBlock}
use Rattle.sc_grammar.proofs.Reading.{◌>>=◌, mark}
use Rattle.sc_grammar.proofs.ReadingExpressions.{begins_expression, assigned}
use Rattle.sc_grammar.proofs.ReadingStatements.{begins_statement, block_after, statement}
use Rattle.sc_grammar.proofs.FitsTokens.{Opens}
use Rattle.sc_grammar.proofs.Laws.{Exact, ExpressionEnds, StatementEnds, Greedy, extends_assign}
use Rattle.sc_grammar.proofs.Greedy.{greedy-no_deeper}
use Rattle.sc_grammar.proofs.BlocksRead.{exact-block}
use Rattle.sc_grammar.proofs.StatementsRead.{exact-statement_by, greedy-statement_by}
use Rattle.sc_grammar.proofs.NoStatementRead.{exact-no_statement}

module _ (limit : ℕ) (opens : (d : ℕ) → Opens (IsAssign d) begins_expression)
    (values : (k d : ℕ) → d + k ≡ limit → Exact limit (assigned k) (IsAssign d) (ExpressionEnds extends_assign)) where
  statement_laws : (k d : ℕ) → d + k ≡ limit → Exact limit (statement k) (IsStatement d) StatementEnds × Greedy (statement k)
  unfolding statement
  statement_laws zero d e =
      let i : limit ≡ d = omega arith in
      (subst (λ (j : ℕ). Exact limit (statement zero) (IsStatement j) StatementEnds) i (exact-no_statement limit (opens (suc limit))), greedy-no_deeper begins_statement)
  statement_laws (suc k) d e =
      let i : suc d + k ≡ limit = omega arith in
      let h = statement_laws k (suc d) i in
      let v = values k (suc d) i in
      (exact-statement_by limit d (omega arith) (assigned k) v (statement k) h.0 h.1, greedy-statement_by limit d (omega arith) (assigned k) v (statement k) h.0 h.1)

  pub exact-statement : (k d : ℕ) → d + k ≡ limit → Exact limit (statement k) (IsStatement d) StatementEnds
  exact-statement k d e = (statement_laws k d e).0

  pub greedy-statement : (k d : ℕ) → d + k ≡ limit → Greedy (statement k)
  greedy-statement k d e = (statement_laws k d e).1

  pub exact-block_after : (k d : ℕ) → d + k ≡ limit → Exact limit (mark marks.OpenCurly >>= λ _. block_after (assigned k) (statement k)) (IsBlock d) (λ ss b. Unit {0})
  exact-block_after k d e = exact-block limit d (omega arith) (assigned k) (values k d e) (statement k) (exact-statement k d e)
