-- Expressions are read exactly, whatever levels of depth are left.
use Rattle.std.proofs.Common.{◌+◌, ◌≡◌, ℕ, zero, suc, ◌≤◌, arith, List, Some, None}
use Rattle.sc_tree.specs.declared.token.Token.{Token}
use Rattle.sc_tree.specs.Plain.{Expression}
use Rattle.sc_grammar.specs.Rest.{Rest}
use Rattle.sc_grammar.specs.Expressions.{IsAssign, IsCond, IsBranch, branch, IsUnary}
use Rattle.sc_grammar.proofs.Reading.{Parser, no_deeper}
use Rattle.sc_grammar.proofs.ReadingExpressions.{begins_expression, cond_over, unary, assigned, branched, cond}
use Rattle.sc_grammar.proofs.Fits.{fits-wider}
use Rattle.sc_grammar.proofs.Derived.{Stands, Reads}
use Rattle.sc_grammar.proofs.Laws.{Exact, Without, extends_level, extends_cond, extends_assign, ExpressionEnds}
use Rattle.sc_grammar.proofs.UnaryRead.{exact-unary_by}
use Rattle.sc_grammar.proofs.LevelsRead.{exact-level}
use Rattle.sc_grammar.proofs.CondRead.{exact-cond_by, exact-assign_by}
use Rattle.sc_grammar.proofs.NoLevelRead.{exact-no_assign, exact-no_branch}

-- what is read so at a depth, with so many levels left
pub record AtDepth (limit k d : ℕ) : Type 0 where
  pub unary_read : Exact limit (unary k) (IsUnary d) (ExpressionEnds (extends_level 0))
  pub assigned_read : Exact limit (assigned k) (IsAssign d) (ExpressionEnds extends_assign)
  pub branched_read : Exact limit (branched k) (IsBranch d) (ExpressionEnds extends_cond)

exact_cond_over : (limit k d : ℕ) → d ≤ limit → AtDepth limit k d → Exact limit (cond_over (unary k) (assigned k) (branched k)) (IsCond d) (ExpressionEnds extends_cond)
exact_cond_over limit k d le h =
    exact-cond_by limit d le _ (assigned k) (branched k) (exact-level limit d le (unary k) h.unary_read 10) h.assigned_read h.branched_read

exact_branch : (limit d : ℕ) (p : Parser Expression) → Exact limit p (IsCond (suc d)) (ExpressionEnds extends_cond) → Exact limit p (IsBranch d) (ExpressionEnds extends_cond)
exact_branch limit d p h = record {
  local = h.local;
  consumes = h.consumes;
  fits = fits-wider (λ a b e g. branch g) h.fits;
  reads = reads;
}
  where
    reads : (ts : List Token) (a b : Rest) (e : Expression) → IsBranch d a b e → Stands ts a → Without extends_cond b → Reads limit ts a b e p
    reads ts a b e (branch g) s w = h.reads ts a b e g s w

module _ (limit : ℕ) where
  pub levels_read : (k d : ℕ) → d + k ≡ limit → AtDepth limit k d
  unfolding unary assigned branched
  levels_read zero d e =
      let value = exact-no_assign limit d (omega arith) in
      record {
        unary_read = exact-unary_by limit d (omega arith) (no_deeper begins_expression) value None (omega arith);
        assigned_read = value;
        branched_read = exact-no_branch limit d (omega arith);
      }
  levels_read (suc k) d e =
      let below = levels_read k (suc d) (omega arith) in
      let conds = exact_cond_over limit k (suc d) (omega arith) below in
      let value = exact-assign_by limit d (omega arith) _ (assigned k) conds below.assigned_read in
      record {
        unary_read = exact-unary_by limit d (omega arith) _ value (Some (unary k)) (omega arith, below.unary_read);
        assigned_read = value;
        branched_read = exact_branch limit d _ conds;
      }

  pub exact-unary : (k d : ℕ) → d + k ≡ limit → Exact limit (unary k) (IsUnary d) (ExpressionEnds (extends_level 0))
  exact-unary k d e = (levels_read k d e).unary_read

  pub exact-assigned : (k d : ℕ) → d + k ≡ limit → Exact limit (assigned k) (IsAssign d) (ExpressionEnds extends_assign)
  exact-assigned k d e = (levels_read k d e).assigned_read

  pub exact-branched : (k d : ℕ) → d + k ≡ limit → Exact limit (branched k) (IsBranch d) (ExpressionEnds extends_cond)
  exact-branched k d e = (levels_read k d e).branched_read

  pub exact-cond : (k d : ℕ) → d + k ≡ limit → Exact limit (cond k) (IsCond d) (ExpressionEnds extends_cond)
  unfolding cond
  exact-cond k d e = exact_cond_over limit k d (omega arith) (levels_read k d e)
