-- What is noted of a statement without statements in it is exactly what it breaks, or an expression within it.
use Rattle.std.proofs.Common.{◌≡◌, refl, sym, subst, ℕ, Bool, true, false, List, Option, Some, None, inl, inr}
use Rattle.sc_tree.specs.Plain.{Expression}
use Rattle.sc_tree.specs.PlainStmt.{Declared, Statement, empty, declare, simple, split, return, break, continue}
use Rattle.sc_typing.specs.declared.notes.Breach.{Breach}
use Rattle.sc_typing.specs.declared.rule.Rule.{Rule}
use Rattle.sc_typing.specs.declared.rule.Rule.TheVariants as rules
use Rattle.sc_typing.specs.Scope.{Scope}
use Rattle.sc_typing.specs.Rules
use Rattle.sc_typing.specs.Statements.{Within}
use Rattle.sc_typing.proofs.StatementNotes.{note_split, split_kept, split_rule}
use Rattle.sc_typing.specs.BrokenExpressions.{breach}
use Rattle.sc_typing.specs.StatementParts.{place, InLocals, Tests, Uses, used, tested, whole}
use Rattle.sc_typing.specs.BrokenStatements.{StatementBreaks, BrokenBy, in_expression, in_part, judged_at}
use Rattle.sc_typing.proofs.Exactly.{Fails, fails, Never, Either, exact-nothing, exact-unless, exact-then, exact-as}
use Rattle.sc_typing.proofs.OperandsNoted.{Inside, Operand, Tested, OneFails, TwoFail, exact-one, exact-two}
use Rattle.sc_typing.proofs.ExpressionsNoted.{exact-value}
use Rattle.sc_typing.proofs.LocalsNoted.{By, ExactBy, InitialBreaks, SomeLocal, some_local, exact-locals}

module _ (w : Within) (looped : Bool) (from : ℕ) (s : Scope) where
  pub used_breaks : {there : Scope} {e : Expression} {it : Statement} → Uses s there e it → (b : Breach) →
      Operand w.source there.locals 0 e b → By w looped from s it b
  used_breaks u b (inl h) = in_expression (used u) h
  used_breaks u b (inr (fails f)) = BrokenBy.here (StatementBreaks.void_used u f)

  pub test_breaks : {there : Scope} {e : Expression} {it : Statement} → Tests s there e it → (b : Breach) →
      Tested w.source there.locals e b → By w looped from s it b
  test_breaks t b (inl h) = in_expression (used (tested t)) h
  test_breaks t b (inr (inl f)) = used_breaks (tested t) b (inr f)
  test_breaks t b (inr (inr (fails f))) = BrokenBy.here (StatementBreaks.test_no_scalar t f)

  -- ---- statements without parts

  pub exact-empty : ExactBy w looped from s empty
  exact-empty = exact-as (λ b h. elim h [ ]) fro exact-nothing
    where
      fro : (b : Breach) → By w looped from s empty b → Never b
      fro b (BrokenBy.here (StatementBreaks.test_no_scalar t f)) = elim t [ ]
      fro b (BrokenBy.here (StatementBreaks.void_used (tested t) f)) = elim t [ ]
      fro b (in_expression (used (tested t)) h) = elim t [ ]
      fro b (in_part i h) = elim i [ ]

  pub exact-break : (at : ℕ) → ExactBy w looped from s (break at)
  exact-break at = exact-as to fro (exact-unless (Rules.loop_kept looped) at rules.Loop)
    where
      to : (b : Breach) → Fails (Rules.loop_kept looped) at rules.Loop b → By w looped from s (break at) b
      to b (fails f) = BrokenBy.here (StatementBreaks.break_outside f)

      fro : (b : Breach) → By w looped from s (break at) b → Fails (Rules.loop_kept looped) at rules.Loop b
      fro b (BrokenBy.here (StatementBreaks.break_outside f)) = fails f
      fro b (BrokenBy.here (StatementBreaks.test_no_scalar t f)) = elim t [ ]
      fro b (BrokenBy.here (StatementBreaks.void_used (tested t) f)) = elim t [ ]
      fro b (in_expression (used (tested t)) h) = elim t [ ]
      fro b (in_part i h) = elim i [ ]

  pub exact-continue : (at : ℕ) → ExactBy w looped from s (continue at)
  exact-continue at = exact-as to fro (exact-unless (Rules.loop_kept looped) at rules.Loop)
    where
      to : (b : Breach) → Fails (Rules.loop_kept looped) at rules.Loop b → By w looped from s (continue at) b
      to b (fails f) = BrokenBy.here (StatementBreaks.continue_outside f)

      fro : (b : Breach) → By w looped from s (continue at) b → Fails (Rules.loop_kept looped) at rules.Loop b
      fro b (BrokenBy.here (StatementBreaks.continue_outside f)) = fails f
      fro b (BrokenBy.here (StatementBreaks.test_no_scalar t f)) = elim t [ ]
      fro b (BrokenBy.here (StatementBreaks.void_used (tested t) f)) = elim t [ ]
      fro b (in_expression (used (tested t)) h) = elim t [ ]
      fro b (in_part i h) = elim i [ ]

  pub exact-simple : (e : Expression) → ExactBy w looped from s (simple e)
  exact-simple e = exact-as to fro (exact-value w.source s.locals 0 e)
    where
      to : (b : Breach) → Inside w.source s.locals 0 e b → By w looped from s (simple e) b
      to b h = in_expression whole h

      fro : (b : Breach) → By w looped from s (simple e) b → Inside w.source s.locals 0 e b
      fro b (BrokenBy.here (StatementBreaks.test_no_scalar t f)) = elim t [ ]
      fro b (BrokenBy.here (StatementBreaks.void_used (tested t) f)) = elim t [ ]
      fro b (in_expression (used (tested t)) h) = elim t [ ]
      fro b (in_expression whole h) = h
      fro b (in_part i h) = elim i [ ]

  exact-return_nothing : (at line : ℕ) → ExactBy w looped from s (return None at line)
  exact-return_nothing at line = exact-as to fro (exact-unless (Rules.return_kept w.result None) at rules.Return)
    where
      to : (b : Breach) → Fails (Rules.return_kept w.result None) at rules.Return b → By w looped from s (return None at line) b
      to b (fails f) = BrokenBy.here (StatementBreaks.return_without f)

      fro : (b : Breach) → By w looped from s (return None at line) b → Fails (Rules.return_kept w.result None) at rules.Return b
      fro b (BrokenBy.here (StatementBreaks.return_without f)) = fails f
      fro b (BrokenBy.here (StatementBreaks.test_no_scalar t f)) = elim t [ ]
      fro b (BrokenBy.here (StatementBreaks.void_used (tested t) f)) = elim t [ ]
      fro b (in_expression (used (tested t)) h) = elim t [ ]
      fro b (in_part i h) = elim i [ ]

  abbrev Returned : Expression → (at : ℕ) → Breach → Type 0
  Returned e at =
      Either (Inside w.source s.locals 0 e)
      (OneFails (judged_at w s e) (Rules.return_kept w.result (Some (judged_at w s e))) at rules.Return)

  exact-return_value : (e : Expression) (at line : ℕ) → ExactBy w looped from s (return (Some e) at line)
  exact-return_value e at line =
      exact-as to fro (exact-then (exact-value w.source s.locals 0 e)
      (exact-one (judged_at w s e) (Rules.return_kept w.result (Some (judged_at w s e))) at rules.Return))
    where
      to : (b : Breach) → Returned e at b → By w looped from s (return (Some e) at line) b
      to b (inl h) = in_expression (used Uses.returned) h
      to b (inr (inl f)) = used_breaks Uses.returned b (inr f)
      to b (inr (inr (fails f))) = BrokenBy.here (StatementBreaks.return_broken f)

      fro : (b : Breach) → By w looped from s (return (Some e) at line) b → Returned e at b
      fro b (BrokenBy.here (StatementBreaks.return_broken f)) = inr (inr (fails f))
      fro b (BrokenBy.here (StatementBreaks.test_no_scalar t f)) = elim t [ ]
      fro b (BrokenBy.here (StatementBreaks.void_used (tested t) f)) = elim t [ ]
      fro b (BrokenBy.here (StatementBreaks.void_used Uses.returned f)) = inr (inl (fails f))
      fro b (in_expression (used (tested t)) h) = elim t [ ]
      fro b (in_expression (used Uses.returned) h) = inl h
      fro b (in_part i h) = elim i [ ]

  pub exact-return : (e : Option Expression) (at line : ℕ) → ExactBy w looped from s (return e at line)
  exact-return None at line = exact-return_nothing at line
  exact-return (Some e) at line = exact-return_value e at line

  abbrev Split : (left right : Expression) → (oneway : Bool) → (at : ℕ) → Breach → Type 0
  Split left right oneway at =
      Either (Either (Inside w.source s.locals 0 left) (Inside w.source s.locals 0 right))
      (TwoFail (judged_at w s left) (judged_at w s right)
      (split_kept oneway (judged_at w s left) (judged_at w s right)) at (split_rule oneway))

  split_rule_breaks : (left right : Expression) (oneway : Bool) (at line : ℕ) →
      split_kept oneway (judged_at w s left) (judged_at w s right) ≡ false →
      StatementBreaks w (place looped from s) (split left right oneway at line) (breach at (split_rule oneway))
  split_rule_breaks left right true at line f = StatementBreaks.store_broken f
  split_rule_breaks left right false at line f = StatementBreaks.get_broken f

  split_to : (left right : Expression) (oneway : Bool) (at line : ℕ) (b : Breach) → Split left right oneway at b →
      By w looped from s (split left right oneway at line) b
  split_to left right oneway at line b (inl (inl h)) = in_expression (used Uses.split_left) h
  split_to left right oneway at line b (inl (inr h)) = in_expression (used Uses.split_right) h
  split_to left right oneway at line b (inr (inl (inl f))) = used_breaks Uses.split_left b (inr f)
  split_to left right oneway at line b (inr (inl (inr f))) = used_breaks Uses.split_right b (inr f)
  split_to left right oneway at line b (inr (inr (fails f))) =
      BrokenBy.here (split_rule_breaks left right oneway at line f)

  split_fro : (left right : Expression) (oneway : Bool) (at line : ℕ) (b : Breach) →
      By w looped from s (split left right oneway at line) b → Split left right oneway at b
  split_fro left right oneway at line b (BrokenBy.here (StatementBreaks.get_broken f)) = inr (inr (fails f))
  split_fro left right oneway at line b (BrokenBy.here (StatementBreaks.store_broken f)) = inr (inr (fails f))
  split_fro left right oneway at line b (BrokenBy.here (StatementBreaks.test_no_scalar t f)) = elim t [ ]
  split_fro left right oneway at line b (BrokenBy.here (StatementBreaks.void_used (tested t) f)) = elim t [ ]
  split_fro left right oneway at line b (BrokenBy.here (StatementBreaks.void_used Uses.split_left f)) =
      inr (inl (inl (fails f)))
  split_fro left right oneway at line b (BrokenBy.here (StatementBreaks.void_used Uses.split_right f)) =
      inr (inl (inr (fails f)))
  split_fro left right oneway at line b (in_expression (used (tested t)) h) = elim t [ ]
  split_fro left right oneway at line b (in_expression (used Uses.split_left) h) = inl (inl h)
  split_fro left right oneway at line b (in_expression (used Uses.split_right) h) = inl (inr h)
  split_fro left right oneway at line b (in_part i h) = elim i [ ]

  pub exact-split : (left right : Expression) (oneway : Bool) (at line : ℕ) →
      ExactBy w looped from s (split left right oneway at line)
  unfolding note_split
  exact-split left right oneway at line =
      exact-as (split_to left right oneway at line) (split_fro left right oneway at line)
      (exact-then (exact-then (exact-value w.source s.locals 0 left) (exact-value w.source s.locals 0 right))
      (exact-two (judged_at w s left) (judged_at w s right)
      (split_kept oneway (judged_at w s left) (judged_at w s right)) at (split_rule oneway)))

  -- ---- declarations

  initial_breaks : {locals : List Declared} {there : Scope} {l : Declared} → InLocals there l s locals →
      (e : Option Expression) → l.init ≡ e →
      (b : Breach) → InitialBreaks w.source there l.ty l.at e b → By w looped from s (declare locals) b
  initial_breaks i None e b h = elim h [ ]
  initial_breaks i (Some x) e b (inl h) = in_expression (used (Uses.initial i e)) h
  initial_breaks i (Some x) e b (inr (inl f)) = used_breaks (Uses.initial i e) b (inr f)
  initial_breaks i (Some x) e b (inr (inr (fails f))) = BrokenBy.here (StatementBreaks.initial_unfit i e f)

  of_initial : {locals : List Declared} {there : Scope} {l : Declared} {e : Expression} → InLocals there l s locals →
      l.init ≡ Some e → (b : Breach) → InitialBreaks w.source there l.ty l.at (Some e) b →
      InitialBreaks w.source there l.ty l.at l.init b
  of_initial {there = there} {l = l} i e b h =
      subst (λ (o : Option Expression). InitialBreaks w.source there l.ty l.at o b) (sym e) h

  declare_to : (locals : List Declared) (b : Breach) → SomeLocal w.source from s locals b →
      By w looped from s (declare locals) b
  declare_to locals b (some_local {l = l} i (inl h)) = initial_breaks i l.init refl b h
  declare_to locals b (some_local i (inr (inl (fails f)))) = BrokenBy.here (StatementBreaks.declared_twice i f)
  declare_to locals b (some_local i (inr (inr (fails f)))) = BrokenBy.here (StatementBreaks.library_declared i f)

  declare_fro : (locals : List Declared) (b : Breach) → By w looped from s (declare locals) b →
      SomeLocal w.source from s locals b
  declare_fro locals b (BrokenBy.here (StatementBreaks.declared_twice i f)) = some_local i (inr (inl (fails f)))
  declare_fro locals b (BrokenBy.here (StatementBreaks.library_declared i f)) = some_local i (inr (inr (fails f)))
  declare_fro locals b (BrokenBy.here (StatementBreaks.initial_unfit i e f)) =
      some_local i (inl (of_initial i e _ (inr (inr (fails f)))))
  declare_fro locals b (BrokenBy.here (StatementBreaks.test_no_scalar t f)) = elim t [ ]
  declare_fro locals b (BrokenBy.here (StatementBreaks.void_used (tested t) f)) = elim t [ ]
  declare_fro locals b (BrokenBy.here (StatementBreaks.void_used (Uses.initial i e) f)) =
      some_local i (inl (of_initial i e _ (inr (inl (fails f)))))
  declare_fro locals b (in_expression (used (tested t)) h) = elim t [ ]
  declare_fro locals b (in_expression (used (Uses.initial i e)) h) = some_local i (inl (of_initial i e _ (inl h)))
  declare_fro locals b (in_part i h) = elim i [ ]

  pub exact-declare : (locals : List Declared) → ExactBy w looped from s (declare locals)
  exact-declare locals = exact-as (declare_to locals) (declare_fro locals) (exact-locals w.source from s locals)
