-- What is noted of a statement is exactly what it breaks, or an expression or a statement within it.
use Rattle.std.proofs.Common.{ℕ, Bool, true, Option, Some, None, inl, inr}
use Rattle.sc_tree.specs.Plain.{Expression, name}
use Rattle.sc_tree.specs.PlainStmt.{Statement, block, empty, declare, simple, split, choose, choose_else, while_}
use Rattle.sc_tree.specs.PlainStmt.{do_while, for_, for_mine, return, break, continue, Statements, no_statements}
use Rattle.sc_tree.specs.PlainStmt.{statements, arm, Arms, no_arms, arms}
use Rattle.sc_typing.specs.declared.notes.Breach.{Breach}
use Rattle.sc_typing.specs.declared.rule.Rule.{Rule}
use Rattle.sc_typing.specs.declared.rule.Rule.TheVariants as rules
use Rattle.sc_typing.specs.Scope.{Scope, depth}
use Rattle.sc_typing.specs.Rules
use Rattle.sc_typing.specs.Naming.{named}
use Rattle.sc_typing.specs.Statements.{Within, after, after_arms}
use Rattle.sc_typing.specs.Known.{spot_at}
use Rattle.sc_typing.proofs.StatementNotes.{note_turns, note_bound, note_all, note_arms}
use Rattle.sc_typing.specs.BrokenExpressions.{Breaks}
use Rattle.sc_typing.specs.StatementParts.{IsPart, Tests, Uses, used, tested}
use Rattle.sc_typing.specs.BrokenStatements.{StatementBreaks, BrokenBy, in_expression, in_part, judged_at}
use Rattle.sc_typing.proofs.Exactly.{Exact, Fails, fails, Either, exact-unless, exact-then, exact-as}
use Rattle.sc_typing.proofs.OperandsNoted.{Inside, Tested, OneFails, exact-one}
use Rattle.sc_typing.proofs.NamesNoted.{exact-name_alone}
use Rattle.sc_typing.proofs.ExpressionsNoted.{exact-value}
use Rattle.sc_typing.proofs.LocalsNoted.{By, ExactBy, UsedIf, TestedIf, exact-test, exact-used_if, exact-test_if}
use Rattle.sc_typing.proofs.LocalsNoted.{SomeStatement, some_statement, exact-no_statements, exact-next_statement}
use Rattle.sc_typing.proofs.LocalsNoted.{SomeArm, some_arm, exact-no_arms, exact-next_arm}
use Rattle.sc_typing.proofs.SimpleNoted as alone

module _ (w : Within) (looped : Bool) (from : ℕ) (s : Scope) where
  -- ---- blocks

  exact-block : (all : Statements) →
      Exact (note_all w looped (depth s) s all) (SomeStatement w looped (depth s) s all) →
      ExactBy w looped from s (block all)
  exact-block all p = exact-as to fro p
    where
      to : (b : Breach) → SomeStatement w looped (depth s) s all b → By w looped from s (block all) b
      to b (some_statement i h) = in_part (IsPart.of_block i) h

      fro : (b : Breach) → By w looped from s (block all) b → SomeStatement w looped (depth s) s all b
      fro b (BrokenBy.here (StatementBreaks.test_no_scalar t f)) = elim t [ ]
      fro b (BrokenBy.here (StatementBreaks.void_used (tested t) f)) = elim t [ ]
      fro b (in_expression (used (tested t)) h) = elim t [ ]
      fro b (in_part (IsPart.of_block i) h) = some_statement i h

  -- ---- `if`

  exact-choose : (all : Arms) → Exact (note_arms w looped from s all) (SomeArm w looped from s all) →
      ExactBy w looped from s (choose all)
  exact-choose all p = exact-as to fro p
    where
      to : (b : Breach) → SomeArm w looped from s all b → By w looped from s (choose all) b
      to b (some_arm i (inl h)) = alone.test_breaks w looped from s (Tests.of_arm i) b h
      to b (some_arm i (inr h)) = in_part (IsPart.of_arm i) h

      fro : (b : Breach) → By w looped from s (choose all) b → SomeArm w looped from s all b
      fro b (BrokenBy.here (StatementBreaks.test_no_scalar (Tests.of_arm i) f)) = some_arm i (inl (inr (inr (fails f))))
      fro b (BrokenBy.here (StatementBreaks.void_used (tested (Tests.of_arm i)) f)) =
          some_arm i (inl (inr (inl (fails f))))
      fro b (in_expression (used (tested (Tests.of_arm i))) h) = some_arm i (inl (inl h))
      fro b (in_part (IsPart.of_arm i) h) = some_arm i (inr h)

  abbrev ElseBreaks : Arms → Statement → Breach → Type 0
  ElseBreaks all rest = Either (SomeArm w looped from s all) (By w looped from (after_arms s all) rest)

  exact-choose_else : (all : Arms) (rest : Statement) →
      Exact (note_arms w looped from s all) (SomeArm w looped from s all) →
      ExactBy w looped from (after_arms s all) rest →
      ExactBy w looped from s (choose_else all rest)
  exact-choose_else all rest p q = exact-as to fro (exact-then p q)
    where
      to : (b : Breach) → ElseBreaks all rest b → By w looped from s (choose_else all rest) b
      to b (inl (some_arm i (inl h))) = alone.test_breaks w looped from s (Tests.of_arm_else i) b h
      to b (inl (some_arm i (inr h))) = in_part (IsPart.of_arm_else i) h
      to b (inr h) = in_part IsPart.of_else h

      fro : (b : Breach) → By w looped from s (choose_else all rest) b → ElseBreaks all rest b
      fro b (BrokenBy.here (StatementBreaks.test_no_scalar (Tests.of_arm_else i) f)) =
          inl (some_arm i (inl (inr (inr (fails f)))))
      fro b (BrokenBy.here (StatementBreaks.void_used (tested (Tests.of_arm_else i)) f)) =
          inl (some_arm i (inl (inr (inl (fails f)))))
      fro b (in_expression (used (tested (Tests.of_arm_else i))) h) = inl (some_arm i (inl (inl h)))
      fro b (in_part (IsPart.of_arm_else i) h) = inl (some_arm i (inr h))
      fro b (in_part IsPart.of_else h) = inr h

  -- ---- loops

  exact-while : (test : Expression) (body : Statement) → ExactBy w true from s body →
      ExactBy w looped from s (while_ test body)
  exact-while test body p = exact-as to fro (exact-then (exact-test w.source s test) p)
    where
      to : (b : Breach) → Either (Tested w.source s.locals test) (By w true from s body) b →
          By w looped from s (while_ test body) b
      to b (inl h) = alone.test_breaks w looped from s Tests.of_while b h
      to b (inr h) = in_part IsPart.of_while h

      fro : (b : Breach) → By w looped from s (while_ test body) b →
          Either (Tested w.source s.locals test) (By w true from s body) b
      fro b (BrokenBy.here (StatementBreaks.test_no_scalar Tests.of_while f)) = inl (inr (inr (fails f)))
      fro b (BrokenBy.here (StatementBreaks.void_used (tested Tests.of_while) f)) = inl (inr (inl (fails f)))
      fro b (in_expression (used (tested Tests.of_while)) h) = inl (inl h)
      fro b (in_part IsPart.of_while h) = inr h

  exact-do : (body : Statement) (test : Expression) → ExactBy w true from s body →
      ExactBy w looped from s (do_while body test)
  exact-do body test p = exact-as to fro (exact-then p (exact-test w.source (after s body) test))
    where
      to : (b : Breach) → Either (By w true from s body) (Tested w.source (after s body).locals test) b →
          By w looped from s (do_while body test) b
      to b (inl h) = in_part IsPart.of_do h
      to b (inr h) = alone.test_breaks w looped from s Tests.of_do b h

      fro : (b : Breach) → By w looped from s (do_while body test) b →
          Either (By w true from s body) (Tested w.source (after s body).locals test) b
      fro b (BrokenBy.here (StatementBreaks.test_no_scalar Tests.of_do f)) = inr (inr (inr (fails f)))
      fro b (BrokenBy.here (StatementBreaks.void_used (tested Tests.of_do) f)) = inr (inr (inl (fails f)))
      fro b (in_expression (used (tested Tests.of_do)) h) = inr (inl h)
      fro b (in_part IsPart.of_do h) = inl h

  abbrev Headed : (first test next : Option Expression) → Statement → Breach → Type 0
  Headed first test next body =
      Either (Either (Either (UsedIf w.source s first) (TestedIf w.source s test)) (UsedIf w.source s next))
      (By w true from s body)

  for_to : (first test next : Option Expression) (body : Statement) (b : Breach) → Headed first test next body b →
      By w looped from s (for_ first test next body) b
  for_to None test next body b (inl (inl (inl h))) = elim h [ ]
  for_to (Some e) test next body b (inl (inl (inl h))) = alone.used_breaks w looped from s Uses.for_first b h
  for_to first None next body b (inl (inl (inr h))) = elim h [ ]
  for_to first (Some e) next body b (inl (inl (inr h))) = alone.test_breaks w looped from s Tests.of_for b h
  for_to first test None body b (inl (inr h)) = elim h [ ]
  for_to first test (Some e) body b (inl (inr h)) = alone.used_breaks w looped from s Uses.for_next b h
  for_to first test next body b (inr h) = in_part IsPart.of_for h

  for_fro : (first test next : Option Expression) (body : Statement) (b : Breach) →
      By w looped from s (for_ first test next body) b → Headed first test next body b
  for_fro first test next body b (BrokenBy.here (StatementBreaks.test_no_scalar Tests.of_for f)) =
      inl (inl (inr (inr (inr (fails f)))))
  for_fro first test next body b (BrokenBy.here (StatementBreaks.void_used (tested Tests.of_for) f)) =
      inl (inl (inr (inr (inl (fails f)))))
  for_fro first test next body b (BrokenBy.here (StatementBreaks.void_used Uses.for_first f)) =
      inl (inl (inl (inr (fails f))))
  for_fro first test next body b (BrokenBy.here (StatementBreaks.void_used Uses.for_next f)) = inl (inr (inr (fails f)))
  for_fro first test next body b (in_expression (used (tested Tests.of_for)) h) = inl (inl (inr (inl h)))
  for_fro first test next body b (in_expression (used Uses.for_first) h) = inl (inl (inl (inl h)))
  for_fro first test next body b (in_expression (used Uses.for_next) h) = inl (inr (inl h))
  for_fro first test next body b (in_part IsPart.of_for h) = inr h

  exact-for : (first test next : Option Expression) (body : Statement) → ExactBy w true from s body →
      ExactBy w looped from s (for_ first test next body)
  exact-for first test next body p =
      exact-as (for_to first test next body) (for_fro first test next body)
      (exact-then (exact-then (exact-then (exact-used_if w.source s first) (exact-test_if w.source s test))
      (exact-used_if w.source s next)) p)

  -- ---- `for_my_1d`

  abbrev NameOfTurns : (n at line : ℕ) → Breach → Type 0
  NameOfTurns n at line b = Breaks w.source s.locals 0 at at line (name n) b

  abbrev kept_turns : (n at line : ℕ) → Bool
  kept_turns n at line = Rules.turns_kept (named w.source s.locals 0 n (spot_at at line))

  abbrev Turns : (n at line : ℕ) → Breach → Type 0
  Turns n at line = Either (NameOfTurns n at line) (Fails (kept_turns n at line) at rules.Use)

  exact-turns : (n at line : ℕ) → Exact (note_turns w.source s n at line) (Turns n at line)
  unfolding note_turns
  exact-turns n at line =
      exact-then (exact-name_alone w.source s.locals 0 at at line n) (exact-unless (kept_turns n at line) at rules.Use)

  abbrev Bound : Expression → Breach → Type 0
  Bound e =
      Either (Inside w.source s.locals 0 e)
      (OneFails (judged_at w s e) (Rules.bound_kept (judged_at w s e).known) (judged_at w s e).start rules.Use)

  exact-bound : (e : Expression) → Exact (note_bound w.source s e) (Bound e)
  unfolding note_bound
  exact-bound e =
      exact-then (exact-value w.source s.locals 0 e)
      (exact-one (judged_at w s e) (Rules.bound_kept (judged_at w s e).known) (judged_at w s e).start rules.Use)

  abbrev Mine : (n : ℕ) → Expression → Statement → (at line : ℕ) → Breach → Type 0
  Mine n bound body at line = Either (Either (Turns n at line) (Bound bound)) (By w true from s body)

  exact-for_mine : (n : ℕ) (bound : Expression) (body : Statement) (at line : ℕ) → ExactBy w true from s body →
      ExactBy w looped from s (for_mine n bound body at line)
  exact-for_mine n bound body at line p =
      exact-as to fro (exact-then (exact-then (exact-turns n at line) (exact-bound bound)) p)
    where
      to : (b : Breach) → Mine n bound body at line b → By w looped from s (for_mine n bound body at line) b
      to b (inl (inl (inl h))) = BrokenBy.here (StatementBreaks.turns_name h)
      to b (inl (inl (inr (fails f)))) = BrokenBy.here (StatementBreaks.turns_broken f)
      to b (inl (inr (inl h))) = in_expression (used Uses.for_bound) h
      to b (inl (inr (inr (inl f)))) = alone.used_breaks w looped from s Uses.for_bound b (inr f)
      to b (inl (inr (inr (inr (fails f))))) = BrokenBy.here (StatementBreaks.bound_no_int f)
      to b (inr h) = in_part IsPart.of_for_mine h

      fro : (b : Breach) → By w looped from s (for_mine n bound body at line) b → Mine n bound body at line b
      fro b (BrokenBy.here (StatementBreaks.turns_name h)) = inl (inl (inl h))
      fro b (BrokenBy.here (StatementBreaks.turns_broken f)) = inl (inl (inr (fails f)))
      fro b (BrokenBy.here (StatementBreaks.bound_no_int f)) = inl (inr (inr (inr (fails f))))
      fro b (BrokenBy.here (StatementBreaks.test_no_scalar t f)) = elim t [ ]
      fro b (BrokenBy.here (StatementBreaks.void_used (tested t) f)) = elim t [ ]
      fro b (BrokenBy.here (StatementBreaks.void_used Uses.for_bound f)) = inl (inr (inr (inl (fails f))))
      fro b (in_expression (used (tested t)) h) = elim t [ ]
      fro b (in_expression (used Uses.for_bound) h) = inl (inr (inl h))
      fro b (in_part IsPart.of_for_mine h) = inr h

mutual
  pub exact-statement : (w : Within) (looped : Bool) (from : ℕ) (s : Scope) (it : Statement) →
      ExactBy w looped from s it
  exact-statement w looped from s (block all) = exact-block w looped from s all (exact-all w looped (depth s) s all)
  exact-statement w looped from s empty = alone.exact-empty w looped from s
  exact-statement w looped from s (declare locals) = alone.exact-declare w looped from s locals
  exact-statement w looped from s (simple e) = alone.exact-simple w looped from s e
  exact-statement w looped from s (split left right oneway at line) =
      alone.exact-split w looped from s left right oneway at line
  exact-statement w looped from s (choose all) = exact-choose w looped from s all (exact-arms w looped from s all)
  exact-statement w looped from s (choose_else all rest) =
      exact-choose_else w looped from s all rest (exact-arms w looped from s all)
      (exact-statement w looped from (after_arms s all) rest)
  exact-statement w looped from s (while_ test body) =
      exact-while w looped from s test body (exact-statement w true from s body)
  exact-statement w looped from s (do_while body test) =
      exact-do w looped from s body test (exact-statement w true from s body)
  exact-statement w looped from s (for_ first test next body) =
      exact-for w looped from s first test next body (exact-statement w true from s body)
  exact-statement w looped from s (for_mine n bound body at line) =
      exact-for_mine w looped from s n bound body at line (exact-statement w true from s body)
  exact-statement w looped from s (return e at line) = alone.exact-return w looped from s e at line
  exact-statement w looped from s (break at) = alone.exact-break w looped from s at
  exact-statement w looped from s (continue at) = alone.exact-continue w looped from s at

  pub exact-all : (w : Within) (looped : Bool) (from : ℕ) (s : Scope) (all : Statements) →
      Exact (note_all w looped from s all) (SomeStatement w looped from s all)
  exact-all w looped from s no_statements = exact-no_statements w looped from s
  exact-all w looped from s (statements one more) =
      exact-next_statement w looped from s one more (exact-statement w looped from s one)
      (exact-all w looped from (after s one) more)

  exact-arms : (w : Within) (looped : Bool) (from : ℕ) (s : Scope) (all : Arms) →
      Exact (note_arms w looped from s all) (SomeArm w looped from s all)
  exact-arms w looped from s no_arms = exact-no_arms w looped from s
  exact-arms w looped from s (arms (arm test body) more) =
      exact-next_arm w looped from s test body more (exact-statement w looped from s body)
      (exact-arms w looped from (after s body) more)
