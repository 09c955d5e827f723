-- What is noted of declarations, of the expressions that a statement tests or uses, and of lists of statements and
-- arms is what they break, a step at a time.
use Rattle.std.proofs.Common.{◌+◌, ℕ, Bool, List, [], ◌∷◌, Option, Some, None, inl, inr}
use Rattle.sc_base.specs.declared.shape.Ty.{Ty}
use Rattle.sc_tree.specs.Plain.{Expression}
use Rattle.sc_tree.specs.PlainStmt.{Declared, Statement, Statements, no_statements, statements, arm, Arms, no_arms}
use Rattle.sc_tree.specs.PlainStmt.{arms}
use Rattle.sc_typing.specs.declared.notes.Breach.{Breach}
use Rattle.sc_typing.specs.declared.rule.Rule.{Rule}
use Rattle.sc_typing.specs.declared.rule.Rule.TheVariants as rules
use Rattle.sc_typing.specs.Scope.{Scope}
use Rattle.sc_typing.specs.Source.{Source}
use Rattle.sc_typing.specs.Rules
use Rattle.sc_typing.specs.NameRules
use Rattle.sc_typing.specs.Typing.{judge}
use Rattle.sc_typing.specs.Statements.{Within, after, after_declared}
use Rattle.sc_typing.proofs.StatementNotes.{note_declared, note_initial, note_local, note_locals, note_used_value}
use Rattle.sc_typing.proofs.StatementNotes.{note_test, note_used_if, note_test_if, note_statement, note_all, note_arms}
use Rattle.sc_typing.specs.StatementParts.{place, InSequence, InArms, InLocals}
use Rattle.sc_typing.specs.BrokenStatements.{BrokenBy}
use Rattle.sc_typing.proofs.Exactly.{Exact, Fails, Never, Either, exact-nothing, exact-unless, exact-then, exact-as}
use Rattle.sc_typing.proofs.OperandsNoted.{Inside, Operand, Tested, OneFails, exact-used, exact-tested, exact-one}
use Rattle.sc_typing.proofs.ExpressionsNoted.{exact-value}

-- ---- expressions in a scope

pub exact-used_value : (c : Source) (s : Scope) (e : Expression) →
    Exact (note_used_value c s e) (Operand c s.locals 0 e)
unfolding note_used_value
exact-used_value c s e = exact-then (exact-value c s.locals 0 e) (exact-used (judge c s.locals 0 e))

pub exact-test : (c : Source) (s : Scope) (e : Expression) → Exact (note_test c s e) (Tested c s.locals e)
unfolding note_test
exact-test c s e = exact-then (exact-value c s.locals 0 e) (exact-tested (judge c s.locals 0 e))

abbrev pub UsedIf : Source → Scope → Option Expression → Breach → Type 0
UsedIf c s None = Never
UsedIf c s (Some e) = Operand c s.locals 0 e

abbrev pub TestedIf : Source → Scope → Option Expression → Breach → Type 0
TestedIf c s None = Never
TestedIf c s (Some e) = Tested c s.locals e

pub exact-used_if : (c : Source) (s : Scope) (e : Option Expression) → Exact (note_used_if c s e) (UsedIf c s e)
exact-used_if c s None = exact-nothing
exact-used_if c s (Some e) = exact-used_value c s e

pub exact-test_if : (c : Source) (s : Scope) (e : Option Expression) → Exact (note_test_if c s e) (TestedIf c s e)
exact-test_if c s None = exact-nothing
exact-test_if c s (Some e) = exact-test c s e

-- ---- declarations

abbrev pub DeclaredFails : Source → (from n at : ℕ) → Scope → Breach → Type 0
DeclaredFails c from n at s = Either (Fails (NameRules.declared_once from n s) at rules.DeclaredOnce) (Fails (NameRules.not_of_library c n) at rules.LibraryName)

pub exact-declared : (c : Source) (from n at : ℕ) (s : Scope) →
    Exact (note_declared c from n at s) (DeclaredFails c from n at s)
unfolding note_declared
exact-declared c from n at s =
    exact-then (exact-unless (NameRules.declared_once from n s) at rules.DeclaredOnce) (exact-unless (NameRules.not_of_library c n) at rules.LibraryName)

abbrev pub InitialBreaks : Source → Scope → Ty → (at : ℕ) → Option Expression → Breach → Type 0
InitialBreaks c s ty at None = Never
InitialBreaks c s ty at (Some e) =
    Either (Inside c s.locals 0 e) (OneFails (judge c s.locals 0 e) (Rules.fit (judge c s.locals 0 e).known ty)
    (at + 1) rules.Assignment)

exact-initial : (c : Source) (s : Scope) (ty : Ty) (at : ℕ) (e : Option Expression) →
    Exact (note_initial c s ty at e) (InitialBreaks c s ty at e)
exact-initial c s ty at None = exact-nothing
exact-initial c s ty at (Some e) =
    exact-then (exact-value c s.locals 0 e)
    (exact-one (judge c s.locals 0 e) (Rules.fit (judge c s.locals 0 e).known ty) (at + 1) rules.Assignment)

abbrev pub LocalBreaks : Source → (from : ℕ) → Scope → Declared → Breach → Type 0
LocalBreaks c from s l = Either (InitialBreaks c s l.ty l.at l.init) (DeclaredFails c from l.name l.at s)

exact-local : (c : Source) (from : ℕ) (s : Scope) (l : Declared) →
    Exact (note_local c from s l) (LocalBreaks c from s l)
unfolding note_local
exact-local c from s l = exact-then (exact-initial c s l.ty l.at l.init) (exact-declared c from l.name l.at s)

pub data SomeLocal (c : Source) (from : ℕ) (s : Scope) (locals : List Declared) (b : Breach) : Type 0 where
  some_local : {there : Scope} {l : Declared} → InLocals there l s locals → LocalBreaks c from there l b →
      SomeLocal c from s locals b

pub exact-locals : (c : Source) (from : ℕ) (s : Scope) (locals : List Declared) →
    Exact (note_locals c from s locals) (SomeLocal c from s locals)
exact-locals c from s [] = exact-as (λ b h. elim h [ ]) fro exact-nothing
  where
    fro : (b : Breach) → SomeLocal c from s [] b → Never b
    fro b (some_local i h) = elim i [ ]
exact-locals c from s (l ∷ more) =
    exact-as to fro (exact-then (exact-local c from s l) (exact-locals c from (after_declared s l) more))
  where
    to : (b : Breach) → Either (LocalBreaks c from s l) (SomeLocal c from (after_declared s l) more) b →
        SomeLocal c from s (l ∷ more) b
    to b (inl h) = some_local InLocals.at_front h
    to b (inr (some_local i h)) = some_local (InLocals.further i) h

    fro : (b : Breach) → SomeLocal c from s (l ∷ more) b →
        Either (LocalBreaks c from s l) (SomeLocal c from (after_declared s l) more) b
    fro b (some_local InLocals.at_front h) = inl h
    fro b (some_local (InLocals.further i) h) = inr (some_local i h)

-- ---- statements and arms of a list

-- what is broken by a statement, at its place
abbrev pub By : Within → (looped : Bool) → (from : ℕ) → Scope → Statement → Breach → Type 0
By w looped from s it b = BrokenBy w b (place looped from s) it

abbrev pub ExactBy : Within → (looped : Bool) → (from : ℕ) → Scope → Statement → Type 0
ExactBy w looped from s it = Exact (note_statement w looped from s it) (By w looped from s it)

module _ (w : Within) (looped : Bool) (from : ℕ) where
  pub data SomeStatement (s : Scope) (all : Statements) (b : Breach) : Type 0 where
    some_statement : {there : Scope} {it : Statement} → InSequence there it s all → By w looped from there it b →
        SomeStatement s all b

  pub exact-no_statements : (s : Scope) → Exact (note_all w looped from s no_statements) (SomeStatement s no_statements)
  exact-no_statements s = exact-as (λ b h. elim h [ ]) fro exact-nothing
    where
      fro : (b : Breach) → SomeStatement s no_statements b → Never b
      fro b (some_statement i h) = elim i [ ]

  pub exact-next_statement : (s : Scope) (one : Statement) (more : Statements) → ExactBy w looped from s one →
      Exact (note_all w looped from (after s one) more) (SomeStatement (after s one) more) →
      Exact (note_all w looped from s (statements one more)) (SomeStatement s (statements one more))
  exact-next_statement s one more p ps = exact-as to fro (exact-then p ps)
    where
      to : (b : Breach) → Either (By w looped from s one) (SomeStatement (after s one) more) b →
          SomeStatement s (statements one more) b
      to b (inl h) = some_statement InSequence.at_front h
      to b (inr (some_statement i h)) = some_statement (InSequence.further i) h

      fro : (b : Breach) → SomeStatement s (statements one more) b →
          Either (By w looped from s one) (SomeStatement (after s one) more) b
      fro b (some_statement InSequence.at_front h) = inl h
      fro b (some_statement (InSequence.further i) h) = inr (some_statement i h)

  -- an arm's test, and what it guards
  abbrev pub ArmBreaks : Scope → Expression → Statement → Breach → Type 0
  ArmBreaks s test body = Either (Tested w.source s.locals test) (By w looped from s body)

  pub data SomeArm (s : Scope) (all : Arms) (b : Breach) : Type 0 where
    some_arm : {there : Scope} {test : Expression} {body : Statement} → InArms there test body s all →
        ArmBreaks there test body b → SomeArm s all b

  pub exact-no_arms : (s : Scope) → Exact (note_arms w looped from s no_arms) (SomeArm s no_arms)
  exact-no_arms s = exact-as (λ b h. elim h [ ]) fro exact-nothing
    where
      fro : (b : Breach) → SomeArm s no_arms b → Never b
      fro b (some_arm i h) = elim i [ ]

  pub exact-next_arm : (s : Scope) (test : Expression) (body : Statement) (more : Arms) → ExactBy w looped from s body →
      Exact (note_arms w looped from (after s body) more) (SomeArm (after s body) more) →
      Exact (note_arms w looped from s (arms (arm test body) more)) (SomeArm s (arms (arm test body) more))
  exact-next_arm s test body more p ps = exact-as to fro (exact-then (exact-then (exact-test w.source s test) p) ps)
    where
      to : (b : Breach) → Either (ArmBreaks s test body) (SomeArm (after s body) more) b →
          SomeArm s (arms (arm test body) more) b
      to b (inl h) = some_arm InArms.at_front h
      to b (inr (some_arm i h)) = some_arm (InArms.further i) h

      fro : (b : Breach) → SomeArm s (arms (arm test body) more) b →
          Either (ArmBreaks s test body) (SomeArm (after s body) more) b
      fro b (some_arm InArms.at_front h) = inl h
      fro b (some_arm (InArms.further i) h) = inr (some_arm i h)
