-- The rules that a statement breaks, in the order in which a reader meets them. `looped` says whether a loop is around
-- the statement, and `from` how many locals were in scope where its block began.
use Rattle.std.specs.Prelude.{ℕ, ◌+◌, Bool, true, false, Option, Some, None, List, [], ◌∷◌, if◌then◌else◌}
use Rattle.sc_base.specs.declared.shape.Ty.{Ty}
use Rattle.sc_tree.specs.Plain.{Expression}
use Rattle.sc_tree.specs.PlainStmt.{Declared, Statement, block, empty, declare, simple, split, choose, choose_else}
use Rattle.sc_tree.specs.PlainStmt.{while_, do_while, for_, for_mine, return, break, continue, Statements}
use Rattle.sc_tree.specs.PlainStmt.{no_statements, statements, Arm, arm, Arms, no_arms, arms}
use Rattle.sc_typing.specs.declared.rule.Rule.{Rule}
use Rattle.sc_typing.specs.declared.rule.Rule.TheVariants as rules
use Rattle.sc_typing.specs.Known.{Judgement, spot_at}
use Rattle.sc_typing.specs.Scope.{Scope, depth}
use Rattle.sc_typing.specs.Source.{Source}
use Rattle.sc_typing.specs.Rules
use Rattle.sc_typing.specs.NameRules
use Rattle.sc_typing.specs.Typing.{judge}
use Rattle.sc_typing.specs.Naming.{named}
use Rattle.sc_typing.specs.Statements.{Within, after, after_declared, after_arms}
use Rattle.sc_typing.specs.Notes.{unless}
use Rattle.sc_typing.proofs.ExpressionNotes.{Noting, note_value, note_name, note_used, note_tested, note_one, note_two}

-- a name is declared at the token
unfoldable pub note_declared : Source → (from n at : ℕ) → Scope → Noting
note_declared c from n at s broken = unless (NameRules.not_of_library c n) at rules.LibraryName (unless (NameRules.declared_once from n s) at rules.DeclaredOnce broken)

-- the `=` of an initialiser is the token behind the name
abbrev pub note_initial : Source → Scope → Ty → (at : ℕ) → Option Expression → Noting
note_initial c s ty at None broken = broken
note_initial c s ty at (Some e) broken =
    note_one (judge c s.locals 0 e) (Rules.fit (judge c s.locals 0 e).known ty) (at + 1) rules.Assignment (note_value c s.locals 0 e broken)

unfoldable pub note_local : Source → (from : ℕ) → Scope → Declared → Noting
note_local c from s l broken = note_declared c from l.name l.at s (note_initial c s l.ty l.at l.init broken)

abbrev pub note_locals : Source → (from : ℕ) → Scope → List Declared → Noting
note_locals c from s [] broken = broken
note_locals c from s (l ∷ more) broken = note_locals c from (after_declared s l) more (note_local c from s l broken)

-- a value that the statement uses
unfoldable pub note_used_value : Source → Scope → Expression → Noting
note_used_value c s e broken = note_used (judge c s.locals 0 e) (note_value c s.locals 0 e broken)

unfoldable pub note_test : Source → Scope → Expression → Noting
note_test c s e broken = note_tested (judge c s.locals 0 e) (note_value c s.locals 0 e broken)

abbrev pub note_used_if : Source → Scope → Option Expression → Noting
note_used_if c s None broken = broken
note_used_if c s (Some e) broken = note_used_value c s e broken

abbrev pub note_test_if : Source → Scope → Option Expression → Noting
note_test_if c s None broken = broken
note_test_if c s (Some e) broken = note_test c s e broken

abbrev pub split_rule : (oneway : Bool) → Rule
split_rule oneway = if oneway then rules.Store else rules.SplitAssignment

abbrev pub split_kept : (oneway : Bool) → Judgement → Judgement → Bool
split_kept oneway l r = if oneway then Rules.store_kept l r else Rules.split_assignment_kept l r

unfoldable pub note_split : (oneway : Bool) → Judgement → Judgement → (at : ℕ) → Noting
note_split oneway l r at broken = note_two l r (split_kept oneway l r) at (split_rule oneway) broken

-- the name of `for_my_1d`, which is no object with indices
unfoldable pub note_turns : Source → Scope → (n at line : ℕ) → Noting
note_turns c s n at line broken =
    unless (Rules.turns_kept (named c s.locals 0 n (spot_at at line))) at rules.Use (note_name c s.locals 0 n (spot_at at line) broken)

-- its bound
unfoldable pub note_bound : Source → Scope → Expression → Noting
note_bound c s e broken =
    note_one (judge c s.locals 0 e) (Rules.bound_kept (judge c s.locals 0 e).known) (judge c s.locals 0 e).start rules.Use (note_value c s.locals 0 e broken)

abbrev pub note_return : Within → Scope → Option Expression → (at : ℕ) → Noting
note_return w s None at broken = unless (Rules.return_kept w.result None) at rules.Return broken
note_return w s (Some e) at broken =
    note_one (judge w.source s.locals 0 e) (Rules.return_kept w.result (Some (judge w.source s.locals 0 e))) at rules.Return (note_value w.source s.locals 0 e broken)

abbrev mutual
  pub note_statement : Within → (looped : Bool) → (from : ℕ) → Scope → Statement → Noting
  note_statement w looped from s (block all) broken = note_all w looped (depth s) s all broken
  note_statement w looped from s empty broken = broken
  note_statement w looped from s (declare locals) broken = note_locals w.source from s locals broken
  note_statement w looped from s (simple e) broken = note_value w.source s.locals 0 e broken
  note_statement w looped from s (split left right oneway at line) broken =
      note_split oneway (judge w.source s.locals 0 left) (judge w.source s.locals 0 right) at
      (note_value w.source s.locals 0 right (note_value w.source s.locals 0 left broken))
  note_statement w looped from s (choose all) broken = note_arms w looped from s all broken
  note_statement w looped from s (choose_else all rest) broken =
      note_statement w looped from (after_arms s all) rest (note_arms w looped from s all broken)
  note_statement w looped from s (while_ test body) broken =
      note_statement w true from s body (note_test w.source s test broken)
  note_statement w looped from s (do_while body test) broken =
      note_test w.source (after s body) test (note_statement w true from s body broken)
  note_statement w looped from s (for_ first test next body) broken =
      note_statement w true from s body (note_used_if w.source s next (note_test_if w.source s test (note_used_if w.source s first broken)))
  note_statement w looped from s (for_mine n bound body at line) broken =
      note_statement w true from s body (note_bound w.source s bound (note_turns w.source s n at line broken))
  note_statement w looped from s (return e at line) broken = note_return w s e at broken
  note_statement w looped from s (break at) broken = unless (Rules.loop_kept looped) at rules.Loop broken
  note_statement w looped from s (continue at) broken = unless (Rules.loop_kept looped) at rules.Loop broken

  pub note_all : Within → (looped : Bool) → (from : ℕ) → Scope → Statements → Noting
  note_all w looped from s no_statements broken = broken
  note_all w looped from s (statements one more) broken =
      note_all w looped from (after s one) more (note_statement w looped from s one broken)

  pub note_arms : Within → (looped : Bool) → (from : ℕ) → Scope → Arms → Noting
  note_arms w looped from s no_arms broken = broken
  note_arms w looped from s (arms (arm test body) more) broken =
      note_arms w looped from (after s body) more (note_statement w looped from s body (note_test w.source s test broken))
