-- Which rules a statement breaks, and at which tokens, in no order.
use Rattle.std.specs.Prelude.{ℕ, ◌+◌, ◌≡◌, true, false, Some, None, List}
use Rattle.sc_tree.specs.Plain.{Expression, expression, name, expressions}
use Rattle.sc_tree.specs.PlainStmt.{Declared, Statement, declare, split, for_mine, return, break, continue}
use Rattle.sc_typing.specs.declared.notes.Breach.{Breach}
use Rattle.sc_typing.specs.declared.rule.Rule.TheVariants as rules
use Rattle.sc_typing.specs.Known.{Judgement, spot_at}
use Rattle.sc_typing.specs.Scope.{Scope}
use Rattle.sc_typing.specs.Rules
use Rattle.sc_typing.specs.NameRules
use Rattle.sc_typing.specs.Typing.{judge}
use Rattle.sc_typing.specs.Naming.{named}
use Rattle.sc_typing.specs.Statements.{Within}
use Rattle.sc_typing.specs.Program.{within}
use Rattle.sc_typing.specs.BrokenExpressions.{breach, Breaks, BrokenIn}
use Rattle.sc_typing.specs.StatementParts.{Place, InLocals, IsPart, Tests, Uses, Evaluates}

abbrev pub judged_at : Within → Scope → Expression → Judgement
judged_at w s e = judge w.source s.locals 0 e

-- Rules that a statement breaks itself, whatever its expressions and parts break.
pub data StatementBreaks (w : Within) (p : Place) : Statement → Breach → Type 0 where
  declared_twice : {locals : List Declared} {there : Scope} {l : Declared} →
      InLocals there l p.scope locals →
      NameRules.declared_once p.from l.name there ≡ false →
      StatementBreaks w p (declare locals) (breach l.at rules.DeclaredOnce)
  library_declared : {locals : List Declared} {there : Scope} {l : Declared} →
      InLocals there l p.scope locals →
      NameRules.not_of_library w.source l.name ≡ false →
      StatementBreaks w p (declare locals) (breach l.at rules.LibraryName)
  test_no_scalar : {there : Scope} {e : Expression} {it : Statement} →
      Tests p.scope there e it →
      Rules.test_kept (judged_at w there e).known ≡ false →
      StatementBreaks w p it (breach (judged_at w there e).start rules.Test)
  initial_unfit : {locals : List Declared} {there : Scope} {l : Declared} {e : Expression} →
      InLocals there l p.scope locals →
      l.init ≡ Some e →
      Rules.fit (judged_at w there e).known l.ty ≡ false →
      StatementBreaks w p (declare locals) (breach (l.at + 1) rules.Assignment)
  get_broken : {left right : Expression} {at line : ℕ} →
      Rules.split_assignment_kept (judged_at w p.scope left) (judged_at w p.scope right) ≡ false →
      StatementBreaks w p (split left right false at line) (breach at rules.SplitAssignment)
  store_broken : {left right : Expression} {at line : ℕ} →
      Rules.store_kept (judged_at w p.scope left) (judged_at w p.scope right) ≡ false →
      StatementBreaks w p (split left right true at line) (breach at rules.Store)
  return_without : {at line : ℕ} →
      Rules.return_kept w.result None ≡ false →
      StatementBreaks w p (return None at line) (breach at rules.Return)
  return_broken : {e : Expression} {at line : ℕ} →
      Rules.return_kept w.result (Some (judged_at w p.scope e)) ≡ false →
      StatementBreaks w p (return (Some e) at line) (breach at rules.Return)
  break_outside : {at : ℕ} →
      Rules.loop_kept p.looped ≡ false →
      StatementBreaks w p (break at) (breach at rules.Loop)
  continue_outside : {at : ℕ} →
      Rules.loop_kept p.looped ≡ false →
      StatementBreaks w p (continue at) (breach at rules.Loop)
  void_used : {there : Scope} {e : Expression} {it : Statement} →
      Uses p.scope there e it →
      Rules.value_kept (judged_at w there e).known ≡ false →
      StatementBreaks w p it (breach (judged_at w there e).start rules.Use)
  turns_broken : {n : ℕ} {bound : Expression} {body : Statement} {at line : ℕ} →
      Rules.turns_kept (named w.source p.scope.locals 0 n (spot_at at line)) ≡ false →
      StatementBreaks w p (for_mine n bound body at line) (breach at rules.Use)
  turns_name : {n : ℕ} {bound : Expression} {body : Statement} {at line : ℕ} {b : Breach} →
      Breaks w.source p.scope.locals 0 at at line (name n) b →
      StatementBreaks w p (for_mine n bound body at line) b
  bound_no_int : {n : ℕ} {bound : Expression} {body : Statement} {at line : ℕ} →
      Rules.bound_kept (judged_at w p.scope bound).known ≡ false →
      StatementBreaks w p (for_mine n bound body at line) (breach (judged_at w p.scope bound).start rules.Use)

-- The statement breaks the rule at the token, or an expression or a statement within it does.
pub data BrokenBy (w : Within) (b : Breach) : Place → Statement → Type 0 where
  here : {p : Place} {it : Statement} → StatementBreaks w p it b → BrokenBy w b p it
  in_expression : {p : Place} {it : Statement} {there : Scope} {e : Expression} →
      Evaluates p.scope there e it →
      BrokenIn w.source there.locals b 0 e →
      BrokenBy w b p it
  in_part : {p q : Place} {it part : Statement} → IsPart p q part it → BrokenBy w b q part → BrokenBy w b p it
