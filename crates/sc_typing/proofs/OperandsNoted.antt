-- What is noted of operands that are judged: each is used, some are tested, and a rule stands on them.
use Rattle.std.proofs.Common.{ℕ, Bool, inl, inr}
use Rattle.sc_tree.specs.Plain.{Expression, expression, Kind}
use Rattle.sc_typing.specs.declared.notes.Breach.{Breach}
use Rattle.sc_typing.specs.declared.scope.InScope.{InScope}
use Rattle.std.specs.Prelude.{List}
use Rattle.sc_typing.specs.declared.rule.Rule.{Rule}
use Rattle.sc_typing.specs.declared.rule.Rule.TheVariants as rules
use Rattle.sc_typing.specs.Known.{Judgement}
use Rattle.sc_typing.specs.Source.{Source}
use Rattle.sc_typing.specs.Rules
use Rattle.sc_typing.specs.Typing.{judge}
use Rattle.sc_typing.proofs.ExpressionNotes.{note_used, note_tested, note_one, note_two, note_value}
use Rattle.sc_typing.specs.ExpressionParts.{IsOperand}
use Rattle.sc_typing.specs.BrokenExpressions.{BrokenIn, here, within_operand, void_used}
use Rattle.sc_typing.proofs.Exactly.{Exact, Fails, fails, Either, exact-unless, exact-then}

-- the value is used and is void
abbrev pub Unused : Judgement → Breach → Type 0
Unused j = Fails (Rules.value_kept j.known) j.start rules.Use

-- the value is tested, and is void or no scalar
abbrev pub Untested : Judgement → Breach → Type 0
Untested j = Either (Unused j) (Fails (Rules.test_kept j.known) j.start rules.Test)

pub exact-used : (j : Judgement) → Exact (note_used j) (Unused j)
unfolding note_used
exact-used j = exact-unless (Rules.value_kept j.known) j.start rules.Use

pub exact-tested : (j : Judgement) → Exact (note_tested j) (Untested j)
unfolding note_tested
exact-tested j = exact-then (exact-used j) (exact-unless (Rules.test_kept j.known) j.start rules.Test)

abbrev pub OneFails : Judgement → (kept : Bool) → (at : ℕ) → Rule → Breach → Type 0
OneFails j kept at rule = Either (Unused j) (Fails kept at rule)

pub exact-one : (j : Judgement) (kept : Bool) (at : ℕ) (rule : Rule) →
    Exact (note_one j kept at rule) (OneFails j kept at rule)
unfolding note_one
exact-one j kept at rule = exact-then (exact-used j) (exact-unless kept at rule)

abbrev pub TwoFail : (left right : Judgement) → (kept : Bool) → (at : ℕ) → Rule → Breach → Type 0
TwoFail left right kept at rule = Either (Either (Unused left) (Unused right)) (Fails kept at rule)

pub exact-two : (left right : Judgement) (kept : Bool) (at : ℕ) (rule : Rule) →
    Exact (note_two left right kept at rule) (TwoFail left right kept at rule)
unfolding note_two
exact-two left right kept at rule =
    exact-then (exact-then (exact-used left) (exact-used right)) (exact-unless kept at rule)

-- what is broken within an expression
abbrev pub Inside : Source → List InScope → (indices : ℕ) → Expression → Breach → Type 0
Inside c locals indices e b = BrokenIn c locals b indices e

-- what is to be shown of each expression
abbrev pub ExactIn : Source → List InScope → (indices : ℕ) → Expression → Type 0
ExactIn c locals indices e = Exact (note_value c locals indices e) (Inside c locals indices e)

-- an operand that is used is broken inside, or is void
abbrev pub Operand : Source → List InScope → (indices : ℕ) → Expression → Breach → Type 0
Operand c locals indices e = Either (Inside c locals indices e) (Unused (judge c locals indices e))

abbrev pub Tested : Source → List InScope → Expression → Breach → Type 0
Tested c locals e = Either (Inside c locals 0 e) (Untested (judge c locals 0 e))

pub operand_breaks : {c : Source} {locals : List InScope} {indices taken start at line : ℕ} {k : Kind}
    {e : Expression} → IsOperand c locals k taken e →
    (b : Breach) → Operand c locals taken e b → BrokenIn c locals b indices (expression k start at line)
operand_breaks is b (inl h) = within_operand is h
operand_breaks is b (inr (fails h)) = here (void_used is h)
