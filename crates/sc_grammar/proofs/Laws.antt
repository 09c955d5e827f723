-- What is proved of how each rule of the grammar is read.
use Rattle.std.proofs.Common.{◌≡◌, ℕ, suc, ◌≤◌, Bool, true, false, List, Option, Some, None}
use Rattle.std.specs.Prelude.{nat_lt, ◌||◌}
use Rattle.sc_tree.specs.declared.token.Token.{Token}
use Rattle.sc_tree.specs.declared.token.TokenKind.{TokenKind}
use Rattle.sc_tree.specs.declared.token.TokenKind.TheVariants.{Mark}
use Rattle.sc_tree.specs.declared.token.Mark.{Mark as TheMark}
use Rattle.sc_tree.specs.declared.token.Mark.TheVariants as marks
use Rattle.sc_tree.specs.Plain.{Expression}
use Rattle.sc_tree.specs.PlainStmt.{Statement}
use Rattle.sc_grammar.specs.declared.operators.Operator.{Operator}
use Rattle.sc_grammar.specs.Marks.{operator_of, assigning_of}
use Rattle.sc_grammar.specs.Rest.{Rest, Takes, takes}
use Rattle.sc_grammar.specs.Expressions.{IsUnary}
use Rattle.sc_grammar.specs.Statements.{stands_before, is_open, before_else, is_else}
use Rattle.sc_grammar.proofs.Reading.{Parser, got, sees, is_given}
use Rattle.sc_grammar.proofs.Local.{Local, Consumes}
use Rattle.sc_grammar.proofs.Fits.{Rule, Fits}
use Rattle.sc_grammar.proofs.Derived.{Stands, Reads, Opened}
use Rattle.std.specs.Prelude.{slice_get}

-- What is read is exactly the rule, where what follows does not go on with it.
pub record Exact {A : Type 0} (limit : ℕ) (p : Parser A) (R : Rule A) (Ends : A → Rest → Type 0) : Type 0 where
  pub local : Local p
  pub consumes : Consumes p
  pub fits : Fits p R
  pub reads : (ts : List Token) (a b : Rest) (x : A) → R a b x → Stands ts a → Ends x b → Reads limit ts a b x p

-- no token that goes on stands there
abbrev pub Without : (TokenKind → Bool) → Rest → Type 0
Without k b = stands_before k b ≡ false

-- ---- tokens that go on with an expression

abbrev pub goes_on_mark : TheMark → Bool
goes_on_mark marks.OpenSquare = true
goes_on_mark marks.PlusPlus = true
goes_on_mark marks.MinusMinus = true
goes_on_mark marks.OpenRound = true
goes_on_mark _ = false

abbrev pub below_level : ℕ → Option Operator → Bool
below_level level None = false
below_level level (Some o) = nat_lt o.level level

-- tokens that go on with an operand of the level
abbrev pub extends_level : ℕ → TokenKind → Bool
extends_level level (Mark m) = goes_on_mark m || below_level level (operator_of m)
extends_level level _ = false

abbrev pub is_question : TheMark → Bool
is_question marks.Question = true
is_question _ = false

abbrev pub extends_cond : TokenKind → Bool
extends_cond (Mark m) = extends_level 10 (Mark m) || is_question m
extends_cond _ = false

abbrev pub extends_assign : TokenKind → Bool
extends_assign (Mark m) = extends_cond (Mark m) || is_given (assigning_of m)
extends_assign _ = false

-- an expression ends where no token goes on with it
abbrev pub ExpressionEnds : (TokenKind → Bool) → Expression → Rest → Type 0
ExpressionEnds k e b = Without k b

-- how the operand of a prefix is read at this depth, unless it would be too deep
abbrev pub OperandOf : (limit d : ℕ) → Option (Parser Expression) → Type 0
OperandOf limit d None = limit ≡ d
OperandOf limit d (Some q) = (suc d ≤ limit) × Exact limit q (IsUnary (suc d)) (ExpressionEnds (extends_level 0))

-- ---- statements

-- a statement that an `else` would go on with is followed by none
abbrev pub StatementEnds : Statement → Rest → Type 0
StatementEnds s b = is_open s ≡ true → before_else b ≡ false

-- an `if` takes each `else` that follows it
abbrev pub Greedy : Parser Statement → Type 0
Greedy p = (ts : List Token) (n : ℕ) (s : Statement) (m : ℕ) → p ts n ≡ got s m → is_open s ≡ true → sees is_else (slice_get ts m) ≡ false

-- ---- the token that follows

-- a token that is not so stands there
pub without : (k : TokenKind → Bool) {kind : TokenKind} {d : ℕ} {a b : Rest} → Takes kind d a b → k kind ≡ false → Without k a
without k takes e = e

pub with_token : (k : TokenKind → Bool) {kind : TokenKind} {d : ℕ} {a b : Rest} → Takes kind d a b → k kind ≡ true → stands_before k a ≡ true
with_token k takes e = e

-- what opens one thing is nothing that no such token is
pub opened_without : (k j : TokenKind → Bool) {d : ℕ} {a : Rest} → ((kind : TokenKind) → k kind ≡ true → j kind ≡ false) → Opened k d a → Without j a
opened_without k j h (Opened.opened e le) = h _ e
