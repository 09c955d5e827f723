-- Tokens that go on with an operand of a level, and those that do not.
use Rattle.std.proofs.Common.{◌≡◌, refl, ap, ◌∙◌, ℕ, suc, ◌≤◌, arith, Bool, true, false, [], ◌∷◌, Option, Some, None, nat_lt, nat_eq, ◌||◌, if◌then◌else◌}
use Rattle.sc_base.specs.declared.operator.Binary.{Binary}
use Rattle.sc_tree.specs.declared.token.TokenKind.{TokenKind}
use Rattle.sc_tree.specs.declared.token.TokenKind.TheVariants.{Number, Name, Format, Word, Mark}
use Rattle.sc_tree.specs.declared.token.Mark.{Mark as TheMark}
use Rattle.sc_tree.specs.declared.token.Mark.TheVariants as marks
use Rattle.sc_grammar.specs.declared.operators.Operator.{Operator}
use Rattle.sc_grammar.specs.declared.operators.Assigning.{Assigning}
use Rattle.sc_grammar.specs.Marks.{operator_of, assigning_of}
use Rattle.sc_grammar.specs.Rest.{Rest, rest}
use Rattle.sc_grammar.proofs.Reading.{is_given, is_mark}
use Rattle.sc_grammar.proofs.ReadingExpressions.{at_level, arithmetic_in, has_no_op, is_logical_at, is_logical, assigning_in}
use Rattle.sc_grammar.proofs.Derived.{next_gives}
use Rattle.sc_grammar.proofs.Laws.{Without, goes_on_mark, below_level, extends_level, is_question, extends_cond, extends_assign}

-- ---- Booleans and levels

pub or_false : (a b : Bool) → a || b ≡ false → (a ≡ false) × (b ≡ false)
or_false false b h = (refl, h)
or_false true b h = cc

both_false : (a b : Bool) → a ≡ false → b ≡ false → a || b ≡ false
both_false false b h g = g
both_false true b h g = cc

pub given_none : {A : Type 0} (o : Option A) → is_given o ≡ false → o ≡ None
given_none None h = refl
given_none (Some x) h = cc

not_below : (m n : ℕ) → nat_lt m n ≡ false → n ≤ m
not_below m n h = grind arith

below-not : (m n : ℕ) → n ≤ m → nat_lt m n ≡ false
below-not m n h = grind arith

level-not : (m n : ℕ) → suc n ≤ m → nat_eq m n ≡ false
level-not m n h = grind arith

-- ---- an operator of a level

-- the mark is an operator of the level, which computes this or joins operands that are not all evaluated
pub record Joins (level : ℕ) (op : Option Binary) (kind : TokenKind) : Type 0 where
  pub mark : TheMark
  pub is : kind ≡ Mark mark
  pub operator : operator_of mark ≡ Some (record { level = level; op = op })

at_level-is : (level : ℕ) (o : Option Operator) (op : Binary) → at_level level o ≡ Some op → o ≡ Some (record { level = level; op = Some op })
at_level-is level None op h = cc
at_level-is level (Some o) op h = go (nat_eq o.level level) refl h
  where
    go : (b : Bool) → nat_eq o.level level ≡ b → (if b then o.op else None) ≡ Some op → Some o ≡ Some (record { level = level; op = Some op })
    go true e g = let i : o.level ≡ level = grind arith in grind (arith, i, g)
    go false e g = cc

pub joins-arithmetic : (level : ℕ) (kind : TokenKind) (op : Binary) → arithmetic_in level kind ≡ Some op → Joins level (Some op) kind
joins-arithmetic level (Mark m) op h = record { mark = m; is = refl; operator = at_level-is level (operator_of m) op h }
joins-arithmetic level (Number n) op h = cc
joins-arithmetic level (Name x) op h = cc
joins-arithmetic level (Format x) op h = cc
joins-arithmetic level (Word w) op h = cc

logical_at-is : (level : ℕ) (o : Option Operator) → is_logical_at level o ≡ true → o ≡ Some (record { level = level; op = None })
logical_at-is level None h = cc
logical_at-is level (Some o) h = go (nat_eq o.level level) refl h
  where
    no_op : (p : Option Binary) → has_no_op p ≡ true → p ≡ None
    no_op None g = refl
    no_op (Some p) g = cc

    go : (b : Bool) → nat_eq o.level level ≡ b → (if b then has_no_op o.op else false) ≡ true → Some o ≡ Some (record { level = level; op = None })
    go true e g = let i : o.level ≡ level = grind arith in let j : o.op ≡ None = no_op o.op g in grind (arith, i, j)
    go false e g = cc

pub joins-logical : (level : ℕ) (kind : TokenKind) → is_logical level kind ≡ true → Joins level None kind
joins-logical level (Mark m) h = record { mark = m; is = refl; operator = logical_at-is level (operator_of m) h }
joins-logical level (Number n) h = cc
joins-logical level (Name x) h = cc
joins-logical level (Format x) h = cc
joins-logical level (Word w) h = cc

-- and the other way round
level-same : (level : ℕ) → nat_eq level level ≡ true
level-same level = grind arith

pub arithmetic-joins : (level : ℕ) (m : TheMark) (op : Binary) → operator_of m ≡ Some (record { level = level; op = Some op }) → arithmetic_in level (Mark m) ≡ Some op
arithmetic-joins level m op h = ap (at_level level) h ∙ ap (λ (b : Bool). if b then Some op else None) (level-same level)

pub logical-joins : (level : ℕ) (m : TheMark) → operator_of m ≡ Some (record { level = level; op = None }) → is_logical level (Mark m) ≡ true
logical-joins level m h = ap (is_logical_at level) h ∙ ap (λ (b : Bool). if b then true else false) (level-same level)

-- ---- what does not go on with an operand of a level

operator-not_tail : (m : TheMark) (o : Operator) → operator_of m ≡ Some o → goes_on_mark m ≡ false
operator-not_tail marks.OpenSquare o h = cc
operator-not_tail marks.PlusPlus o h = cc
operator-not_tail marks.MinusMinus o h = cc
operator-not_tail marks.OpenRound o h = cc
operator-not_tail m o h = refl

-- an operator that joins such operands
pub operator-ends : (level : ℕ) (op : Option Binary) (m : TheMark) → operator_of m ≡ Some (record { level = level; op = op }) → extends_level level (Mark m) ≡ false
operator-ends level op m h =
    both_false (goes_on_mark m) (below_level level (operator_of m)) (operator-not_tail m _ h) (ap (below_level level) h ∙ below-not level level (omega arith))

below-lower : (level : ℕ) (o : Option Operator) → below_level (suc level) o ≡ false → below_level level o ≡ false
below-lower level None h = refl
below-lower level (Some o) h = let le = not_below o.level (suc level) h in below-not o.level level (omega arith)

-- what does not go on with an operand of the next level
pub level-ends : (level : ℕ) (kind : TokenKind) → extends_level (suc level) kind ≡ false → extends_level level kind ≡ false
level-ends level (Mark m) h =
    let z = or_false (goes_on_mark m) (below_level (suc level) (operator_of m)) h in
    both_false (goes_on_mark m) (below_level level (operator_of m)) z.0 (below-lower level (operator_of m) z.1)
level-ends level (Number n) h = refl
level-ends level (Name x) h = refl
level-ends level (Format x) h = refl
level-ends level (Word w) h = refl

above-none : (level : ℕ) (o : Option Operator) → below_level (suc level) o ≡ false → at_level level o ≡ None
above-none level None h = refl
above-none level (Some o) h = let le = not_below o.level (suc level) h in ap (λ (b : Bool). if b then o.op else None) (level-not o.level level le)

above-false : (level : ℕ) (o : Option Operator) → below_level (suc level) o ≡ false → is_logical_at level o ≡ false
above-false level None h = refl
above-false level (Some o) h = let le = not_below o.level (suc level) h in ap (λ (b : Bool). if b then has_no_op o.op else false) (level-not o.level level le)

arithmetic-none : (level : ℕ) (kind : TokenKind) → extends_level (suc level) kind ≡ false → arithmetic_in level kind ≡ None
arithmetic-none level (Mark m) h = above-none level (operator_of m) (or_false (goes_on_mark m) (below_level (suc level) (operator_of m)) h).1
arithmetic-none level (Number n) h = refl
arithmetic-none level (Name x) h = refl
arithmetic-none level (Format x) h = refl
arithmetic-none level (Word w) h = refl

logical-false : (level : ℕ) (kind : TokenKind) → extends_level (suc level) kind ≡ false → is_logical level kind ≡ false
logical-false level (Mark m) h = above-false level (operator_of m) (or_false (goes_on_mark m) (below_level (suc level) (operator_of m)) h).1
logical-false level (Number n) h = refl
logical-false level (Name x) h = refl
logical-false level (Format x) h = refl
logical-false level (Word w) h = refl

-- ---- what does not go on with a condition or an assignment

cond-level : (kind : TokenKind) → extends_cond kind ≡ false → extends_level 10 kind ≡ false
cond-level (Mark m) h = (or_false (extends_level 10 (Mark m)) (is_question m) h).0
cond-level (Number n) h = refl
cond-level (Name x) h = refl
cond-level (Format x) h = refl
cond-level (Word w) h = refl

question-same : (m : TheMark) → is_question m ≡ false → is_mark marks.Question (Mark m) ≡ false
question-same marks.Question h = cc
question-same m h = refl

cond-question : (kind : TokenKind) → extends_cond kind ≡ false → is_mark marks.Question kind ≡ false
cond-question (Mark m) h = question-same m (or_false (extends_level 10 (Mark m)) (is_question m) h).1
cond-question (Number n) h = refl
cond-question (Name x) h = refl
cond-question (Format x) h = refl
cond-question (Word w) h = refl

assign-cond : (kind : TokenKind) → extends_assign kind ≡ false → extends_cond kind ≡ false
assign-cond (Mark m) h = (or_false (extends_cond (Mark m)) (is_given (assigning_of m)) h).0
assign-cond (Number n) h = refl
assign-cond (Name x) h = refl
assign-cond (Format x) h = refl
assign-cond (Word w) h = refl

assign-none : (kind : TokenKind) → extends_assign kind ≡ false → assigning_in kind ≡ None
assign-none (Mark m) h = given_none (assigning_of m) (or_false (extends_cond (Mark m)) (is_given (assigning_of m)) h).1
assign-none (Number n) h = refl
assign-none (Name x) h = refl
assign-none (Format x) h = refl
assign-none (Word w) h = refl

-- an operator that assigns does not go on with a condition
pub assigning-ends : (m : TheMark) (x : Assigning) → assigning_of m ≡ Some x → extends_cond (Mark m) ≡ false
assigning-ends m x h = go m (ap is_given h)
  where
    go : (m : TheMark) → is_given (assigning_of m) ≡ true → extends_cond (Mark m) ≡ false
    go marks.Equal e = refl
    go marks.PlusEqual e = refl
    go marks.MinusEqual e = refl
    go marks.StarEqual e = refl
    go marks.SlashEqual e = refl
    go marks.PercentEqual e = refl
    go marks.AndEqual e = refl
    go marks.OrEqual e = refl
    go marks.CaretEqual e = refl
    go marks.ShiftLeftEqual e = refl
    go marks.ShiftRightEqual e = refl
    go m e = cc

-- ---- the same of what stands at a place

pub fewer : (j k : TokenKind → Bool) → ((kind : TokenKind) → j kind ≡ false → k kind ≡ false) → (a : Rest) → Without j a → Without k a
fewer j k h (rest n []) w = refl
fewer j k h (rest n (s ∷ us)) w = h s.token.kind w

pub gives_none : {A : Type 0} (j : TokenKind → Bool) (f : TokenKind → Option A) → ((kind : TokenKind) → j kind ≡ false → f kind ≡ None) → (a : Rest) → Without j a → next_gives f a ≡ None
gives_none j f h (rest n []) w = refl
gives_none j f h (rest n (s ∷ us)) w = h s.token.kind w

pub level-lower : (level : ℕ) (a : Rest) → Without (extends_level (suc level)) a → Without (extends_level level) a
level-lower level = fewer _ _ (level-ends level)

pub no_arithmetic : (level : ℕ) (a : Rest) → Without (extends_level (suc level)) a → next_gives (arithmetic_in level) a ≡ None
no_arithmetic level = gives_none _ _ (arithmetic-none level)

pub no_logical : (level : ℕ) (a : Rest) → Without (extends_level (suc level)) a → Without (is_logical level) a
no_logical level = fewer _ _ (logical-false level)

pub cond-operand : (a : Rest) → Without extends_cond a → Without (extends_level 10) a
cond-operand = fewer _ _ cond-level

pub no_question : (a : Rest) → Without extends_cond a → Without (is_mark marks.Question) a
no_question = fewer _ _ cond-question

pub assign-left : (a : Rest) → Without extends_assign a → Without extends_cond a
assign-left = fewer _ _ assign-cond

pub no_assigning : (a : Rest) → Without extends_assign a → next_gives assigning_in a ≡ None
no_assigning = gives_none _ _ assign-none
