-- How statements are read, with so many levels of depth left.
use Rattle.std.specs.Prelude.{ℕ, zero, suc, ◌-◌, List, [], ◌∷◌, length, Option, Some, None, Bool, true, false}
use Rattle.sc_tree.specs.declared.token.TokenKind.{TokenKind}
use Rattle.sc_tree.specs.declared.token.TokenKind.TheVariants.{Word, Mark}
use Rattle.sc_tree.specs.declared.token.Word.{Word as TheWord}
use Rattle.sc_tree.specs.declared.token.Word.TheVariants as words
use Rattle.sc_tree.specs.declared.token.Mark.{Mark as TheMark}
use Rattle.sc_tree.specs.declared.token.Mark.TheVariants as marks
use Rattle.sc_tree.specs.Plain.{Expression}
use Rattle.sc_tree.specs.PlainStmt.{Declared, Statement, block, empty, declare, simple, split, choose, choose_else, while_, do_while, for_, for_mine, return, break, continue, Arm, arm}
use Rattle.sc_tree.specs.ViewStmt.{statements_of, arms_of}
use Rattle.sc_grammar.specs.declared.position.Position.{Position}
use Rattle.sc_grammar.specs.Statements.{int_with}
use Rattle.sc_grammar.proofs.Reading.{Parser, ◌>>=◌, pure, fail, here, is_mark, other_than, is_word, mark, word, a_name, if_taken, if_next, many, no_deeper}
use Rattle.sc_grammar.proofs.ReadingExpressions.{begins_expression, begins_mark, begins_word, stars, assigned}

-- ---- tokens

abbrev pub begins_statement_word : TheWord → Bool
begins_statement_word words.If = true
begins_statement_word words.While = true
begins_statement_word words.Do = true
begins_statement_word words.For = true
begins_statement_word words.ForMine = true
begins_statement_word words.Return = true
begins_statement_word words.Break = true
begins_statement_word words.Continue = true
begins_statement_word w = begins_word w

abbrev pub begins_statement_mark : TheMark → Bool
begins_statement_mark marks.OpenCurly = true
begins_statement_mark marks.Semicolon = true
begins_statement_mark m = begins_mark m

-- whether some statement begins with such a token
abbrev pub begins_statement : TokenKind → Bool
begins_statement (Word w) = begins_statement_word w
begins_statement (Mark m) = begins_statement_mark m
begins_statement k = begins_expression k

-- ---- over how an `assign` and a statement inside are read

-- the arms after the first, and what stands after the last `else`
pub record Elses : Type 0 where
  pub arms : List Arm
  pub last : Option Statement

abbrev pub no_elses : Elses
no_elses = record { arms = []; last = None }

abbrev pub with_arm : Arm → Elses → Elses
with_arm x r = record { arms = x ∷ r.arms; last = r.last }

abbrev pub last_else : Statement → Elses
last_else s = record { arms = []; last = Some s }

abbrev pub if_with : List Arm → Option Statement → Statement
if_with xs None = choose (arms_of xs)
if_with xs (Some s) = choose_else (arms_of xs) s

abbrev pub if_of : Arm → Elses → Statement
if_of x r = if_with (x ∷ r.arms) r.last

-- the expressions in the parentheses of a `for`
pub record ForParts : Type 0 where
  pub first : Option Expression
  pub test : Option Expression
  pub next : Option Expression

module _ (value : Parser Expression) where
  -- ---- locals

  unfoldable pub initial : Parser (Option Expression)
  initial = if_taken (is_mark marks.Equal) (value >>= λ e. pure (Some e)) (pure None)

  unfoldable pub local : Parser Declared
  local =
      stars >>= λ ss. here >>= λ p. a_name >>= λ x. initial >>= λ init.
      pure (record { name = x; ty = int_with ss; init = init; at = p.at; line = p.line })

  unfoldable pub one_more_local : Parser (Option Declared)
  one_more_local = if_taken (is_mark marks.Comma) (local >>= λ l. pure (Some l)) (pure None)

  -- after `int`
  unfoldable pub locals : Parser Statement
  locals =
      local >>= λ l. many one_more_local >>= λ ls. mark marks.Semicolon >>= λ _. pure (declare (l ∷ ls))

  -- ---- what is left out before a mark

  unfoldable pub optional_before : TheMark → Parser (Option Expression)
  optional_before m = if_next (is_mark m) (pure None) (value >>= λ e. pure (Some e))

  unfoldable pub optional_until : TheMark → Parser (Option Expression)
  optional_until m = optional_before m >>= λ e. mark m >>= λ _. pure e

  -- what a `for` has in its parentheses
  unfoldable pub for_parts : Parser ForParts
  for_parts =
      optional_until marks.Semicolon >>= λ first. optional_until marks.Semicolon >>= λ e.
      optional_until marks.CloseRound >>= λ next. pure (record { first = first; test = e; next = next })

  -- "(" assign ")"
  unfoldable pub condition : Parser Expression
  condition = mark marks.OpenRound >>= λ _. value >>= λ e. mark marks.CloseRound >>= λ _. pure e

  -- after the left side
  unfoldable pub split_after : Bool → Position → Expression → Parser Statement
  split_after oneway p left =
      value >>= λ right. mark marks.Semicolon >>= λ _. pure (split left right oneway p.at p.line)

  unfoldable pub by_expression : Parser Statement
  by_expression =
      value >>= λ e. here >>= λ p.
      if_taken (is_mark marks.Semicolon) (pure (simple e)) (
      if_taken (is_mark marks.ColonEqual) (split_after false p e) (
      if_taken (is_mark marks.ColonMinus) (split_after true p e) fail))

  unfoldable pub return_after : Position → Parser Statement
  return_after p =
      optional_before marks.Semicolon >>= λ e. mark marks.Semicolon >>= λ _. pure (return e p.at p.line)

module _ (value : Parser Expression) (inner : Parser Statement) where
  -- ---- blocks

  unfoldable pub one_part : Parser (Option Statement)
  one_part =
      if_next (other_than marks.CloseCurly)
      (if_taken (is_word words.Int) (locals value >>= λ s. pure (Some s)) (inner >>= λ s. pure (Some s)))
      (pure None)

  -- after the brace
  unfoldable pub block_after : Parser (List Statement)
  block_after = many one_part >>= λ ss. mark marks.CloseCurly >>= λ _. pure ss

  -- ---- statements, after their first word

  unfoldable pub arm_after : Parser Arm
  arm_after = condition value >>= λ e. inner >>= λ s. pure (arm e s)

  -- at most so many arms
  unfoldable pub elses_by : ℕ → Parser Elses
  elses_by zero = pure no_elses
  elses_by (suc k) =
      if_taken (is_word words.Else)
      (if_taken (is_word words.If)
      (arm_after >>= λ x. elses_by k >>= λ r. pure (with_arm x r))
      (inner >>= λ s. pure (last_else s)))
      (pure no_elses)

  -- no more than there are tokens
  unfoldable pub elses : Parser Elses
  elses = λ ts n. elses_by (length ts - n) ts n

  unfoldable pub if_after : Parser Statement
  if_after = arm_after >>= λ x. elses >>= λ r. pure (if_of x r)

  unfoldable pub while_after : Parser Statement
  while_after = condition value >>= λ e. inner >>= λ s. pure (while_ e s)

  unfoldable pub do_after : Parser Statement
  do_after =
      inner >>= λ s. word words.While >>= λ _. condition value >>= λ e. mark marks.Semicolon >>= λ _. pure (do_while s e)

  unfoldable pub for_after : Parser Statement
  for_after =
      mark marks.OpenRound >>= λ _. optional_before value marks.Semicolon >>= λ first.
      mark marks.Semicolon >>= λ _. optional_before value marks.Semicolon >>= λ e.
      mark marks.Semicolon >>= λ _. optional_before value marks.CloseRound >>= λ next.
      mark marks.CloseRound >>= λ _. inner >>= λ s. pure (for_ first e next s)

  unfoldable pub for_mine_after : Parser Statement
  for_mine_after =
      mark marks.OpenRound >>= λ _. here >>= λ p. a_name >>= λ x. mark marks.Comma >>= λ _. value >>= λ e.
      mark marks.CloseRound >>= λ _. inner >>= λ s. pure (for_mine x e s p.at p.line)

  unfoldable pub by_other_word : Position → Parser Statement
  by_other_word p =
      if_taken (is_word words.Return) (return_after value p) (
      if_taken (is_word words.Break) (mark marks.Semicolon >>= λ _. pure (break p.at)) (
      if_taken (is_word words.Continue) (mark marks.Semicolon >>= λ _. pure (continue p.at)) (by_expression value)))

  unfoldable pub by_loop_word : Position → Parser Statement
  by_loop_word p =
      if_taken (is_word words.While) while_after (
      if_taken (is_word words.Do) do_after (
      if_taken (is_word words.For) for_after (
      if_taken (is_word words.ForMine) for_mine_after (by_other_word p))))

  unfoldable pub statement_by : Parser Statement
  statement_by =
      here >>= λ p.
      if_taken (is_mark marks.OpenCurly) (block_after >>= λ ss. pure (block (statements_of ss))) (
      if_taken (is_mark marks.Semicolon) (pure empty) (
      if_taken (is_word words.If) if_after (by_loop_word p)))

-- ---- by the levels of depth that are left

unfoldable pub statement : ℕ → Parser Statement
statement zero = no_deeper begins_statement
statement (suc k) = statement_by (assigned k) (statement k)
