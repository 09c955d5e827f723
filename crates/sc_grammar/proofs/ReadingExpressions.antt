-- How expressions are read, with so many levels of depth left.
use Rattle.std.specs.Prelude.{ℕ, zero, suc, ℤ, List, [], ◌∷◌, Option, Some, None, Bool, true, false, nat_eq, nat_lt, if◌then◌else◌}
use Rattle.sc_base.specs.declared.operator.Binary.{Binary}
use Rattle.sc_base.specs.declared.shape.Star.{Star}
use Rattle.sc_base.specs.declared.shape.Star.TheVariants as star
use Rattle.sc_tree.specs.declared.token.TokenKind.{TokenKind}
use Rattle.sc_tree.specs.declared.token.TokenKind.TheVariants.{Number, Name, Format, Word, Mark}
use Rattle.sc_tree.specs.declared.token.Word.{Word as TheWord}
use Rattle.sc_tree.specs.declared.token.Word.TheVariants as words
use Rattle.sc_tree.specs.declared.token.Mark.{Mark as TheMark}
use Rattle.sc_tree.specs.declared.token.Mark.TheVariants as marks
use Rattle.sc_tree.specs.Plain.{Expression, expression, Kind, number, null, my_proc, procs, size_int, name, format, choice, assign, cast, call, Link, link, Tail, index, up, down}
use Rattle.sc_tree.specs.View.{expressions_of, links_of, tails_of}
use Rattle.sc_grammar.specs.declared.operators.Operator.{Operator}
use Rattle.sc_grammar.specs.declared.operators.Assigning.{Assigning}
use Rattle.sc_grammar.specs.declared.operators.Prefix.{Prefix}
use Rattle.sc_grammar.specs.declared.position.Position.{Position}
use Rattle.sc_grammar.specs.Marks.{operator_of, assigning_of, prefix_of, prefixed}
use Rattle.sc_grammar.specs.Expressions.{around, chained, listed, tailed}
use Rattle.sc_grammar.proofs.Reading.{Parser, ◌>>=◌, pure, fail, here, too_deep, is_mark, is_word, mark, word, mark_by, if_taken, if_next, if_given, many, no_deeper, is_given}

-- ---- tokens

abbrev pub begins_word : TheWord → Bool
begins_word words.Null = true
begins_word words.MyProc = true
begins_word words.Procs = true
begins_word words.Sizeof = true
begins_word _ = false

abbrev pub begins_mark : TheMark → Bool
begins_mark marks.OpenRound = true
begins_mark m = is_given (prefix_of m)

-- whether some expression begins with such a token
abbrev pub begins_expression : TokenKind → Bool
begins_expression (Number n) = true
begins_expression (Name x) = true
begins_expression (Format x) = false
begins_expression (Word w) = begins_word w
begins_expression (Mark m) = begins_mark m

abbrev pub number_in : TokenKind → Option ℤ
number_in (Number n) = Some n
number_in _ = None

abbrev pub format_in : TokenKind → Option ℕ
format_in (Format x) = Some x
format_in _ = None

abbrev pub at_level : ℕ → Option Operator → Option Binary
at_level level None = None
at_level level (Some o) = if nat_eq o.level level then o.op else None

-- an operator that joins operands of the level
abbrev pub arithmetic_in : ℕ → TokenKind → Option Binary
arithmetic_in level = mark_by (λ m. at_level level (operator_of m))

abbrev pub has_no_op : Option Binary → Bool
has_no_op None = true
has_no_op (Some op) = false

abbrev pub is_logical_at : ℕ → Option Operator → Bool
is_logical_at level None = false
is_logical_at level (Some o) = if nat_eq o.level level then has_no_op o.op else false

abbrev pub is_logical : ℕ → TokenKind → Bool
is_logical level (Mark m) = is_logical_at level (operator_of m)
is_logical level _ = false

abbrev pub prefix_in : TokenKind → Option Prefix
prefix_in = mark_by prefix_of

abbrev pub is_prefix : TokenKind → Bool
is_prefix k = is_given (prefix_in k)

abbrev pub assigning_in : TokenKind → Option Assigning
assigning_in = mark_by assigning_of

-- ---- trees

abbrev pub placed_at : Position → Kind → Expression
placed_at p kind = expression kind p.at p.at p.line

-- an expression with its own token at a place of its own
abbrev pub between : Position → Position → Kind → Expression
between start p kind = expression kind start.at p.at p.line

-- ---- stars

abbrev pub star_kind : Parser (Option Star)
star_kind =
    if_taken (is_word words.Global) (pure (Some star.Global)) (
    if_taken (is_word words.Spread) (pure (Some star.Spread)) (pure (Some star.Local)))

unfoldable pub one_star : Parser (Option Star)
one_star = if_taken (is_mark marks.Star) star_kind (pure None)

unfoldable pub stars : Parser (List Star)
stars = many one_star

-- ---- primary and postfix expressions, over how an `assign` inside is read

module _ (value : Parser Expression) where
  unfoldable pub argument : Parser Expression
  argument = here >>= λ p. if_given format_in (λ x. pure (placed_at p (format x))) value

  unfoldable pub one_more_argument : Parser (Option Expression)
  one_more_argument = if_taken (is_mark marks.Comma) (argument >>= λ e. pure (Some e)) (pure None)

  unfoldable pub arguments : Parser (List Expression)
  arguments =
      if_next (is_mark marks.CloseRound) (pure []) (
      argument >>= λ e. many one_more_argument >>= λ es. pure (e ∷ es))

  unfoldable pub after_name : Position → ℕ → Parser Expression
  after_name p x =
      if_taken (is_mark marks.OpenRound)
      (arguments >>= λ es. mark marks.CloseRound >>= λ _. pure (placed_at p (call x (expressions_of es))))
      (pure (placed_at p (name x)))

  unfoldable pub index_after : Position → Parser (Option Tail)
  index_after p = value >>= λ e. mark marks.CloseSquare >>= λ _. pure (Some (index e p.at p.line))

  unfoldable pub one_tail : Parser (Option Tail)
  one_tail =
      here >>= λ p.
      if_taken (is_mark marks.OpenSquare) (index_after p) (
      if_taken (is_mark marks.PlusPlus) (pure (Some (up p.at p.line))) (
      if_taken (is_mark marks.MinusMinus) (pure (Some (down p.at p.line))) (pure None)))

  -- the tails of an expression that starts there
  unfoldable pub with_tails : Position → Expression → Parser Expression
  with_tails start first = many one_tail >>= λ ts. pure (tailed start.at start.line first (tails_of ts))

unfoldable pub size_of : Position → Parser Expression
size_of p =
    mark marks.OpenRound >>= λ _. word words.Int >>= λ _. mark marks.CloseRound >>= λ _. pure (placed_at p size_int)

unfoldable pub by_word : Position → Parser Expression
by_word p =
    if_taken (is_word words.Null) (pure (placed_at p null)) (
    if_taken (is_word words.MyProc) (pure (placed_at p my_proc)) (
    if_taken (is_word words.Procs) (pure (placed_at p procs)) (
    if_taken (is_word words.Sizeof) (size_of p) fail)))

-- a primary expression that is in no parentheses
unfoldable pub plain_primary : Parser Expression → Position → Parser Expression
plain_primary value p =
    if_given number_in (λ n. pure (placed_at p (number n))) (
    if_given Rattle.sc_grammar.proofs.Reading.name_in (λ x. after_name value p x) (by_word p))

-- ---- unary expressions, over how one of the next depth is read, if there may be any

module _ (value : Parser Expression) where
  -- after the operator
  unfoldable pub prefix_after : Position → Parser Expression → Prefix → Parser Expression
  prefix_after p operand x = operand >>= λ e. pure (placed_at p (prefixed x e))

  -- an operator before an operand, unless that would be too deep
  abbrev pub if_prefix : Position → Option (Parser Expression) → Parser Expression → Parser Expression
  if_prefix p None otherwise = if_next is_prefix too_deep otherwise
  if_prefix p (Some operand) otherwise = if_given prefix_in (prefix_after p operand) otherwise

  -- after the type word
  unfoldable pub cast_after : Position → Parser Expression → Parser Expression
  cast_after p operand =
      stars >>= λ ss. mark marks.CloseRound >>= λ _. operand >>= λ e. pure (placed_at p (cast ss e))

  -- a cast, unless that would be too deep
  abbrev pub if_cast : Position → Option (Parser Expression) → Parser Expression → Parser Expression
  if_cast p None otherwise = if_next (is_word words.Int) too_deep otherwise
  if_cast p (Some operand) otherwise = if_taken (is_word words.Int) (cast_after p operand) otherwise

  -- after the parenthesis
  unfoldable pub parenthesis_after : Position → Parser Expression
  parenthesis_after p =
      value >>= λ e. mark marks.CloseRound >>= λ _. with_tails value p (around p.at p.line e)

  unfoldable pub no_prefix : Position → Parser Expression
  no_prefix p = plain_primary value p >>= λ e. with_tails value p e

  unfoldable pub unary_by : Option (Parser Expression) → Parser Expression
  unary_by operand =
      here >>= λ p.
      if_prefix p operand (
      if_taken (is_mark marks.OpenRound) (if_cast p operand (parenthesis_after p)) (no_prefix p))

-- ---- the ten levels of operators, over how an operand is read

module _ (operand : Parser Expression) where
  unfoldable pub one_link : ℕ → Parser (Option Link)
  one_link level =
      here >>= λ p. if_given (arithmetic_in level) (λ op. operand >>= λ e. pure (Some (link op e p.at p.line))) (pure None)

  unfoldable pub one_operand : ℕ → Parser (Option Expression)
  one_operand level = if_taken (is_logical level) (operand >>= λ e. pure (Some e)) (pure None)

  unfoldable pub with_links : ℕ → Position → Expression → Parser Expression
  with_links level start first = many (one_link level) >>= λ ls. pure (chained start.at start.line first (links_of ls))

  unfoldable pub with_operands : ℕ → Position → Expression → Parser Expression
  with_operands level start first =
      many (one_operand level) >>= λ es. pure (listed level start.at start.line first (expressions_of es))

  abbrev pub joined : ℕ → Position → Expression → Parser Expression
  joined level start first = if nat_lt level 8 then with_links level start first else with_operands level start first

unfoldable pub level_by : Parser Expression → ℕ → Parser Expression
level_by unary zero = unary
level_by unary (suc level) = here >>= λ start. level_by unary level >>= λ first. joined (level_by unary level) level start first

-- ---- conditions and assignments

module _ (test value other : Parser Expression) where
  unfoldable pub choice_after : Position → Position → Expression → Parser Expression
  choice_after start p e =
      value >>= λ yes. mark marks.Colon >>= λ _. other >>= λ no. pure (between start p (choice e yes no))

  unfoldable pub cond_by : Parser Expression
  cond_by =
      here >>= λ start. test >>= λ e. here >>= λ p.
      if_taken (is_mark marks.Question) (choice_after start p e) (pure e)

unfoldable pub assign_by : (left right : Parser Expression) → Parser Expression
assign_by left right =
    here >>= λ start. left >>= λ e. here >>= λ p.
    if_given assigning_in (λ x. right >>= λ value. pure (between start p (assign x.op e value))) (pure e)

-- ---- by the levels of depth that are left

abbrev pub cond_over : (operand value other : Parser Expression) → Parser Expression
cond_over operand value other = cond_by (level_by operand 10) value other

unfoldable mutual
  pub unary : ℕ → Parser Expression
  unary zero = unary_by (no_deeper begins_expression) None
  unary (suc k) = unary_by (assign_by (cond_over (unary k) (assigned k) (branched k)) (assigned k)) (Some (unary k))

  pub assigned : ℕ → Parser Expression
  assigned zero = no_deeper begins_expression
  assigned (suc k) = assign_by (cond_over (unary k) (assigned k) (branched k)) (assigned k)

  pub branched : ℕ → Parser Expression
  branched zero = no_deeper begins_expression
  branched (suc k) = cond_over (unary k) (assigned k) (branched k)

unfoldable pub cond : ℕ → Parser Expression
cond k = cond_over (unary k) (assigned k) (branched k)

-- how an operand of the next depth is read, if there may be any
abbrev pub operand_at : ℕ → Option (Parser Expression)
operand_at zero = None
operand_at (suc k) = Some (unary k)
