-- How what stands at file scope is read, with so many levels of depth left.
use Rattle.std.specs.Prelude.{ℕ, zero, suc, List, [], ◌∷◌, ◌++◌, Option, Some, None, Bool, true, false}
use Rattle.sc_base.specs.declared.shape.Star.{Star}
use Rattle.sc_base.specs.declared.shape.Ty.{Ty}
use Rattle.sc_base.specs.declared.shape.BoundStep.{BoundStep}
use Rattle.sc_base.specs.declared.shape.BoundStep.TheVariants as step
use Rattle.sc_base.specs.declared.shape.Bound.{Bound}
use Rattle.sc_base.specs.declared.shape.Shape.{Shape}
use Rattle.sc_tree.specs.declared.token.TokenKind.{TokenKind}
use Rattle.sc_tree.specs.declared.token.TokenKind.TheVariants.{Number, Word, Mark}
use Rattle.sc_tree.specs.declared.token.Word.TheVariants as words
use Rattle.sc_tree.specs.declared.token.Mark.TheVariants as marks
use Rattle.sc_tree.specs.declared.tree.Param.{Param}
use Rattle.sc_tree.specs.PlainStmt.{Statements}
use Rattle.sc_tree.specs.ViewStmt.{statements_of}
use Rattle.sc_grammar.specs.declared.position.Position.{Position}
use Rattle.sc_grammar.specs.Statements.{int_with}
use Rattle.sc_grammar.specs.Items.{Item, objects, function}
use Rattle.sc_grammar.proofs.Reading.{Parser, ◌>>=◌, pure, fail, here, is_mark, is_word, mark, word, maybe, a_name, name_in, if_taken, if_next, if_given, many, no_deeper}
use Rattle.sc_grammar.proofs.ReadingExpressions.{stars, assigned, number_in, arithmetic_in}
use Rattle.sc_grammar.proofs.ReadingStatements.{block_after, statement}

-- ---- bounds

-- whether some bound begins with such a token
abbrev pub begins_bound : TokenKind → Bool
begins_bound (Number n) = true
begins_bound (Word words.Procs) = true
begins_bound (Mark marks.OpenRound) = true
begins_bound _ = false

abbrev pub steps_in : List (List BoundStep) → List BoundStep
steps_in [] = []
steps_in (p ∷ ps) = p ++ steps_in ps

-- over how a bound in parentheses is read
module _ (inner : Parser (List BoundStep)) where
  unfoldable pub unit : Parser (List BoundStep)
  unit =
      if_given number_in (λ n. pure (step.Number n ∷ [])) (
      if_taken (is_word words.Procs) (pure (step.Procs ∷ [])) (
      if_taken (is_mark marks.OpenRound) (inner >>= λ all. mark marks.CloseRound >>= λ _. pure all) fail))

  unfoldable pub one_factor : Parser (Option (List BoundStep))
  one_factor = if_given (arithmetic_in 0) (λ op. unit >>= λ p. pure (Some (p ++ step.Op op ∷ []))) (pure None)

  unfoldable pub product : Parser (List BoundStep)
  product = unit >>= λ first. many one_factor >>= λ more. pure (first ++ steps_in more)

  unfoldable pub one_summand : Parser (Option (List BoundStep))
  one_summand = if_given (arithmetic_in 1) (λ op. product >>= λ p. pure (Some (p ++ step.Op op ∷ []))) (pure None)

  unfoldable pub sum : Parser (List BoundStep)
  sum = product >>= λ first. many one_summand >>= λ more. pure (first ++ steps_in more)

unfoldable pub bound : ℕ → Parser (List BoundStep)
bound zero = no_deeper begins_bound
bound (suc k) = sum (bound k)

-- ---- objects

module _ (levels : ℕ) where
  unfoldable pub one_bound : Parser (Option Bound)
  one_bound =
      if_taken (is_mark marks.OpenSquare)
      (here >>= λ p. bound levels >>= λ all. mark marks.CloseSquare >>= λ _. pure (Some (record { steps = all; line = p.line })))
      (pure None)

  abbrev pub shape_of : List Star → Position → ℕ → Bool → (left right : List Bound) → Shape
  shape_of ss p x is_spread left right =
      record { name = x; ty = int_with ss; spread = is_spread; left = left; right = right; at = p.at; line = p.line }

  unfoldable pub after_left : List Star → Position → ℕ → List Bound → Parser Shape
  after_left ss p x [] = pure (shape_of ss p x false [] [])
  after_left ss p x (b ∷ bs) =
      if_taken (is_mark marks.ColonColon)
      (many one_bound >>= λ right. pure (shape_of ss p x true (b ∷ bs) right))
      (pure (shape_of ss p x false (b ∷ bs) []))

  -- after the name
  unfoldable pub declarator_after : List Star → Position → ℕ → Parser Shape
  declarator_after ss p x = many one_bound >>= λ left. after_left ss p x left

  unfoldable pub declarator : Parser Shape
  declarator = stars >>= λ ss. here >>= λ p. a_name >>= λ x. declarator_after ss p x

  unfoldable pub one_more_declarator : Parser (Option Shape)
  one_more_declarator = if_taken (is_mark marks.Comma) (declarator >>= λ s. pure (Some s)) (pure None)

  -- ---- functions

  abbrev pub param_of : Position → List Star → Option ℕ → Param
  param_of p ss x = record { name = x; ty = int_with ss; at = p.at }

  unfoldable pub param : Parser Param
  param = here >>= λ p. word words.Int >>= λ _. stars >>= λ ss. maybe name_in >>= λ x. pure (param_of p ss x)

  unfoldable pub one_more_param : Parser (Option Param)
  one_more_param = if_taken (is_mark marks.Comma) (param >>= λ q. pure (Some q)) (pure None)

  unfoldable pub params : Parser (List Param)
  params =
      if_next (is_mark marks.CloseRound) (pure []) (
      if_taken (is_word words.Void) (pure []) (
      param >>= λ q. many one_more_param >>= λ qs. pure (q ∷ qs)))

  unfoldable pub body : Parser (Option Statements)
  body =
      if_taken (is_mark marks.Semicolon) (pure None) (
      mark marks.OpenCurly >>= λ _. block_after (assigned levels) (statement levels) >>= λ ss. pure (Some (statements_of ss)))

  abbrev pub function_of : Ty → Position → ℕ → List Param → Option Statements → Item
  function_of result p x qs b =
      function (record { name = x; result = result; params = qs; body = b; at = p.at; line = p.line })

  -- after the parenthesis behind the name
  unfoldable pub function_after : Ty → Position → ℕ → Parser Item
  function_after result p x =
      params >>= λ qs. mark marks.CloseRound >>= λ _. body >>= λ b. pure (function_of result p x qs b)

  unfoldable pub function_named : Ty → Parser Item
  function_named result = here >>= λ p. a_name >>= λ x. mark marks.OpenRound >>= λ _. function_after result p x

  -- ---- items

  unfoldable pub objects_after : List Star → Position → ℕ → Parser Item
  objects_after ss p x =
      declarator_after ss p x >>= λ s. many one_more_declarator >>= λ more. mark marks.Semicolon >>= λ _.
      pure (objects (s ∷ more))

  unfoldable pub after_int : Parser Item
  after_int =
      stars >>= λ ss. here >>= λ p. a_name >>= λ x.
      if_taken (is_mark marks.OpenRound) (function_after (int_with ss) p x) (objects_after ss p x)

  abbrev pub void_type : Ty
  void_type = record { void = true; stars = [] }

  unfoldable pub item : Parser Item
  item =
      if_taken (is_word words.Int) after_int (
      if_taken (is_word words.Void) (function_named void_type) (function_named (int_with [])))

  abbrev pub is_some_kind : TokenKind → Bool
  is_some_kind k = true

  unfoldable pub one_more_item : Parser (Option Item)
  one_more_item = if_next is_some_kind (item >>= λ x. pure (Some x)) (pure None)

  unfoldable pub items : Parser (List Item)
  items = item >>= λ x. many one_more_item >>= λ xs. pure (x ∷ xs)
