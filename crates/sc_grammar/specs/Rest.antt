-- Tokens at their places in a sentence, and what taking one of them leaves to read.
use Rattle.std.specs.Prelude.{ℕ, ◌+◌, List, [], ◌∷◌}
use Rattle.sc_tree.specs.declared.token.Token.{Token}
use Rattle.sc_tree.specs.declared.token.TokenKind.{TokenKind}

-- A token of a sentence and its depth there: the number of the rules `statement`, `assign`, `branch`, `prefix` and
-- `bound` that contain it.
pub record Spelt : Type 0 where
  pub token : Token
  pub depth : ℕ

-- how many tokens were read before, and those that are left
pub data Rest : Type 0 where
  rest : (before : ℕ) → List Spelt → Rest

-- the number of the first token that is left, counted from 1
abbrev pub number_of : Rest → ℕ
number_of (rest before left) = before + 1

abbrev pub line_in : List Spelt → ℕ
line_in [] = 0
line_in (s ∷ left) = s.token.line

-- the line of the first token that is left
abbrev pub line_of : Rest → ℕ
line_of (rest before left) = line_in left

-- the first token that is left is of this kind, and at this depth
pub data Takes : TokenKind → (depth : ℕ) → Rest → Rest → Type 0 where
  takes : {kind : TokenKind} {depth place line before : ℕ} {left : List Spelt} →
      Takes kind depth
      (rest before (record { token = record { kind = kind; at = place; line = line }; depth = depth } ∷ left))
      (rest (before + 1) left)

-- the kinds and the lines of tokens without their depths
abbrev pub tokens_of : List Spelt → List Token
tokens_of [] = []
tokens_of (s ∷ left) = s.token ∷ tokens_of left
