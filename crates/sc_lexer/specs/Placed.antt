-- Where tokens and directives of a text stand.
use Rattle.std.specs.Prelude.{◌≡◌, ℕ, ◌+◌, ◌==◌, Bool, true, List, take, length, count_by, map, take_while, reverse}
use Rattle.std.specs.List.{list_all}
use Rattle.sc_tree.specs.declared.token.Token.{Token}
use Rattle.sc_lexer.specs.Class.{is_blank, is_newline, is_not_newline, begins_with}
use Rattle.sc_lexer.specs.Piece.{Piece, token_pieces, is_directive}

-- the token's line is one more than the number of newlines before its place
abbrev pub IsOnItsLine : List ℕ → Token → Type 0
IsOnItsLine text token = token.line ≡ 1 + count_by is_newline (take token.at text)

-- the tokens are the pieces that are tokens, in order, each at the number of bytes before it
abbrev pub StandAt : List Token → List Piece → Type 0
StandAt tokens ps = map (λ (t : Token). t.at) tokens ≡ map (λ (p : Piece). length p.before) (token_pieces ps)

-- back from the end of these bytes to the newline before it there are only blanks
abbrev pub is_line_start : List ℕ → Bool
is_line_start before = list_all is_blank (take_while is_not_newline (reverse before))

-- the piece is a directive that begins at this place
pub record IsDirectiveAt (p : Piece) (place : ℕ) : Type 0 where
  pub begins : length p.before ≡ place
  pub directive : is_directive p.found ≡ true

-- the pieces that begin with `#` are the directives, and only blanks stand before them on their line
pub record IsMarkedOff (p : Piece) : Type 0 where
  pub hash : begins_with (λ b. b == 35) p.bytes ≡ is_directive p.found
  pub start : is_directive p.found ≡ true → is_line_start p.before ≡ true
