-- A text that is read, as pieces: each element with its own bytes and with the bytes that stand before it.
use Rattle.std.specs.Prelude.{ℕ, ◌+◌, ◌<◌, ◌≤◌, ◌==◌, Bool, true, false, List, [], ◌∷◌, ◌++◌, take, drop, length, filter, flat_map}
use Rattle.sc_lexer.specs.declared.element.Element.{Element}
use Rattle.sc_lexer.specs.declared.element.Found.{Found}
use Rattle.sc_lexer.specs.declared.element.Found.TheVariants as found
use Rattle.sc_lexer.specs.Text.{is_token}

pub record Piece : Type 0 where
  pub before : List ℕ
  pub bytes : List ℕ
  pub found : Found

-- the pieces of the bytes that are left, behind those that stand before them
abbrev pub pieces_behind : List ℕ → List ℕ → List Element → List Piece
pieces_behind before rest [] = []
pieces_behind before rest (e ∷ es) =
    record { before = before; bytes = take e.size rest; found = e.found } ∷
    pieces_behind (before ++ take e.size rest) (drop e.size rest) es

abbrev pub pieces : List ℕ → List Element → List Piece
pieces text es = pieces_behind [] text es

-- the bytes of the pieces, one piece after the other
abbrev pub joined : List Piece → List ℕ
joined ps = flat_map (λ (p : Piece). p.bytes) ps

-- the pieces that are tokens
abbrev pub token_pieces : List Piece → List Piece
token_pieces ps = filter (λ (p : Piece). is_token p.found) ps

abbrev pub is_directive : Found → Bool
is_directive found.Include = true
is_directive (found.Define from size value) = true
is_directive found.Gap = false
is_directive (found.Number value) = false
is_directive found.Name = false
is_directive found.Format = false
is_directive (found.Word word) = false
is_directive (found.Mark mark) = false

-- the byte at this place, counted from the first of the text, is one of the piece
pub record Covers (p : Piece) (place : ℕ) : Type 0 where
  pub from : length p.before ≤ place
  pub below : place < length p.before + length p.bytes
