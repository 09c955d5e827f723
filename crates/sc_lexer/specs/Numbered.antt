-- The tokens of a text beside its pieces: what each is, and which of the text's names and formats it numbers.
use Rattle.std.specs.Prelude.{◌≡◌, ℕ, ℤ, List, [], ◌∷◌, Option, Some, None, take, drop, length, zip, filter, filter_map, flat_map, slice_get, nat_lt}
use Rattle.sc_tree.specs.Names.{Text, distinct}
use Rattle.sc_tree.specs.declared.token.Token.{Token}
use Rattle.sc_tree.specs.declared.token.TokenKind.{TokenKind}
use Rattle.sc_tree.specs.declared.token.TokenKind.TheVariants as kind
use Rattle.sc_tree.specs.declared.lexed.Lexed.{Lexed}
use Rattle.sc_lexer.specs.declared.element.Found.{Found}
use Rattle.sc_lexer.specs.declared.element.Found.TheVariants as found
use Rattle.sc_lexer.specs.Defined.{Definitions, defined_value}
use Rattle.sc_lexer.specs.Format.{format_text}
use Rattle.sc_lexer.specs.Piece.{Piece, token_pieces}

-- each token with its piece
abbrev pub with_pieces : List Token → List Piece → List (Token × Piece)
with_pieces tokens ps = zip tokens (token_pieces ps)

-- the name that a token is, with these bytes, and the format that it is
abbrev pub name_of : TokenKind → List ℕ → Option Text
name_of (kind.Name number) bytes = Some bytes
name_of (kind.Format number) bytes = None
name_of (kind.Number value) bytes = None
name_of (kind.Word word) bytes = None
name_of (kind.Mark mark) bytes = None

abbrev pub format_of : TokenKind → List ℕ → Option Text
format_of (kind.Format number) bytes = Some (format_text bytes)
format_of (kind.Name number) bytes = None
format_of (kind.Number value) bytes = None
format_of (kind.Word word) bytes = None
format_of (kind.Mark mark) bytes = None

-- the names of the tokens, and their formats, in the order of the text
abbrev pub names_of : List (Token × Piece) → List Text
names_of tokens = filter_map (λ (t : Token × Piece). name_of t.0.kind t.1.bytes) tokens

abbrev pub formats_of : List (Token × Piece) → List Text
formats_of tokens = filter_map (λ (t : Token × Piece). format_of t.0.kind t.1.bytes) tokens

-- a name token has the number of its name, and a format token that of its format
abbrev pub HasNumber : Lexed → TokenKind → List ℕ → Type 0
HasNumber lexed (kind.Name number) bytes = slice_get lexed.names number ≡ Some bytes
HasNumber lexed (kind.Format number) bytes = slice_get lexed.texts number ≡ Some (format_text bytes)
HasNumber lexed (kind.Number value) bytes = Unit {0}
HasNumber lexed (kind.Word word) bytes = Unit {0}
HasNumber lexed (kind.Mark mark) bytes = Unit {0}

-- what the directives among the pieces define, in their order
abbrev pub definition_of : Found → List ℕ → Definitions
definition_of (found.Define from size value) bytes = (take size (drop from bytes), value) ∷ []
definition_of found.Include bytes = []
definition_of found.Gap bytes = []
definition_of (found.Number value) bytes = []
definition_of found.Name bytes = []
definition_of found.Format bytes = []
definition_of (found.Word word) bytes = []
definition_of (found.Mark mark) bytes = []

abbrev pub definitions_of : List Piece → Definitions
definitions_of ps = flat_map (λ (p : Piece). definition_of p.found p.bytes) ps

-- the pieces that begin before this place
abbrev pub pieces_before : List Piece → ℕ → List Piece
pieces_before ps place = filter (λ (p : Piece). nat_lt (length p.before) place) ps

-- a name that is defined is the number that it was defined as
abbrev pub IsNameKind : Option ℤ → TokenKind → Type 0
IsNameKind (Some value) k = k ≡ kind.Number value
IsNameKind None k = (number : ℕ) × (k ≡ kind.Name number)

-- the kind of token that is found with these bytes, where these names are defined
abbrev pub IsKind : Definitions → Found → List ℕ → TokenKind → Type 0
IsKind defined (found.Number value) bytes k = k ≡ kind.Number value
IsKind defined (found.Word word) bytes k = k ≡ kind.Word word
IsKind defined (found.Mark mark) bytes k = k ≡ kind.Mark mark
IsKind defined found.Name bytes k = IsNameKind (defined_value bytes defined) k
IsKind defined found.Format bytes k = (number : ℕ) × (k ≡ kind.Format number)
IsKind defined found.Gap bytes k = ⊥
IsKind defined found.Include bytes k = ⊥
IsKind defined (found.Define from size value) bytes k = ⊥

-- the token is what its piece says, where the directives before it define names
abbrev pub IsWhatItSays : List Piece → Token × Piece → Type 0
IsWhatItSays ps t = IsKind (definitions_of (pieces_before ps (length t.1.before))) t.1.found t.1.bytes t.0.kind

-- the names and the formats are the distinct ones of the tokens in order of first appearance
pub record IsNumbered (lexed : Lexed) (ps : List Piece) : Type 0 where
  pub names : lexed.names ≡ distinct (names_of (with_pieces lexed.tokens ps))
  pub texts : lexed.texts ≡ distinct (formats_of (with_pieces lexed.tokens ps))
