-- A whole text as its elements one after another, and the first place where there is none. This follows the
-- translation phases of C (ISO/IEC 9899), which take the longest element at each place from the left.
use Rattle.std.specs.Prelude.{◌≡◌, ℕ, ◌+◌, ◌<◌, ◌≤◌, ◌^◌, ℤ, Bool, true, false, ◌&&◌, ◌||◌, List, [], ◌∷◌, ◌++◌, Option, Some, None, Result, Ok, Err, if◌then◌else◌, nat_le, take, drop, length, count_by}
use Rattle.sc_base.specs.declared.limits.TheConstants.{LIMITS}
use Rattle.sc_tree.specs.Names.{Text, number_of, with_name}
use Rattle.sc_tree.specs.declared.token.Token.{Token}
use Rattle.sc_tree.specs.declared.token.TokenKind.{TokenKind}
use Rattle.sc_tree.specs.declared.token.TokenKind.TheVariants as kind
use Rattle.sc_tree.specs.declared.lexed.Lexed.{Lexed}
use Rattle.sc_lexer.specs.declared.refusal.Refused.{Refused}
use Rattle.sc_lexer.specs.declared.refusal.Refused.TheVariants as refused
use Rattle.sc_lexer.specs.declared.refusal.LexError.{LexError}
use Rattle.sc_lexer.specs.declared.refusal.LexError.TheVariants as errors
use Rattle.sc_lexer.specs.declared.element.Element.{Element}
use Rattle.sc_lexer.specs.declared.element.Found.{Found}
use Rattle.sc_lexer.specs.declared.element.Found.TheVariants as found
use Rattle.sc_lexer.specs.Class.{is_blank, is_newline}
use Rattle.sc_lexer.specs.Format.{format_text}
use Rattle.sc_lexer.specs.Defined.{Definitions, defined_value}
use Rattle.sc_lexer.specs.Element.{element_at}

-- a place in a text with what stands before it: its line, whether only blanks stand before it on that line, the names
-- that directives defined, the tokens, and the names and formats that these number
pub record State : Type 0 where
  pub at : ℕ
  pub line : ℕ
  pub fresh : Bool
  pub defined : Definitions
  pub tokens : List Token
  pub names : List Text
  pub texts : List Text

abbrev pub start : State
start = record { at = 0; line = 1; fresh = true; defined = []; tokens = []; names = []; texts = [] }

abbrev pub with_token : State → TokenKind → State
with_token s kind = record s { tokens = s.tokens ++ record { kind = kind; at = s.at; line = s.line } ∷ [] }

-- a name is the number that it was defined as, or else has its number among the names
abbrev pub with_named : State → Text → Option ℤ → State
with_named s name (Some value) = with_token s (kind.Number value)
with_named s name None = with_token (record s { names = with_name name s.names }) (kind.Name (number_of name s.names))

abbrev pub with_format : State → Text → State
with_format s text = with_token (record s { texts = with_name text s.texts }) (kind.Format (number_of text s.texts))

-- what an element with these bytes adds
abbrev pub taken : State → List ℕ → Found → State
taken s piece found.Gap = s
taken s piece found.Include = s
taken s piece (found.Define from size value) =
    record s { defined = s.defined ++ (take size (drop from piece), value) ∷ [] }
taken s piece (found.Number value) = with_token s (kind.Number value)
taken s piece found.Name = with_named s piece (defined_value piece s.defined)
taken s piece found.Format = with_format s (format_text piece)
taken s piece (found.Word word) = with_token s (kind.Word word)
taken s piece (found.Mark mark) = with_token s (kind.Mark mark)

-- a definition is of a name in the element that is not defined yet, and a format has its two quotes
abbrev pub IsTakeable : Definitions → List ℕ → Found → Type 0
IsTakeable defined piece found.Gap = Unit {0}
IsTakeable defined piece found.Include = Unit {0}
IsTakeable defined piece (found.Define from size value) =
    (from + size ≤ length piece) × (defined_value (take size (drop from piece)) defined ≡ None)
IsTakeable defined piece (found.Number value) = Unit {0}
IsTakeable defined piece found.Name = Unit {0}
IsTakeable defined piece found.Format = 2 ≤ length piece
IsTakeable defined piece (found.Word word) = Unit {0}
IsTakeable defined piece (found.Mark mark) = Unit {0}

-- whether only blanks stand on the line before what follows these bytes
abbrev pub is_fresh_after : Bool → List ℕ → Bool
is_fresh_after fresh [] = fresh
is_fresh_after fresh (b ∷ bs) = is_fresh_after (is_newline b || (fresh && is_blank b)) bs

-- the place after these bytes
abbrev pub moved : State → List ℕ → State
moved s piece = record s {
  at = s.at + length piece;
  line = s.line + count_by is_newline piece;
  fresh = is_fresh_after s.fresh piece;
}

abbrev pub after : List ℕ → State → Element → State
after text s e = let piece = take e.size (drop s.at text) in moved (taken s piece e.found) piece

-- which elements are tokens; and a token has begun where a later byte of it is bad, but for a wide number
abbrev pub is_token : Found → Bool
is_token found.Gap = false
is_token found.Include = false
is_token (found.Define from size value) = false
is_token (found.Number value) = true
is_token found.Name = true
is_token found.Format = true
is_token (found.Word word) = true
is_token (found.Mark mark) = true

abbrev pub begins_token : Refused → Bool
begins_token refused.BadByte = false
begins_token (refused.BadToken offset) = true
begins_token refused.OpenComment = false
begins_token refused.WideNumber = false
begins_token refused.BadDirective = false

-- the name of a bad place
abbrev pub named_at : State → Refused → LexError
named_at s refused.BadByte = errors.BadByte s.at
named_at s (refused.BadToken offset) = errors.BadByte (s.at + offset)
named_at s refused.OpenComment = errors.OpenComment s.at
named_at s refused.WideNumber = errors.WideNumber s.at
named_at s refused.BadDirective = errors.BadDirective s.line

-- a bad place that has a number of 32 bits
abbrev pub IsNear : State → Refused → Type 0
IsNear s refused.BadByte = Unit {0}
IsNear s (refused.BadToken offset) = s.at + offset < 2 ^ 32
IsNear s refused.OpenComment = Unit {0}
IsNear s refused.WideNumber = Unit {0}
IsNear s refused.BadDirective = Unit {0}

-- whether the text has as many tokens already as it may have
abbrev pub is_full : State → Bool
is_full s = nat_le LIMITS.tokens (length s.tokens)

-- the element, unless it is one token too many; or the refusal
abbrev pub counted : State → Result Element Refused → Result Element LexError
counted s (Ok e) = if is_token e.found && is_full s then Err errors.TooManyTokens else Ok e
counted s (Err r) = Err (if begins_token r && is_full s then errors.TooManyTokens else named_at s r)

abbrev pub element_of : List ℕ → State → Result Element LexError
element_of text s = counted s (element_at s.fresh s.defined (drop s.at text))

-- an element leads from s to t
abbrev pub Steps : List ℕ → State → State → Type 0
Steps text s t = (e : Element) × (element_of text s ≡ Ok e) × (t ≡ after text s e)

-- from s on the text has these elements one after another, and t is the place after them
abbrev pub Reaches : List ℕ → State → List Element → State → Type 0
Reaches text s [] t = s ≡ t
Reaches text s (e ∷ es) t = (s.at < length text) × (element_of text s ≡ Ok e) × Reaches text (after text s e) es t

abbrev pub lexed_of : State → Lexed
lexed_of s = record { tokens = s.tokens; names = s.names; texts = s.texts }

-- the text is such elements from its first byte to its last, and these are its tokens
abbrev pub IsLexed : List ℕ → Lexed → Type 0
IsLexed text lexed = (es : List Element) × (t : State) × Reaches text start es t × (t.at ≡ length text)
    × (lexed ≡ lexed_of t)

-- the text is such elements up to a place where it has no element that it may have, for this reason
abbrev pub IsRefused : List ℕ → LexError → Type 0
IsRefused text error = (es : List Element) × (t : State) × Reaches text start es t × (t.at < length text)
    × (element_of text t ≡ Err error)
