-- The numbers among the tokens of a text have 64 bits.
use Rattle.std.proofs.Common.{◌≡◌, refl, sym, subst, ℕ, zero, suc, ◌+◌, ◌^◌, ◌<◌, ◌==◌, arith, Bool, true, false, not, ◌&&◌, ◌||◌, List, [], ◌∷◌, ◌++◌, length, take, drop}
use Rattle.std.specs.Prelude.{ℤ, pos, Option, Some, None, Result, Ok, Err, FitsSigned, nat_lt, nat_eq, codes, if◌then◌else◌}
use Rattle.std.specs.Int.{w64}
use Rattle.std.proofs.lemmas.Int.{fits_signed_from_abs}
use Rattle.std.specs.List.{prefix_len, starts_with}
use Rattle.std.specs.Str.{bytes_eq}
use Rattle.std.specs.Char.{is_ascii_digit}
use Rattle.sc_tree.specs.Names.{Text}
use Rattle.sc_tree.specs.declared.token.Token.{Token}
use Rattle.sc_tree.specs.declared.token.TokenKind.{TokenKind}
use Rattle.sc_tree.specs.declared.token.TokenKind.TheVariants as kind
use Rattle.sc_tree.specs.declared.token.Word.{Word}
use Rattle.sc_tree.specs.declared.token.Mark.{Mark}
use Rattle.sc_tree.specs.declared.lexed.Lexed.{Lexed}
use Rattle.sc_lexer.specs.declared.number.Numeral.{Numeral}
use Rattle.sc_lexer.specs.declared.refusal.Refused.{Refused}
use Rattle.sc_lexer.specs.declared.refusal.Refused.TheVariants.{BadToken, WideNumber, BadByte, BadDirective}
use Rattle.sc_lexer.specs.declared.refusal.LexError.TheVariants as errors
use Rattle.sc_lexer.specs.declared.element.Element.{Element}
use Rattle.sc_lexer.specs.declared.element.Found.{Found}
use Rattle.sc_lexer.specs.declared.element.Found.TheVariants as found
use Rattle.sc_lexer.specs.Class.{is_blank, is_name_start, is_name_byte, is_not_newline, begins_with}
use Rattle.sc_lexer.specs.Spelling.{word_of, mark_of}
use Rattle.sc_lexer.specs.Number.{numeral_size, numeral_value, number_at}
use Rattle.sc_lexer.specs.Format.{format_end}
use Rattle.sc_lexer.specs.Gap.{gap_at, only_gaps}
use Rattle.sc_lexer.specs.Defined.{Definitions, defined_value}
use Rattle.sc_lexer.specs.Element.{named, name_at, numbered, numeral_at, quoted, format_at, marked, mark_at, ends_line, defined_as, can_define, definition_at, directive_at, solid_at, or_solid, element_at}
use Rattle.sc_lexer.specs.Text.{State, start, with_named, taken, after, is_token, is_full, counted, element_of, Reaches, IsLexed}

-- ---- elements

abbrev pub IsSmallFound : Found → Type 0
IsSmallFound (found.Number value) = FitsSigned w64 value
IsSmallFound (found.Define from size value) = FitsSigned w64 value
IsSmallFound _ = Unit {0}

abbrev SmallNumeral : Result Numeral Refused → Type 0
SmallNumeral (Ok n) = FitsSigned w64 n.value
SmallNumeral (Err r) = Unit {0}

abbrev SmallElement : Result Element Refused → Type 0
SmallElement (Ok e) = IsSmallFound e.found
SmallElement (Err r) = Unit {0}

below-limit : (m n : ℕ) → nat_lt m n ≡ true → m < n
below-limit m n h = grind arith

small-number : (bytes : List ℕ) → SmallNumeral (number_at bytes)
unfolding number_at
small-number bytes = go (nat_lt (numeral_value bytes) (2 ^ 63)) refl
  where
    ends : (t : Bool) → FitsSigned w64 (pos (numeral_value bytes)) →
        SmallNumeral
        (if t then Err (BadToken (numeral_size bytes))
        else Ok (record { size = numeral_size bytes; value = pos (numeral_value bytes) }))
    ends true f = tt
    ends false f = f

    go : (t : Bool) → nat_lt (numeral_value bytes) (2 ^ 63) ≡ t →
        SmallNumeral
        (if t
        then (if begins_with is_name_byte (drop (numeral_size bytes) bytes) then Err (BadToken (numeral_size bytes))
        else Ok (record { size = numeral_size bytes; value = pos (numeral_value bytes) }))
        else Err WideNumber)
    go false e = tt
    go true e =
        ends (begins_with is_name_byte (drop (numeral_size bytes) bytes))
        (fits_signed_from_abs w64 (pos (numeral_value bytes)) (below-limit (numeral_value bytes) (2 ^ 63) e))

small-numeral : (bytes : List ℕ) → SmallElement (numeral_at bytes)
unfolding numeral_at
small-numeral bytes = go (number_at bytes) (small-number bytes)
  where
    go : (r : Result Numeral Refused) → SmallNumeral r → SmallElement (numbered r)
    go (Ok n) f = f
    go (Err e) f = tt

small-name : (bytes : List ℕ) → SmallElement (Ok (name_at bytes))
unfolding name_at
small-name bytes = go (word_of (take (prefix_len is_name_byte bytes) bytes))
  where
    go : (o : Option Word) → IsSmallFound (named o)
    go None = tt
    go (Some w) = tt

small-format : (bytes : List ℕ) → SmallElement (format_at bytes)
unfolding format_at
small-format bytes = go (format_end false 1 (drop 1 bytes))
  where
    go : (r : Result ℕ Refused) → SmallElement (quoted r)
    go (Ok n) = tt
    go (Err e) = tt

small-mark : (bytes : List ℕ) → SmallElement (mark_at bytes)
unfolding mark_at
small-mark bytes = go (mark_of bytes)
  where
    go : (o : Option Mark) → SmallElement (marked o)
    go None = tt
    go (Some m) = tt

small-defined : (line from size : ℕ) (bytes : List ℕ) → SmallElement (defined_as line from size bytes)
unfolding defined_as
small-defined line from size bytes = go (begins_with is_ascii_digit bytes)
  where
    ends : (t : Bool) (n : Numeral) → FitsSigned w64 n.value →
        SmallElement
        (if t then Ok (record { size = line; found = found.Define from size n.value }) else Err BadDirective)
    ends true n f = f
    ends false n f = tt

    with_number : (r : Result Numeral Refused) → SmallNumeral r → SmallElement (ends_line line from size bytes r)
    with_number (Ok n) f = ends (only_gaps (length (drop n.size bytes)) (drop n.size bytes)) n f
    with_number (Err e) f = tt

    go : (t : Bool) →
        SmallElement (if t then ends_line line from size bytes (number_at bytes) else Err BadDirective)
    go true = with_number (number_at bytes) (small-number bytes)
    go false = tt

small-definition : (defined : Definitions) (line : List ℕ) (place : ℕ) → SmallElement (definition_at defined line place)
unfolding definition_at
small-definition defined line place =
    let from = place + prefix_len is_blank (drop place line) in
    let name = drop from line in
    let size = prefix_len is_name_byte name in
    let rest = drop size name in
    go ((from == place) || not (can_define defined (take size name))) from size (drop (prefix_len is_blank rest) rest)
  where
    go : (t : Bool) (from size : ℕ) (bytes : List ℕ) →
        SmallElement (if t then Err BadDirective else defined_as (length line) from size bytes)
    go true from size bytes = tt
    go false from size bytes = small-defined (length line) from size bytes

small-directive : (defined : Definitions) (line : List ℕ) → SmallElement (directive_at defined line)
unfolding directive_at
small-directive defined line =
    let place = 1 + prefix_len is_blank (drop 1 line) in
    go (starts_with nat_eq (drop place line) (codes "include")) (starts_with nat_eq (drop place line) (codes "define")) place
  where
    go : (a b : Bool) (place : ℕ) →
        SmallElement
        (if a then Ok (record { size = length line; found = found.Include })
        else (if b then definition_at defined line (place + 6) else Err BadDirective))
    go true b place = tt
    go false true place = small-definition defined line (place + 6)
    go false false place = tt

small-solid : (fresh : Bool) (defined : Definitions) (bytes : List ℕ) → SmallElement (solid_at fresh defined bytes)
unfolding solid_at
small-solid fresh defined bytes =
    go (begins_with (λ b. b == 35) bytes) fresh (begins_with is_name_start bytes) (begins_with is_ascii_digit bytes)
    (begins_with (λ b. b == 34) bytes)
  where
    go : (hash fresh name digit quote : Bool) →
        SmallElement
        (if hash
        then (if fresh then directive_at defined (take (prefix_len is_not_newline bytes) bytes) else Err BadByte)
        else (if name then Ok (name_at bytes)
        else (if digit then numeral_at bytes
        else (if quote then format_at bytes
        else mark_at bytes))))
    go true true name digit quote = small-directive defined (take (prefix_len is_not_newline bytes) bytes)
    go true false name digit quote = tt
    go false fresh true digit quote = small-name bytes
    go false fresh false true quote = small-numeral bytes
    go false fresh false false true = small-format bytes
    go false fresh false false false = small-mark bytes

small-element : (fresh : Bool) (defined : Definitions) (bytes : List ℕ) → SmallElement (element_at fresh defined bytes)
unfolding element_at
small-element fresh defined bytes = go (gap_at bytes)
  where
    go : (o : Option ℕ) → SmallElement (or_solid fresh defined bytes o)
    go None = tt
    go (Some zero) = small-solid fresh defined bytes
    go (Some (suc n)) = tt

-- ---- tokens

abbrev pub IsSmall : TokenKind → Type 0
IsSmall (kind.Number n) = FitsSigned w64 n
IsSmall _ = Unit {0}

pub data AllSmall : List Token → Type 0 where
  none_small : AllSmall []
  more_small : {t : Token} {ts : List Token} → IsSmall t.kind → AllSmall ts → AllSmall (t ∷ ts)

small-push : {ts : List Token} (t : Token) → AllSmall ts → IsSmall t.kind → AllSmall (ts ++ t ∷ [])
small-push t none_small h = more_small h none_small
small-push t (more_small g gs) h = more_small g (small-push t gs h)

data SmallNames : Definitions → Type 0 where
  no_names : SmallNames []
  more_names : {d : Text × ℤ} {ds : Definitions} → FitsSigned w64 d.1 → SmallNames ds → SmallNames (d ∷ ds)

names-push : {ds : Definitions} (d : Text × ℤ) → SmallNames ds → FitsSigned w64 d.1 → SmallNames (ds ++ d ∷ [])
names-push d no_names h = more_names h no_names
names-push d (more_names g gs) h = more_names g (names-push d gs h)

abbrev SmallValue : Option ℤ → Type 0
SmallValue None = Unit {0}
SmallValue (Some n) = FitsSigned w64 n

names-value : (name : Text) {ds : Definitions} → SmallNames ds → SmallValue (defined_value name ds)
names-value name no_names = tt
names-value name (more_names {d = d} {ds = ds} g gs) = go (names-value name gs) (bytes_eq name d.0)
  where
    go : SmallValue (defined_value name ds) → (t : Bool) → SmallValue (if t then Some d.1 else defined_value name ds)
    go further true = g
    go further false = further

record SmallState (s : State) : Type 0 where
  pub tokens : AllSmall s.tokens
  pub names : SmallNames s.defined

small-taken : (s : State) (piece : List ℕ) (f : Found) → SmallState s → IsSmallFound f → SmallState (taken s piece f)
small-taken s piece found.Gap h g = h
small-taken s piece found.Include h g = h
small-taken s piece (found.Define from size value) h g =
    record { tokens = h.tokens; names = names-push (take size (drop from piece), value) h.names g }
small-taken s piece (found.Number value) h g =
    record { tokens = small-push (record { kind = kind.Number value; at = s.at; line = s.line }) h.tokens g; names = h.names }
small-taken s piece found.Name h g = go (defined_value piece s.defined) (names-value piece h.names)
  where
    go : (o : Option ℤ) → SmallValue o → SmallState (with_named s piece o)
    go None x = record { tokens = small-push _ h.tokens tt; names = h.names }
    go (Some n) x =
        record { tokens = small-push (record { kind = kind.Number n; at = s.at; line = s.line }) h.tokens x; names = h.names }
small-taken s piece found.Format h g = record { tokens = small-push _ h.tokens tt; names = h.names }
small-taken s piece (found.Word word) h g = record { tokens = small-push _ h.tokens tt; names = h.names }
small-taken s piece (found.Mark mark) h g = record { tokens = small-push _ h.tokens tt; names = h.names }

small-counted : (s : State) (r : Result Element Refused) (e : Element) → SmallElement r → counted s r ≡ Ok e →
    IsSmallFound e.found
small-counted s (Err x) e f h = absurd (let z : Err _ ≡ Ok e = h in cc)
small-counted s (Ok x) e f h = go (is_token x.found && is_full s) h
  where
    go : (t : Bool) → (if t then Err errors.TooManyTokens else Ok x) ≡ Ok e → IsSmallFound e.found
    go true g = absurd (let z : Err errors.TooManyTokens ≡ Ok e = g in cc)
    go false g =
        let same : x ≡ e = (let z : Ok x ≡ Ok e = g in cc) in
        subst (λ (e : Element). IsSmallFound e.found) same f

small-after : (text : List ℕ) (s : State) (e : Element) → SmallState s → element_of text s ≡ Ok e →
    SmallState (after text s e)
small-after text s e h is =
    let t =
    small-taken s (take e.size (drop s.at text)) e.found h
    (small-counted s (element_at s.fresh s.defined (drop s.at text)) e
    (small-element s.fresh s.defined (drop s.at text)) is) in
    record { tokens = t.tokens; names = t.names }

small-reaches : (text : List ℕ) (s : State) (es : List Element) (t : State) → SmallState s → Reaches text s es t →
    SmallState t
small-reaches text s [] t h r = subst (λ (t : State). SmallState t) r h
small-reaches text s (e ∷ es) t h r = small-reaches text (after text s e) es t (small-after text s e h r.1) r.2

pub small-lexed : (text : List ℕ) (lexed : Lexed) → IsLexed text lexed → AllSmall lexed.tokens
small-lexed text lexed is =
    let t = small-reaches text start is.0 is.1 (record { tokens = none_small; names = no_names }) is.2 in
    subst (λ (l : Lexed). AllSmall l.tokens) (sym is.4) t.tokens
