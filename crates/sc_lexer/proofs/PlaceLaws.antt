-- Where tokens stand: the lines of a text, and which places are at the beginning of a line.
use Rattle.std.proofs.Common.{◌≡◌, ℕ, ◌+◌, refl, sym, ap, ◌∙◌, subst, Bool, true, false, List, [], ◌∷◌, ◌++◌, length, take, drop, Option, Some, None}
use Rattle.std.specs.Prelude.{ℤ, not, cond, ◌&&◌, ◌||◌, count_by, take_while, reverse, All}
use Rattle.std.specs.List.{list_all}
use Rattle.std.proofs.lemmas.List.{reverse-append, reverse-reverse}
use Rattle.std.proofs.lemmas.List.Sums.{take_while-cons}
use Rattle.std.proofs.lemmas.List.Elements.{All-nil, All-push, All-same}
use Rattle.sc_tree.specs.Names.{number_of}
use Rattle.sc_tree.specs.declared.token.Token.{Token}
use Rattle.sc_tree.specs.declared.token.TokenKind.{TokenKind}
use Rattle.sc_tree.specs.declared.token.TokenKind.TheVariants as kind
use Rattle.sc_tree.specs.declared.lexed.Lexed.{Lexed}
use Rattle.sc_lexer.specs.declared.element.Element.{Element}
use Rattle.sc_lexer.specs.declared.element.Found.{Found}
use Rattle.sc_lexer.specs.declared.element.Found.TheVariants as found
use Rattle.sc_lexer.specs.Class.{is_blank, is_newline, is_not_newline}
use Rattle.sc_lexer.specs.Defined.{defined_value}
use Rattle.sc_lexer.specs.Format.{format_text}
use Rattle.sc_lexer.specs.Text.{State, start, with_token, with_named, taken, after, is_fresh_after, Reaches, IsLexed}
use Rattle.sc_lexer.specs.Placed.{IsOnItsLine, is_line_start}
use Rattle.sc_lexer.proofs.PieceLaws.{Stands, start-stands, front_there, next-stands, is_fresh_after-append}

-- ---- lines

token-on-line : (text before rest : List ℕ) (s : State) (k : TokenKind) → Stands text before rest s → IsOnItsLine text (record { kind = k; at = s.at; line = s.line })
token-on-line text before rest s k stands =
    let front : take s.at text ≡ before = ap (λ n. take n text) stands.place ∙ front_there text before rest stands.split in
    stands.line ∙ ap (λ (l : List ℕ). 1 + count_by is_newline l) (sym front)

pushed : (text before rest : List ℕ) (s : State) (k : TokenKind) → Stands text before rest s → All (IsOnItsLine text) s.tokens → All (IsOnItsLine text) (with_token s k).tokens
pushed text before rest s k stands all = All-push (IsOnItsLine text) s.tokens (record { kind = k; at = s.at; line = s.line }) all (token-on-line text before rest s k stands)

named-pushed : (text before rest : List ℕ) (s : State) (piece : List ℕ) (o : Option ℤ) → Stands text before rest s → All (IsOnItsLine text) s.tokens → All (IsOnItsLine text) (with_named s piece o).tokens
named-pushed text before rest s piece None stands all = pushed text before rest s (kind.Name (number_of piece s.names)) stands all
named-pushed text before rest s piece (Some v) stands all = pushed text before rest s (kind.Number v) stands all

taken-pushed : (text before rest : List ℕ) (s : State) (piece : List ℕ) (f : Found) → Stands text before rest s → All (IsOnItsLine text) s.tokens → All (IsOnItsLine text) (taken s piece f).tokens
taken-pushed text before rest s piece found.Gap stands all = all
taken-pushed text before rest s piece found.Include stands all = all
taken-pushed text before rest s piece (found.Define from size value) stands all = all
taken-pushed text before rest s piece (found.Number v) stands all = pushed text before rest s (kind.Number v) stands all
taken-pushed text before rest s piece found.Name stands all = named-pushed text before rest s piece (defined_value piece s.defined) stands all
taken-pushed text before rest s piece found.Format stands all = pushed text before rest s (kind.Format (number_of (format_text piece) s.texts)) stands all
taken-pushed text before rest s piece (found.Word word) stands all = pushed text before rest s (kind.Word word) stands all
taken-pushed text before rest s piece (found.Mark mark) stands all = pushed text before rest s (kind.Mark mark) stands all

lines-on : (text before rest : List ℕ) (s : State) (es : List Element) (t : State) → Stands text before rest s → Reaches text s es t → All (IsOnItsLine text) s.tokens → All (IsOnItsLine text) t.tokens
lines-on text before rest s [] t stands r all = All-same (IsOnItsLine text) t.tokens s.tokens (ap (λ (x : State). x.tokens) (sym r)) all
lines-on text before rest s (e ∷ es) t stands r all =
    lines-on text (before ++ take e.size rest) (drop e.size rest) (after text s e) es t (next-stands text before rest s e stands r.0 r.1) r.2
    (taken-pushed text before rest s (take e.size (drop s.at text)) e.found stands all)

pub all-on-lines : (text : List ℕ) (a : Lexed) → IsLexed text a → All (IsOnItsLine text) a.tokens
all-on-lines text a is =
    All-same (IsOnItsLine text) a.tokens is.1.tokens (ap (λ (l : Lexed). l.tokens) is.4)
    (lines-on text [] text start is.0 is.1 (start-stands text) is.2 (All-nil (IsOnItsLine text)))

-- ---- fresh lines

fresh-cons : (newline blank : Bool) (blanks : Bool) (x : ℕ) (line : List ℕ) → list_all is_blank line ≡ blanks → is_blank x ≡ blank → (newline || (blanks && blank)) ≡ list_all is_blank (cond (not newline) (x ∷ line) [])
fresh-cons true blank blanks x line e f = refl
fresh-cons false true true x line e f = rw f (sym e)
fresh-cons false true false x line e f = rw f (sym e)
fresh-cons false false true x line e f = rw f refl
fresh-cons false false false x line e f = rw f refl

fresh-back : (r : List ℕ) → is_fresh_after true (reverse r) ≡ list_all is_blank (take_while is_not_newline r)
fresh-back [] = refl
fresh-back (x ∷ r) =
    ap (is_fresh_after true) (reverse-append (x ∷ []) r)
    ∙ is_fresh_after-append true (reverse r) (x ∷ [])
    ∙ ap (λ b. is_newline x || (b && is_blank x)) (fresh-back r)
    ∙ fresh-cons (is_newline x) (is_blank x) (list_all is_blank (take_while is_not_newline r)) x (take_while is_not_newline r) refl refl
    ∙ ap (list_all is_blank) (sym (take_while-cons is_not_newline x r))

pub fresh-is-start : (before : List ℕ) → is_fresh_after true before ≡ is_line_start before
fresh-is-start before = ap (is_fresh_after true) (sym (reverse-reverse before)) ∙ fresh-back (reverse before)
