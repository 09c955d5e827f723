-- The elements of a text, each the longest at its place: blanks and comments, directives, and tokens. These are the
-- preprocessing tokens of C (ISO/IEC 9899, "Lexical elements" and "Preprocessing directives") in the part that the
-- language has.
use Rattle.std.specs.Prelude.{ℕ, zero, suc, ◌+◌, ◌==◌, Bool, false, not, ◌||◌, ◌&&◌, List, Option, Some, None, Result, Ok, Err, if◌then◌else◌, is_none, take, drop, length, codes, nat_eq}
use Rattle.std.specs.List.{prefix_len, starts_with}
use Rattle.std.specs.Char.{is_ascii_digit}
use Rattle.sc_tree.specs.Names.{Text}
use Rattle.sc_tree.specs.declared.token.Word.{Word}
use Rattle.sc_tree.specs.declared.token.Mark.{Mark}
use Rattle.sc_lexer.specs.declared.number.Numeral.{Numeral}
use Rattle.sc_lexer.specs.declared.refusal.Refused.{Refused}
use Rattle.sc_lexer.specs.declared.refusal.Refused.TheVariants.{BadByte, OpenComment, BadDirective}
use Rattle.sc_lexer.specs.declared.element.Element.{Element}
use Rattle.sc_lexer.specs.declared.element.Found.{Found}
use Rattle.sc_lexer.specs.declared.element.Found.TheVariants as found
use Rattle.sc_lexer.specs.Class.{is_blank, is_name_start, is_name_byte, is_not_newline, begins_with}
use Rattle.sc_lexer.specs.Spelling.{mark_text, word_of, mark_of}
use Rattle.sc_lexer.specs.Number.{number_at}
use Rattle.sc_lexer.specs.Format.{format_end}
use Rattle.sc_lexer.specs.Gap.{gap_at, only_gaps}
use Rattle.sc_lexer.specs.Defined.{Definitions, defined_value}

-- a name goes as far as bytes of a name do, and may be a reserved word
abbrev pub named : Option Word → Found
named None = found.Name
named (Some word) = found.Word word

unfoldable pub name_at : List ℕ → Element
name_at bytes =
    let size = prefix_len is_name_byte bytes in
    record { size = size; found = named (word_of (take size bytes)) }

abbrev pub numbered : Result Numeral Refused → Result Element Refused
numbered (Ok numeral) = Ok (record { size = numeral.size; found = found.Number numeral.value })
numbered (Err refused) = Err refused

unfoldable pub numeral_at : List ℕ → Result Element Refused
numeral_at bytes = numbered (number_at bytes)

abbrev pub quoted : Result ℕ Refused → Result Element Refused
quoted (Ok size) = Ok (record { size = size; found = found.Format })
quoted (Err refused) = Err refused

unfoldable pub format_at : List ℕ → Result Element Refused
format_at bytes = quoted (format_end false 1 (drop 1 bytes))

abbrev pub marked : Option Mark → Result Element Refused
marked (Some mark) = Ok (record { size = length (mark_text mark); found = found.Mark mark })
marked None = Err BadByte

unfoldable pub mark_at : List ℕ → Result Element Refused
mark_at bytes = marked (mark_of bytes)

-- a definition ends its line after its number, but for blanks and comments that end on the line
abbrev pub ends_line : ℕ → ℕ → ℕ → List ℕ → Result Numeral Refused → Result Element Refused
ends_line line from size number (Ok numeral) =
    if only_gaps (length (drop numeral.size number)) (drop numeral.size number)
    then Ok (record { size = line; found = found.Define from size numeral.value })
    else Err BadDirective
ends_line line from size number (Err refused) = Err BadDirective

unfoldable pub defined_as : ℕ → ℕ → ℕ → List ℕ → Result Element Refused
defined_as line from size number =
    if begins_with is_ascii_digit number then ends_line line from size number (number_at number)
    else Err BadDirective

-- whether a directive may define the name: it is one, no reserved word, and not defined yet
unfoldable pub can_define : Definitions → Text → Bool
can_define defined name =
    (begins_with is_name_start name && is_none (word_of name)) && is_none (defined_value name defined)

-- the definition on the line, from the place after the word `define` on: blanks, a name, blanks, and a number
unfoldable pub definition_at : Definitions → List ℕ → ℕ → Result Element Refused
definition_at defined line place =
    let from = place + prefix_len is_blank (drop place line) in
    let name = drop from line in
    let size = prefix_len is_name_byte name in
    let rest = drop size name in
    if (from == place) || not (can_define defined (take size name)) then Err BadDirective
    else defined_as (length line) from size (drop (prefix_len is_blank rest) rest)

-- the directive on the line, which begins with `#`
unfoldable pub directive_at : Definitions → List ℕ → Result Element Refused
directive_at defined line =
    let place = 1 + prefix_len is_blank (drop 1 line) in
    if starts_with nat_eq (drop place line) (codes "include")
    then Ok (record { size = length line; found = found.Include })
    else (if starts_with nat_eq (drop place line) (codes "define") then definition_at defined line (place + 6)
    else Err BadDirective)

-- the directive or token at the front of the bytes: a `#` begins a directive only where nothing but blanks stands
-- before it on its line
unfoldable pub solid_at : Bool → Definitions → List ℕ → Result Element Refused
solid_at fresh defined bytes =
    if begins_with (λ b. b == 35) bytes
    then (if fresh then directive_at defined (take (prefix_len is_not_newline bytes) bytes) else Err BadByte)
    else (if begins_with is_name_start bytes then Ok (name_at bytes)
    else (if begins_with is_ascii_digit bytes then numeral_at bytes
    else (if begins_with (λ b. b == 34) bytes then format_at bytes
    else mark_at bytes)))

abbrev pub or_solid : Bool → Definitions → List ℕ → Option ℕ → Result Element Refused
or_solid fresh defined bytes None = Err OpenComment
or_solid fresh defined bytes (Some zero) = solid_at fresh defined bytes
or_solid fresh defined bytes (Some (suc n)) = Ok (record { size = suc n; found = found.Gap })

-- the element at the front of the bytes, or why there is none
unfoldable pub element_at : Bool → Definitions → List ℕ → Result Element Refused
element_at fresh defined bytes = or_solid fresh defined bytes (gap_at bytes)
