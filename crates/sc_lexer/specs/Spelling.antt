-- How each reserved word and each mark of the language is spelled: those of C (ISO/IEC 9899, "Keywords" and
-- "Punctuators") that the language keeps, and those of Split-C (Culler and others, "Introduction to Split-C").
use Rattle.std.specs.Prelude.{ℕ, List, [], ◌∷◌, Option, find, nat_eq, codes}
use Rattle.std.specs.List.{starts_with}
use Rattle.std.specs.Str.{bytes_eq}
use Rattle.sc_tree.specs.Names.{Text}
use Rattle.sc_tree.specs.declared.token.Word.{Word}
use Rattle.sc_tree.specs.declared.token.Word.TheVariants as word
use Rattle.sc_tree.specs.declared.token.Mark.{Mark}
use Rattle.sc_tree.specs.declared.token.Mark.TheVariants as mark

abbrev pub word_text : Word → Text
word_text word.Int = codes "int"
word_text word.Void = codes "void"
word_text word.If = codes "if"
word_text word.Else = codes "else"
word_text word.While = codes "while"
word_text word.Do = codes "do"
word_text word.For = codes "for"
word_text word.Return = codes "return"
word_text word.Break = codes "break"
word_text word.Continue = codes "continue"
word_text word.Global = codes "global"
word_text word.Spread = codes "spread"
word_text word.Sizeof = codes "sizeof"
word_text word.ForMine = codes "for_my_1d"
word_text word.Null = codes "NULL"
word_text word.MyProc = codes "MYPROC"
word_text word.Procs = codes "PROCS"
word_text word.Auto = codes "auto"
word_text word.Char = codes "char"
word_text word.Const = codes "const"
word_text word.Default = codes "default"
word_text word.Case = codes "case"
word_text word.Double = codes "double"
word_text word.Enum = codes "enum"
word_text word.Extern = codes "extern"
word_text word.Float = codes "float"
word_text word.Goto = codes "goto"
word_text word.Long = codes "long"
word_text word.Register = codes "register"
word_text word.Short = codes "short"
word_text word.Signed = codes "signed"
word_text word.Static = codes "static"
word_text word.Struct = codes "struct"
word_text word.Switch = codes "switch"
word_text word.Typedef = codes "typedef"
word_text word.Union = codes "union"
word_text word.Unsigned = codes "unsigned"
word_text word.Volatile = codes "volatile"

abbrev pub mark_text : Mark → Text
mark_text mark.ShiftLeftEqual = codes "<<="
mark_text mark.ShiftRightEqual = codes ">>="
mark_text mark.ColonColon = codes "::"
mark_text mark.ColonEqual = codes ":="
mark_text mark.ColonMinus = codes ":-"
mark_text mark.EqualEqual = codes "=="
mark_text mark.NotEqual = codes "!="
mark_text mark.LessEqual = codes "<="
mark_text mark.GreaterEqual = codes ">="
mark_text mark.ShiftLeft = codes "<<"
mark_text mark.ShiftRight = codes ">>"
mark_text mark.AndAnd = codes "&&"
mark_text mark.OrOr = codes "||"
mark_text mark.PlusPlus = codes "++"
mark_text mark.MinusMinus = codes "--"
mark_text mark.PlusEqual = codes "+="
mark_text mark.MinusEqual = codes "-="
mark_text mark.StarEqual = codes "*="
mark_text mark.SlashEqual = codes "/="
mark_text mark.PercentEqual = codes "%="
mark_text mark.AndEqual = codes "&="
mark_text mark.OrEqual = codes "|="
mark_text mark.CaretEqual = codes "^="
mark_text mark.OpenRound = codes "("
mark_text mark.CloseRound = codes ")"
mark_text mark.OpenSquare = codes "["
mark_text mark.CloseSquare = codes "]"
mark_text mark.OpenCurly = codes "{"
mark_text mark.CloseCurly = codes "}"
mark_text mark.Semicolon = codes ";"
mark_text mark.Comma = codes ","
mark_text mark.Question = codes "?"
mark_text mark.Colon = codes ":"
mark_text mark.Equal = codes "="
mark_text mark.Plus = codes "+"
mark_text mark.Minus = codes "-"
mark_text mark.Star = codes "*"
mark_text mark.Slash = codes "/"
mark_text mark.Percent = codes "%"
mark_text mark.And = codes "&"
mark_text mark.Or = codes "|"
mark_text mark.Caret = codes "^"
mark_text mark.Tilde = codes "~"
mark_text mark.Not = codes "!"
mark_text mark.Less = codes "<"
mark_text mark.Greater = codes ">"

-- every reserved word
abbrev pub words : List Word
words =
    word.Int ∷ word.Void ∷ word.If ∷ word.Else ∷ word.While ∷ word.Do ∷ word.For ∷ word.Return ∷
    word.Break ∷
    word.Continue ∷ word.Global ∷ word.Spread ∷ word.Sizeof ∷ word.ForMine ∷ word.Null ∷ word.MyProc ∷
    word.Procs ∷ word.Auto ∷ word.Char ∷ word.Const ∷ word.Default ∷ word.Case ∷
    word.Double ∷ word.Enum ∷
    word.Extern ∷ word.Float ∷ word.Goto ∷ word.Long ∷ word.Register ∷ word.Short ∷ word.Signed ∷
    word.Static ∷
    word.Struct ∷ word.Switch ∷ word.Typedef ∷ word.Union ∷ word.Unsigned ∷ word.Volatile ∷ []

-- every mark, the longer ones first
abbrev pub marks : List Mark
marks =
    mark.ShiftLeftEqual ∷ mark.ShiftRightEqual ∷ mark.ColonColon ∷ mark.ColonEqual ∷ mark.ColonMinus ∷
    mark.EqualEqual ∷ mark.NotEqual ∷ mark.LessEqual ∷ mark.GreaterEqual ∷ mark.ShiftLeft ∷
    mark.ShiftRight ∷
    mark.AndAnd ∷ mark.OrOr ∷ mark.PlusPlus ∷ mark.MinusMinus ∷ mark.PlusEqual ∷ mark.MinusEqual ∷
    mark.StarEqual ∷ mark.SlashEqual ∷ mark.PercentEqual ∷ mark.AndEqual ∷ mark.OrEqual ∷ mark.CaretEqual ∷
    mark.OpenRound ∷ mark.CloseRound ∷ mark.OpenSquare ∷ mark.CloseSquare ∷ mark.OpenCurly ∷
    mark.CloseCurly ∷
    mark.Semicolon ∷ mark.Comma ∷ mark.Question ∷ mark.Colon ∷ mark.Equal ∷ mark.Plus ∷
    mark.Minus ∷ mark.Star ∷
    mark.Slash ∷ mark.Percent ∷ mark.And ∷ mark.Or ∷ mark.Caret ∷ mark.Tilde ∷ mark.Not ∷ mark.Less ∷
    mark.Greater ∷ []

-- the reserved word that the name is
unfoldable pub word_of : Text → Option Word
word_of name = find (λ w. bytes_eq name (word_text w)) words

-- the first mark of the list, so the longest, that the bytes begin with
unfoldable pub mark_of : List ℕ → Option Mark
mark_of bytes = find (λ m. starts_with nat_eq bytes (mark_text m)) marks
