-- The refusals of the parts as refusals of the whole.
use Rattle.sc_lexer.specs.declared.refusal.LexError.{LexError}
use Rattle.sc_lexer.specs.declared.refusal.LexError.TheVariants as lexing
use Rattle.sc_grammar.specs.declared.error.ParseError.{ParseError}
use Rattle.sc_grammar.specs.declared.error.ParseError.TheVariants as parsing
use Rattle.sc_layout.specs.declared.error.LayoutError.{LayoutError}
use Rattle.sc_layout.specs.declared.error.LayoutError.TheVariants as laying
use Rattle.sc_typing.specs.declared.answer.CheckError.{CheckError}
use Rattle.sc_typing.specs.declared.answer.CheckError.TheVariants as checking
use Rattle.front_end.specs.declared.refusal.Refusal.TheVariants as refusal
use Rattle.front_end.specs.declared.refusal.CompileError.{CompileError}
use Rattle.front_end.specs.declared.refusal.CompileError.TheVariants.{Refused, OutOfMemory}

abbrev pub of_lexing : LexError → CompileError
of_lexing (lexing.BadByte at) = Refused (refusal.BadByte at)
of_lexing (lexing.OpenComment at) = Refused (refusal.OpenComment at)
of_lexing (lexing.WideNumber at) = Refused (refusal.WideNumber at)
of_lexing (lexing.BadDirective line) = Refused (refusal.BadDirective line)
of_lexing lexing.TooManyTokens = Refused refusal.TooManyTokens
of_lexing lexing.OutOfMemory = OutOfMemory

abbrev pub of_parsing : ParseError → CompileError
of_parsing (parsing.Syntax seen) = Refused (refusal.Syntax seen)
of_parsing (parsing.TooDeep seen) = Refused (refusal.TooDeep seen)
of_parsing parsing.OutOfMemory = OutOfMemory

abbrev pub of_layout : LayoutError → CompileError
of_layout (laying.TooManyObjects count) = Refused (refusal.TooManyObjects count)
of_layout (laying.BadBound line) = Refused (refusal.BadBound line)
of_layout (laying.TooManyCells cells) = Refused (refusal.TooManyCells cells)
of_layout laying.OutOfMemory = OutOfMemory

abbrev pub of_check : CheckError → CompileError
of_check (checking.Rule number line) = Refused (refusal.Rule number line)
of_check checking.OutOfMemory = OutOfMemory
