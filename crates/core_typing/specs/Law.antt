-- The laws that join typing and the core tree.
use Rattle.std.specs.Prelude.{ℕ, ◌≡◌, List, Ok, map}
use Rattle.sc_tree.specs.Names.{Text}
use Rattle.sc_tree.specs.PlainTree.{PlainTree}
use Rattle.sc_tree.specs.declared.lexed.Lexed.{Lexed}
use Rattle.sc_lexer.specs.Text.{IsLexed}
use Rattle.sc_grammar.specs.Sentence.{Sentence}
use Rattle.sc_layout.specs.Layout.{Arrangement, layout_of}
use Rattle.sc_typing.specs.Answer.{IsWellTyped}
use Rattle.sc_typing.specs.Program.{typed_of}
use Rattle.sc_core.specs.Lowering.{core_of}
use Rattle.sc_core.specs.Typed.{IsTyped}
use Rattle.core_typing.specs.Proper.{IsProperTree}

-- A tree in which no typing rule is broken lowers to a core tree that is typed, where each of its numbers has 64 bits
-- and no declaration stands alone behind an `if` or a loop.
abbrev pub CoresAreTyped : Type 0
CoresAreTyped =
    (tree : PlainTree) (names texts : List Text) → IsProperTree tree → IsWellTyped tree names texts →
    IsTyped tree.objects (core_of (typed_of tree names texts))

-- The tree that is read of a source is such a one.
abbrev pub SourcesAreProper : Type 0
SourcesAreProper =
    (source : List ℕ) (lexed : Lexed) (tree : PlainTree) → IsLexed source lexed → Sentence lexed.tokens tree →
    IsProperTree tree

-- So a source that is accepted lowers to a core tree that is typed, over the objects of its layout.
abbrev pub SourcesHaveTypedCores : Type 0
SourcesHaveTypedCores =
    (source : List ℕ) (nodes : ℕ) (lexed : Lexed) (tree : PlainTree) (layout : Arrangement) →
    IsLexed source lexed → Sentence lexed.tokens tree → layout_of tree.objects nodes ≡ Ok layout →
    IsWellTyped tree lexed.names lexed.texts →
    IsTyped (map (λ object. object.shape) layout.objects) (core_of (typed_of tree lexed.names lexed.texts))
