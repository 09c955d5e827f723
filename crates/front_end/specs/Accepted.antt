-- When a source is accepted, and what a refusal says of it. The order of refusals is that of lexing, parsing, layout
-- and check: each speaks of a source that the parts before it accept.
use Rattle.std.specs.Prelude.{ℕ, ◌≡◌, ◌+◌, List, length, Result, Ok, Err}
use Rattle.sc_base.specs.declared.limits.TheConstants.{LIMITS}
use Rattle.sc_tree.specs.Names.{Text}
use Rattle.sc_tree.specs.declared.lexed.Lexed.{Lexed}
use Rattle.sc_tree.specs.PlainTree.{PlainTree}
use Rattle.sc_tree.specs.PlainTypedTree.{PlainTypedTree}
use Rattle.sc_tree.specs.ViewTypedTree.{plain_typed_tree}
use Rattle.sc_lexer.specs.Text.{IsLexed, IsRefused}
use Rattle.sc_lexer.specs.declared.refusal.LexError.TheVariants as lexing
use Rattle.sc_grammar.specs.Sentence.{Sentence, Shallow, IsSyntax, IsTooDeep}
use Rattle.sc_layout.specs.Layout.{Arrangement, layout_of}
use Rattle.sc_layout.specs.declared.error.LayoutError.{LayoutError}
use Rattle.sc_layout.specs.declared.error.LayoutError.TheVariants as laying
use Rattle.sc_typing.specs.Answer.{IsWellTyped, IsFirstBroken}
use Rattle.sc_typing.specs.Program.{typed_of}
use Rattle.front_end.specs.declared.accepted.Accepted.{Accepted}
use Rattle.front_end.specs.declared.refusal.Refusal.{Refusal}
use Rattle.front_end.specs.declared.refusal.Refusal.TheVariants as refusal
use Rattle.front_end.specs.declared.refusal.CompileError.{CompileError}
use Rattle.front_end.specs.declared.refusal.CompileError.TheVariants.{Refused, OutOfMemory}

-- the source is these tokens, and they are a sentence with this tree, none deeper than the limit
pub record IsRead (source : List ℕ) (lexed : Lexed) (tree : PlainTree) : Type 0 where
  pub tokens : IsLexed source lexed
  pub sentence : Sentence lexed.tokens tree
  pub shallow : Shallow LIMITS.depth lexed.tokens (length lexed.tokens + 1)

-- the objects of the source have this layout on the nodes
pub record IsLaid (source : List ℕ) (nodes : ℕ) (lexed : Lexed) (tree : PlainTree)
    (layout : Arrangement) : Type 0 where
  pub read : IsRead source lexed tree
  pub laid : layout_of tree.objects nodes ≡ Ok layout

-- A source is accepted where it breaks no typing rule besides. Its names are those of its tokens.
pub record IsAccepted (source : List ℕ) (nodes : ℕ) (names : List Text) (typed : PlainTypedTree)
    (layout : Arrangement) : Type 0 where
  pub lexed : Lexed
  pub tree : PlainTree
  pub laid : IsLaid source nodes lexed tree layout
  pub well_typed : IsWellTyped tree lexed.names lexed.texts
  pub names_are : names ≡ lexed.names
  pub typed_is : typed ≡ typed_of tree lexed.names lexed.texts

-- the objects of the source have no layout
pub record IsUnlaid (source : List ℕ) (nodes : ℕ) (error : LayoutError) : Type 0 where
  pub lexed : Lexed
  pub tree : PlainTree
  pub read : IsRead source lexed tree
  pub refused : layout_of tree.objects nodes ≡ Err error

pub record IsNoSentence (source : List ℕ) (seen : ℕ) : Type 0 where
  pub lexed : Lexed
  pub tokens : IsLexed source lexed
  pub refused : IsSyntax LIMITS.depth lexed.tokens seen

pub record IsTooDeeplyNested (source : List ℕ) (seen : ℕ) : Type 0 where
  pub lexed : Lexed
  pub tokens : IsLexed source lexed
  pub refused : IsTooDeep LIMITS.depth lexed.tokens seen

pub record IsIllTyped (source : List ℕ) (nodes rule line : ℕ) : Type 0 where
  pub lexed : Lexed
  pub tree : PlainTree
  pub layout : Arrangement
  pub laid : IsLaid source nodes lexed tree layout
  pub refused : IsFirstBroken tree lexed.names lexed.texts rule line

-- what a refusal says of a source for so many nodes; too many sites or locals are told of accepted sources
abbrev pub Says : List ℕ → (nodes : ℕ) → Refusal → Type 0
Says source nodes (refusal.BadByte at) = IsRefused source (lexing.BadByte at)
Says source nodes (refusal.OpenComment at) = IsRefused source (lexing.OpenComment at)
Says source nodes (refusal.WideNumber at) = IsRefused source (lexing.WideNumber at)
Says source nodes (refusal.BadDirective line) = IsRefused source (lexing.BadDirective line)
Says source nodes refusal.TooManyTokens = IsRefused source lexing.TooManyTokens
Says source nodes (refusal.Syntax seen) = IsNoSentence source seen
Says source nodes (refusal.TooDeep seen) = IsTooDeeplyNested source seen
Says source nodes (refusal.TooManyObjects count) = IsUnlaid source nodes (laying.TooManyObjects count)
Says source nodes (refusal.BadBound line) = IsUnlaid source nodes (laying.BadBound line)
Says source nodes (refusal.TooManyCells cells) = IsUnlaid source nodes (laying.TooManyCells cells)
Says source nodes (refusal.Rule number line) = IsIllTyped source nodes number line
Says source nodes (refusal.TooManySites count) = ⊥
Says source nodes (refusal.TooManyLocals count) = ⊥

-- why there is no answer. Want of memory may come at any time.
abbrev pub Excuses : List ℕ → (nodes : ℕ) → CompileError → Type 0
Excuses source nodes (Refused r) = Says source nodes r
Excuses source nodes OutOfMemory = Unit {0}

-- Ok exactly where the source is accepted, and else the first refusal.
abbrev pub IsAnswer : List ℕ → (nodes : ℕ) → Result Accepted CompileError → Type 0
IsAnswer source nodes (Ok a) = IsAccepted source nodes a.names (plain_typed_tree a.typed) a.layout
IsAnswer source nodes (Err e) = Excuses source nodes e
