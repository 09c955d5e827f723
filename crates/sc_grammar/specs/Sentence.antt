-- Sentences, and what a refusal of tokens says. The tokens of a sentence have the depths that the grammar gives them.
use Rattle.std.specs.Prelude.{◌≡◌, ℕ, ◌+◌, ◌<◌, ◌≤◌, List, [], ◌∷◌, ◌++◌, Some, slice_get, map, Result, Ok, Err}
use Rattle.sc_base.specs.declared.shape.Shape.{Shape}
use Rattle.sc_tree.specs.declared.token.Token.{Token}
use Rattle.sc_tree.specs.PlainTree.{PlainFunction, PlainTree}
use Rattle.sc_tree.specs.ViewTree.{plain_tree}
use Rattle.sc_tree.specs.declared.tree.Tree.{Tree}
use Rattle.sc_grammar.specs.Rest.{Spelt, rest, tokens_of}
use Rattle.sc_grammar.specs.Items.{Item, objects, function, IsItems}
use Rattle.sc_grammar.specs.declared.error.ParseError.{ParseError}
use Rattle.sc_grammar.specs.declared.error.ParseError.TheVariants.{Syntax, TooDeep, OutOfMemory}

-- ---- sentences

abbrev pub objects_in : List Item → List Shape
objects_in [] = []
objects_in (objects all ∷ items) = all ++ objects_in items
objects_in (function f ∷ items) = objects_in items

abbrev pub functions_in : List Item → List PlainFunction
functions_in [] = []
functions_in (objects all ∷ items) = functions_in items
functions_in (function f ∷ items) = f ∷ functions_in items

abbrev pub line_at : Token → ℕ
line_at t = t.line

abbrev pub last_line : List Token → ℕ
last_line [] = 0
last_line (t ∷ []) = t.line
last_line (t ∷ u ∷ ts) = last_line (u ∷ ts)

-- the tree of the items, with the lines of the tokens
abbrev pub tree_of : List Item → List Token → PlainTree
tree_of items ts =
    record { objects = objects_in items; functions = functions_in items; lines = map line_at ts; last = last_line ts }

-- the tokens, with their depths, spell the tree
pub record Spells (us : List Spelt) (tree : PlainTree) : Type 0 where
  pub items : List Item
  pub end : ℕ
  pub is : IsItems 0 (rest 0 us) (rest end []) items
  pub made : tree ≡ tree_of items (tokens_of us)

pub record Sentence (ts : List Token) (tree : PlainTree) : Type 0 where
  pub spelt : List Spelt
  pub tokens : tokens_of spelt ≡ ts
  pub spells : Spells spelt tree

-- ---- depth

-- no token among the first k is deeper than the limit
abbrev pub AllShallow : (limit k : ℕ) → List Spelt → Type 0
AllShallow limit k us = (q : ℕ) (s : Spelt) → q < k → slice_get us q ≡ Some s → s.depth ≤ limit

-- the token after the first k is deeper than the limit, and none of those
pub record FirstDeep (limit k : ℕ) (us : List Spelt) : Type 0 where
  pub before : AllShallow limit k us
  pub token : Spelt
  pub here : slice_get us k ≡ Some token
  pub deep : limit < token.depth

-- ---- refusals

-- the tokens are the same in the first k places; past its end a list has None in each place
abbrev pub Agrees : ℕ → List Token → List Token → Type 0
Agrees k ts ws = (q : ℕ) → q < k → slice_get ws q ≡ slice_get ts q

-- some sentence begins with the first k tokens, and where k is past the tokens' end, is these tokens
pub record Begins (ts : List Token) (k : ℕ) : Type 0 where
  pub tokens : List Token
  pub tree : PlainTree
  pub is : Sentence tokens tree
  pub agrees : Agrees k ts tokens

-- in each sentence that begins with the first k tokens, these are no deeper than the limit
abbrev pub Shallow : ℕ → List Token → ℕ → Type 0
Shallow limit ts k = (us : List Spelt) (tree : PlainTree) → Spells us tree → Agrees k ts (tokens_of us) →
    AllShallow limit k us

-- `seen` is the least number such that no sentence begins with so many tokens, and no token before is too deep
pub record IsSyntax (limit : ℕ) (ts : List Token) (seen : ℕ) : Type 0 where
  pub before : (k : ℕ) → k < seen → Begins ts k
  pub here : Begins ts seen → ⊥
  pub shallow : (k : ℕ) → k + 1 ≡ seen → Shallow limit ts k

-- a sentence begins with the first `seen` tokens, and in each that does, the last of these is the first too deep one
pub record IsTooDeep (limit : ℕ) (ts : List Token) (seen : ℕ) : Type 0 where
  pub last : ℕ
  pub counts : seen ≡ last + 1
  pub begins : Begins ts seen
  pub deep : (us : List Spelt) (tree : PlainTree) → Spells us tree → Agrees seen ts (tokens_of us) →
      FirstDeep limit last us

-- what a refusal says of the tokens
abbrev pub Says : ℕ → List Token → ParseError → Type 0
Says limit ts (Syntax seen) = IsSyntax limit ts seen
Says limit ts (TooDeep seen) = IsTooDeep limit ts seen
Says limit ts OutOfMemory = Unit {0}

-- the tree is the answer, unless memory ran out
abbrev pub Accepts : PlainTree → Result Tree ParseError → Type 0
Accepts tree (Ok answer) = plain_tree answer ≡ tree
Accepts tree (Err OutOfMemory) = Unit {0}
Accepts tree (Err (Syntax seen)) = ⊥
Accepts tree (Err (TooDeep seen)) = ⊥
