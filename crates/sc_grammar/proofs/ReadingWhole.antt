-- What is read of all the tokens, with objects and functions apart.
use Rattle.std.specs.Prelude.{◌≡◌, ℕ, List, [], ◌∷◌, ◌++◌}
use Rattle.sc_base.specs.declared.shape.Shape.{Shape}
use Rattle.sc_tree.specs.declared.token.Token.{Token}
use Rattle.sc_tree.specs.PlainTree.{PlainFunction, PlainTree}
use Rattle.sc_grammar.specs.Items.{Item}
use Rattle.sc_grammar.specs.Sentence.{objects_in, functions_in, tree_of}
use Rattle.sc_grammar.proofs.Reading.{Parser, ◌>>=◌, pure, got}
use Rattle.sc_grammar.proofs.ReadingItems.{items}

pub record Sorted : Type 0 where
  pub objects : List Shape
  pub functions : List PlainFunction

abbrev pub with_items : Sorted → List Item → Sorted
with_items s all = record { objects = s.objects ++ objects_in all; functions = s.functions ++ functions_in all }

abbrev pub with_item : Sorted → Item → Sorted
with_item s x = with_items s (x ∷ [])

abbrev pub sorted : List Item → Sorted
sorted all = record { objects = objects_in all; functions = functions_in all }

unfoldable pub sorted_items : ℕ → Parser Sorted
sorted_items levels = items levels >>= λ all. pure (sorted all)

-- these are the objects and functions of the items that are read
pub record ReadSorted (levels : ℕ) (ts : List Token) (s : Sorted) : Type 0 where
  pub all : List Item
  pub end : ℕ
  pub reads : items levels ts 0 ≡ got all end
  pub is : s ≡ sorted all

-- this is the tree of the items that are read
pub record ReadTree (levels : ℕ) (ts : List Token) (tree : PlainTree) : Type 0 where
  pub all : List Item
  pub end : ℕ
  pub reads : items levels ts 0 ≡ got all end
  pub is : tree ≡ tree_of all ts
