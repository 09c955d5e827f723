-- Tokens are a sentence with none too deep, or have a refusal.
use Rattle.std.proofs.Common.{◌≡◌, refl, ℕ, ◌+◌, List, length, ◌⊎◌, inl, inr}
use Rattle.sc_tree.specs.declared.token.Token.{Token}
use Rattle.sc_tree.specs.PlainTree.{PlainTree}
use Rattle.sc_grammar.specs.Items.{Item}
use Rattle.sc_grammar.proofs.Reading.{syntax, deep, Out, got, refused}
use Rattle.sc_grammar.proofs.ReadingItems.{items}
use Rattle.sc_grammar.proofs.ReadingWhole.{ReadTree}
use Rattle.sc_grammar.specs.Sentence.{tree_of, Sentence, Shallow, IsSyntax, IsTooDeep}
use Rattle.sc_grammar.proofs.Parsed.{read-sentence, read-shallow, fails-syntax, fails-deep}

module _ (limit : ℕ) (ts : List Token) where
  read_tree : (xs : List Item) (m : ℕ) → items limit ts 0 ≡ got xs m → ReadTree limit ts (tree_of xs ts)
  read_tree xs m e = record { all = xs; end = m; reads = e; is = refl }

  pub some-answer : ((tree : PlainTree) × Sentence ts tree × Shallow limit ts (length ts + 1)) ⊎
      (((k : ℕ) × IsSyntax limit ts k) ⊎ ((k : ℕ) × IsTooDeep limit ts k))
  some-answer = go (items limit ts 0) refl
    where
      go : (o : Out (List Item)) → items limit ts 0 ≡ o →
          ((tree : PlainTree) × Sentence ts tree × Shallow limit ts (length ts + 1)) ⊎
          (((k : ℕ) × IsSyntax limit ts k) ⊎ ((k : ℕ) × IsTooDeep limit ts k))
      go (got xs m) e =
          let r = read_tree xs m e in
          inl (tree_of xs ts, read-sentence limit ts (tree_of xs ts) r, read-shallow limit ts (tree_of xs ts) r)
      go (refused (syntax k)) e = inr (inl (k + 1, fails-syntax limit ts k e))
      go (refused (deep k)) e = inr (inr (k + 1, fails-deep limit ts k e))
