-- What `parse` answers, from what is read.
use Rattle.std.proofs.Common.{◌≡◌, refl, sym, ap, ◌∙◌, subst, ℕ, ◌+◌, ◌≤◌, arith, [], ◌∷◌, List, None, length}
use Rattle.std.specs.Prelude.{slice_get}
use Rattle.sc_tree.specs.declared.token.Token.{Token}
use Rattle.sc_tree.specs.PlainTree.{PlainTree}
use Rattle.sc_grammar.specs.Rest.{Spelt, tokens_of}
use Rattle.sc_grammar.specs.Items.{Item}
use Rattle.sc_grammar.proofs.Reading.{syntax, deep, Out, got, refused, Fails}
use Rattle.sc_grammar.proofs.ReadingItems.{items}
use Rattle.sc_grammar.proofs.ReadingWhole.{ReadTree}
use Rattle.sc_grammar.specs.Sentence.{tree_of, Spells, Sentence, AllShallow, Shallow, IsSyntax, IsTooDeep}
use Rattle.sc_grammar.specs.declared.error.Refused.{Refused}
use Rattle.sc_grammar.specs.declared.error.Refused.TheVariants.{Memory, Syntax, Deep}
use Rattle.sc_grammar.specs.Items.{IsItems}
use Rattle.sc_grammar.proofs.Fits.{Stand, past, Begun, FitsOut}
use Rattle.std.proofs.lemmas.Option.{slice_get_within}
use Rattle.sc_grammar.proofs.Answer.{tree-is, shallow-is, accepts, syntax-is, too_deep-is, got-within}
use Rattle.sc_grammar.proofs.AtEnd.{items-end}
use Rattle.sc_grammar.proofs.SourceRead.{exact-source, more-advances}

module _ (limit : ℕ) (ts : List Token) where
  no_more : (tree : PlainTree) (h : ReadTree limit ts tree) → slice_get ts h.end ≡ None
  no_more tree h = items-end limit ts (more-advances limit) 0 h.all h.end h.reads

  pub read-sentence : (tree : PlainTree) → ReadTree limit ts tree → Sentence ts tree
  read-sentence tree h =
      subst (λ (t : PlainTree). Sentence ts t) (sym h.is) (tree-is limit (exact-source limit) ts (items limit ts 0) refl h.all h.end h.reads (no_more tree h))

  pub read-shallow : (tree : PlainTree) → ReadTree limit ts tree → Shallow limit ts (length ts + 1)
  read-shallow tree h =
      shallow-is limit (exact-source limit) ts (items limit ts 0) refl h.all h.end h.reads (got-within limit (exact-source limit) ts (items limit ts 0) refl h.all h.end h.reads (no_more tree h))

  same_tree : (t u : PlainTree) (xs ys : List Item) (m n : ℕ) (o : Out (List Item)) → o ≡ got xs m → o ≡ got ys n → t ≡ tree_of xs ts → u ≡ tree_of ys ts → t ≡ u
  same_tree t u xs ys m n o a b c d = c ∙ ap (λ (w : List Item). tree_of w ts) (let e : xs ≡ ys = cc in e) ∙ sym d

  -- a shallow sentence has the tree that was read
  pub read-accepts : (tree : PlainTree) → ReadTree limit ts tree → (us : List Spelt) (t : PlainTree) → tokens_of us ≡ ts → Spells us t → AllShallow limit (length us) us → tree ≡ t
  read-accepts tree h us t w z s =
      let x = accepts limit (exact-source limit) ts (items limit ts 0) refl us t w z s in
      same_tree tree t h.all x.0 h.end x.1 (items limit ts 0) h.reads x.2 h.is x.3

  never_refused : (o : Out (List Item)) (e : Refused) (xs : List Item) (m : ℕ) → Fails e o → o ≡ got xs m → e ≡ Memory
  never_refused o Memory xs m f g = refl
  never_refused o (Syntax k) xs m f g = cc
  never_refused o (Deep k) xs m f g = cc

  -- a shallow sentence is refused by want of memory alone
  pub fails-memory : (e : Refused) → Fails e (items limit ts 0) → (us : List Spelt) (t : PlainTree) → tokens_of us ≡ ts → Spells us t → AllShallow limit (length us) us → e ≡ Memory
  fails-memory e f us t w z s =
      let x = accepts limit (exact-source limit) ts (items limit ts 0) refl us t w z s in
      never_refused (items limit ts 0) e x.0 x.1 f x.2

  pub fails-syntax : (k : ℕ) → items limit ts 0 ≡ refused (syntax k) → IsSyntax limit ts (k + 1)
  fails-syntax k e = syntax-is limit (exact-source limit) ts (items limit ts 0) refl k e

  pub fails-deep : (k : ℕ) → items limit ts 0 ≡ refused (deep k) → IsTooDeep limit ts (k + 1)
  fails-deep k e = too_deep-is limit (exact-source limit) ts (items limit ts 0) refl k e

  -- a refusal names a token, or their end
  stand_ends : (n : ℕ) (us : List Spelt) → n ≤ length ts → Stand ts n us → past us n ≤ length ts
  stand_ends n [] le h = le
  stand_ends n (s ∷ us) le h = let lt = slice_get_within ts n s.token h.0 in stand_ends (n + 1) us (omega arith) h.1

  pub syntax-near : (k : ℕ) → items limit ts 0 ≡ refused (syntax k) → k ≤ length ts
  syntax-near k e =
      let b : Begun (IsItems 0) ts 0 k = subst (FitsOut (IsItems 0) ts 0) e ((exact-source limit).fits.at ts 0) in
      let le = stand_ends 0 b.used (omega arith) b.stand in let i = b.ends in omega arith

  pub deep-near : (k : ℕ) → items limit ts 0 ≡ refused (deep k) → k ≤ length ts
  deep-near k e =
      let b : Begun (IsItems 0) ts 0 (k + 1) = subst (FitsOut (IsItems 0) ts 0) e ((exact-source limit).fits.at ts 0) in
      let le = stand_ends 0 b.used (omega arith) b.stand in let i = b.ends in omega arith
