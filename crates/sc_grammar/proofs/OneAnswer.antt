-- Tokens are a sentence with none too deep, or have one refusal.
use Rattle.std.proofs.Common.{◌≡◌, refl, sym, ap, ◌∙◌, ℕ, zero, suc, ◌+◌, ◌≤◌, ◌<◌, arith, List, [], ◌∷◌, Some, length, ⊎_elim}
use Rattle.std.specs.Prelude.{slice_get, ◌-◌}
use Rattle.std.proofs.lemmas.Bool.{cases_lt}
use Rattle.std.proofs.lemmas.Option.{slice_get_within}
use Rattle.sc_tree.specs.declared.token.Token.{Token}
use Rattle.sc_tree.specs.PlainTree.{PlainTree}
use Rattle.sc_grammar.specs.Rest.{Spelt, tokens_of}
use Rattle.sc_grammar.specs.Sentence.{Sentence, AllShallow, FirstDeep, Agrees, Begins, Shallow, IsSyntax, IsTooDeep}
use Rattle.sc_grammar.proofs.Answer.{begins_less}

neither_less : (j k : ℕ) → (j < k → ⊥) → (k < j → ⊥) → j ≡ k
neither_less j k f g =
    ⊎_elim (λ lt. absurd (f lt)) (λ le. ⊎_elim (λ lt. absurd (g lt)) (λ ge. omega arith) (cases_lt k j)) (cases_lt j k)

spelt_token : (us : List Spelt) (q : ℕ) (s : Spelt) → slice_get us q ≡ Some s →
    slice_get (tokens_of us) q ≡ Some s.token
spelt_token [] q s h = cc
spelt_token (t ∷ us) zero s h = let z : t ≡ s = cc in ap (λ (x : Spelt). Some x.token) z
spelt_token (t ∷ us) (suc q) s h = spelt_token us q s h

-- a token is not too deep among tokens that are not
shallow_deep : (limit p k : ℕ) (us : List Spelt) → p < k → FirstDeep limit p us → AllShallow limit k us → ⊥
shallow_deep limit p k us lt d h = let le = h p d.token lt d.here in let deep = d.deep in omega arith

module _ (limit : ℕ) (ts : List Token) where
  agrees_less : (j k : ℕ) (ws : List Token) → j ≤ k → Agrees k ts ws → Agrees j ts ws
  agrees_less j k ws le h = λ q lt. h q (omega arith)

  -- the sentence that begins so, with the depths of its tokens
  begun_agrees : (k : ℕ) (b : Begins ts k) → Agrees k ts (tokens_of b.is.spelt)
  begun_agrees k b = λ q lt. ap (λ (w : List Token). slice_get w q) b.is.tokens ∙ b.agrees q lt

  -- no sentence that begins with the deep token is shallow beyond it
  no_deep : (k p : ℕ) (b : Begins ts p) (d : IsTooDeep limit ts k) → k ≤ p → (n : ℕ) → d.last < n →
      AllShallow limit n b.is.spelt → ⊥
  no_deep k p b d le n lt h =
      shallow_deep limit d.last n b.is.spelt lt
      (d.deep b.is.spelt b.tree b.is.spells (agrees_less k p (tokens_of b.is.spelt) le (begun_agrees p b))) h

  -- ---- one refusal

  syntax_least : (j k : ℕ) → IsSyntax limit ts j → IsSyntax limit ts k → j < k → ⊥
  syntax_least j k a b lt = a.here (b.before j lt)

  pub syntax-once : (j k : ℕ) → IsSyntax limit ts j → IsSyntax limit ts k → j ≡ k
  syntax-once j k a b = neither_less j k (syntax_least j k a b) (syntax_least k j b a)

  deep_least : (j k : ℕ) → IsTooDeep limit ts j → IsTooDeep limit ts k → j < k → ⊥
  deep_least j k a b lt =
      let s = b.begins in
      no_deep j k s a (omega arith) b.last (omega (arith, a.counts, b.counts))
      (b.deep s.is.spelt s.tree s.is.spells (begun_agrees k s)).before

  pub deep-once : (j k : ℕ) → IsTooDeep limit ts j → IsTooDeep limit ts k → j ≡ k
  deep-once j k a b = neither_less j k (deep_least j k a b) (deep_least k j b a)

  -- the deep token would stand before the one that no sentence has there
  deep_first : (p j k : ℕ) → p + 1 ≡ j → IsSyntax limit ts j → IsTooDeep limit ts k → k ≤ p → ⊥
  deep_first p j k e a b le =
      let s = a.before p (omega arith) in
      no_deep k p s b le p (omega (arith, b.counts)) (a.shallow p e s.is.spelt s.tree s.is.spells (begun_agrees p s))

  pub syntax-or-deep : (j k : ℕ) → IsSyntax limit ts j → IsTooDeep limit ts k → ⊥
  syntax-or-deep j k a b =
      ⊎_elim (λ lt. deep_first (j - 1) j k (omega arith) a b (omega arith))
      (λ le. a.here (begins_less ts j k le b.begins)) (cases_lt k j)

  -- ---- a sentence has none

  sentence_begins : (tree : PlainTree) → Sentence ts tree → (k : ℕ) → Begins ts k
  sentence_begins tree s k = record { tokens = ts; tree = tree; is = s; agrees = λ q lt. refl }

  pub sentence-syntax : (tree : PlainTree) (k : ℕ) → Sentence ts tree → IsSyntax limit ts k → ⊥
  sentence-syntax tree k s a = a.here (sentence_begins tree s k)

  whole_agrees : (tree : PlainTree) (s : Sentence ts tree) (k : ℕ) → Agrees k ts (tokens_of s.spelt)
  whole_agrees tree s k = λ q lt. ap (λ (w : List Token). slice_get w q) s.tokens

  -- the deep token is one of a sentence's
  deep_within : (tree : PlainTree) (s : Sentence ts tree) (p : ℕ) → FirstDeep limit p s.spelt → p < length ts + 1
  deep_within tree s p d =
      let within : p < length ts =
      slice_get_within ts p d.token.token
      (sym (ap (λ (w : List Token). slice_get w p) s.tokens) ∙ spelt_token s.spelt p d.token d.here) in
      omega arith

  pub sentence-deep : (tree : PlainTree) (k : ℕ) → Sentence ts tree → Shallow limit ts (length ts + 1) →
      IsTooDeep limit ts k → ⊥
  sentence-deep tree k s h d =
      let n = length ts + 1 in
      let first = d.deep s.spelt tree s.spells (whole_agrees tree s k) in
      shallow_deep limit d.last n s.spelt (deep_within tree s d.last first) first
      (h s.spelt tree s.spells (whole_agrees tree s n))
