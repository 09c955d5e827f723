-- A source is accepted with one tree and one layout, or has one refusal.
use Rattle.std.proofs.Common.{◌≡◌, refl, sym, ap, ◌∙◌, subst, ℕ, List, Result, Ok, Err}
use Rattle.sc_base.specs.declared.limits.TheConstants.{LIMITS}
use Rattle.sc_tree.specs.Names.{Text}
use Rattle.sc_tree.specs.declared.lexed.Lexed.{Lexed}
use Rattle.sc_tree.specs.PlainTree.{PlainTree}
use Rattle.sc_tree.specs.PlainTypedTree.{PlainTypedTree}
use Rattle.sc_lexer.specs.Text.{IsLexed, IsRefused}
use Rattle.sc_lexer.specs.declared.refusal.LexError.{LexError}
use Rattle.sc_lexer.specs.declared.refusal.LexError.TheVariants as lexing
use Rattle.sc_lexer.proofs.TextLaws.{lexed_once, refused_once, not_both}
use Rattle.sc_grammar.specs.Sentence.{Sentence, IsSyntax, IsTooDeep}
use Rattle.sc_grammar.specs.declared.error.ParseError.TheVariants as parsing
use Rattle.sc_grammar.proofs.Answer.{one-tree}
use Rattle.sc_grammar.proofs.SourceRead.{exact-source}
use Rattle.sc_grammar.proofs.OneAnswer.{syntax-once, deep-once, syntax-or-deep, sentence-syntax, sentence-deep}
use Rattle.sc_layout.specs.Layout.{Arrangement, layout_of}
use Rattle.sc_layout.specs.declared.error.LayoutError.{LayoutError}
use Rattle.sc_layout.specs.declared.error.LayoutError.TheVariants as laying
use Rattle.sc_typing.specs.Answer.{IsFirstBroken}
use Rattle.sc_typing.specs.Program.{typed_of}
use Rattle.sc_typing.specs.declared.answer.CheckError.TheVariants as checking
use Rattle.sc_typing.proofs.OneFirst.{one-rule, one-line, broken-not-typed}
use Rattle.front_end.specs.Accepted.{IsRead, IsLaid, IsAccepted, IsUnlaid, IsNoSentence, IsTooDeeplyNested, IsIllTyped, Says}
use Rattle.front_end.specs.Refusals.{of_lexing, of_parsing, of_layout, of_check}
use Rattle.front_end.specs.declared.refusal.Refusal.{Refusal}
use Rattle.front_end.specs.declared.refusal.Refusal.TheVariants as refusal
use Rattle.front_end.specs.declared.refusal.CompileError.{CompileError}
use Rattle.front_end.specs.declared.refusal.CompileError.TheVariants.{Refused}

-- ---- refusals by the part that refuses

data Cause : Type 0 where
  no_tokens : LexError → Cause
  no_sentence : (seen : ℕ) → Cause
  too_deep : (seen : ℕ) → Cause
  no_layout : LayoutError → Cause
  ill_typed : (rule line : ℕ) → Cause
  of_accepted : Refusal → Cause

abbrev cause_of : Refusal → Cause
cause_of (refusal.BadByte at) = no_tokens (lexing.BadByte at)
cause_of (refusal.OpenComment at) = no_tokens (lexing.OpenComment at)
cause_of (refusal.WideNumber at) = no_tokens (lexing.WideNumber at)
cause_of (refusal.BadDirective line) = no_tokens (lexing.BadDirective line)
cause_of refusal.TooManyTokens = no_tokens lexing.TooManyTokens
cause_of (refusal.Syntax seen) = no_sentence seen
cause_of (refusal.TooDeep seen) = too_deep seen
cause_of (refusal.TooManyObjects count) = no_layout (laying.TooManyObjects count)
cause_of (refusal.BadBound line) = no_layout (laying.BadBound line)
cause_of (refusal.TooManyCells cells) = no_layout (laying.TooManyCells cells)
cause_of (refusal.Rule number line) = ill_typed number line
cause_of (refusal.TooManySites count) = of_accepted (refusal.TooManySites count)
cause_of (refusal.TooManyLocals count) = of_accepted (refusal.TooManyLocals count)

abbrev error_of : Cause → CompileError
error_of (no_tokens e) = of_lexing e
error_of (no_sentence seen) = of_parsing (parsing.Syntax seen)
error_of (too_deep seen) = of_parsing (parsing.TooDeep seen)
error_of (no_layout e) = of_layout e
error_of (ill_typed rule line) = of_check (checking.Rule rule line)
error_of (of_accepted r) = Refused r

error_is : (r : Refusal) → error_of (cause_of r) ≡ Refused r
error_is (refusal.BadByte at) = refl
error_is (refusal.OpenComment at) = refl
error_is (refusal.WideNumber at) = refl
error_is (refusal.BadDirective line) = refl
error_is refusal.TooManyTokens = refl
error_is (refusal.Syntax seen) = refl
error_is (refusal.TooDeep seen) = refl
error_is (refusal.TooManyObjects count) = refl
error_is (refusal.BadBound line) = refl
error_is (refusal.TooManyCells cells) = refl
error_is (refusal.Rule number line) = refl
error_is (refusal.TooManySites count) = refl
error_is (refusal.TooManyLocals count) = refl

one_refusal : (r s : Refusal) → Refused r ≡ Refused s → r ≡ s
one_refusal r s e = cc

-- refusals of one cause are one
same_refusal : (r s : Refusal) → cause_of r ≡ cause_of s → r ≡ s
same_refusal r s e = one_refusal r s (sym (error_is r) ∙ ap error_of e ∙ error_is s)

abbrev Holds : List ℕ → (nodes : ℕ) → Cause → Type 0
Holds source nodes (no_tokens e) = IsRefused source e
Holds source nodes (no_sentence seen) = IsNoSentence source seen
Holds source nodes (too_deep seen) = IsTooDeeplyNested source seen
Holds source nodes (no_layout e) = IsUnlaid source nodes e
Holds source nodes (ill_typed rule line) = IsIllTyped source nodes rule line
Holds source nodes (of_accepted r) = ⊥

holds : (source : List ℕ) (nodes : ℕ) (r : Refusal) → Says source nodes r → Holds source nodes (cause_of r)
holds source nodes (refusal.BadByte at) h = h
holds source nodes (refusal.OpenComment at) h = h
holds source nodes (refusal.WideNumber at) h = h
holds source nodes (refusal.BadDirective line) h = h
holds source nodes refusal.TooManyTokens h = h
holds source nodes (refusal.Syntax seen) h = h
holds source nodes (refusal.TooDeep seen) h = h
holds source nodes (refusal.TooManyObjects count) h = h
holds source nodes (refusal.BadBound line) h = h
holds source nodes (refusal.TooManyCells cells) h = h
holds source nodes (refusal.Rule number line) h = h
holds source nodes (refusal.TooManySites count) h = h
holds source nodes (refusal.TooManyLocals count) h = h

-- ---- results

one_ok : {A E : Type 0} (r : Result A E) (x y : A) → r ≡ Ok x → r ≡ Ok y → x ≡ y
one_ok r x y f g = cc

one_err : {A E : Type 0} (r : Result A E) (d e : E) → r ≡ Err d → r ≡ Err e → d ≡ e
one_err r d e f g = cc

not_both_results : {A E : Type 0} (r : Result A E) (x : A) (e : E) → r ≡ Ok x → r ≡ Err e → ⊥
not_both_results r x e f g = cc

ill_typed_same : (r s l m : ℕ) → r ≡ s → l ≡ m → ill_typed r l ≡ ill_typed s m
ill_typed_same r s l m e f = cc

-- ---- what is read

module _ (source : List ℕ) where
  one_sentence : (l m : Lexed) (t u : PlainTree) → l ≡ m → IsRead source l t → IsRead source m u → t ≡ u
  one_sentence l m t u e a b =
      one-tree exact-source m.tokens t u (subst (λ (x : Lexed). Sentence x.tokens t) e a.sentence) b.sentence

  -- what is said of one reading is said of the other
  along : (l m : Lexed) (t u : PlainTree) (P : Lexed → PlainTree → Type 0) →
      IsRead source l t → IsRead source m u → P l t → P m u
  along l m t u P a b p =
      let e = lexed_once source l m a.tokens b.tokens in
      subst (λ (y : PlainTree). P m y) (one_sentence l m t u e a b) (subst (λ (x : Lexed). P x t) e p)

  -- the refusals of tokens are of the tokens that are read
  syntax_of : (seen : ℕ) (l : Lexed) → IsNoSentence source seen → IsLexed source l →
      IsSyntax LIMITS.depth l.tokens seen
  syntax_of seen l n h =
      subst (λ (x : Lexed). IsSyntax LIMITS.depth x.tokens seen) (lexed_once source n.lexed l n.tokens h) n.refused

  deep_of : (seen : ℕ) (l : Lexed) → IsTooDeeplyNested source seen → IsLexed source l →
      IsTooDeep LIMITS.depth l.tokens seen
  deep_of seen l n h =
      subst (λ (x : Lexed). IsTooDeep LIMITS.depth x.tokens seen) (lexed_once source n.lexed l n.tokens h) n.refused

  syntax_read : (seen : ℕ) (l : Lexed) (t : PlainTree) → IsNoSentence source seen → IsRead source l t → ⊥
  syntax_read seen l t n r = sentence-syntax LIMITS.depth l.tokens t seen r.sentence (syntax_of seen l n r.tokens)

  deep_read : (seen : ℕ) (l : Lexed) (t : PlainTree) → IsTooDeeplyNested source seen → IsRead source l t → ⊥
  deep_read seen l t n r =
      sentence-deep LIMITS.depth l.tokens t seen r.sentence r.shallow (deep_of seen l n r.tokens)

  syntax_deep : (j k : ℕ) → IsNoSentence source j → IsTooDeeplyNested source k → ⊥
  syntax_deep j k a b = syntax-or-deep LIMITS.depth b.lexed.tokens j k (syntax_of j b.lexed a b.tokens) b.refused

  one_syntax : (j k : ℕ) → IsNoSentence source j → IsNoSentence source k → j ≡ k
  one_syntax j k a b = syntax-once LIMITS.depth b.lexed.tokens j k (syntax_of j b.lexed a b.tokens) b.refused

  one_deep : (j k : ℕ) → IsTooDeeplyNested source j → IsTooDeeplyNested source k → j ≡ k
  one_deep j k a b = deep-once LIMITS.depth b.lexed.tokens j k (deep_of j b.lexed a b.tokens) b.refused

-- ---- layouts and types

module _ (source : List ℕ) (nodes : ℕ) where
  one_layout : (l m : Lexed) (t u : PlainTree) (a b : Arrangement) →
      IsLaid source nodes l t a → IsLaid source nodes m u b → a ≡ b
  one_layout l m t u a b x y =
      one_ok (layout_of u.objects nodes) a b
      (along source l m t u (λ k v. layout_of v.objects nodes ≡ Ok a) x.read y.read x.laid) y.laid

  unlaid_of : (e : LayoutError) (l : Lexed) (t : PlainTree) → IsUnlaid source nodes e → IsRead source l t →
      layout_of t.objects nodes ≡ Err e
  unlaid_of e l t n r = along source n.lexed l n.tree t (λ k v. layout_of v.objects nodes ≡ Err e) n.read r n.refused

  unlaid_laid : (e : LayoutError) (l : Lexed) (t : PlainTree) (a : Arrangement) →
      IsUnlaid source nodes e → IsLaid source nodes l t a → ⊥
  unlaid_laid e l t a n x = not_both_results (layout_of t.objects nodes) a e x.laid (unlaid_of e l t n x.read)

  one_unlaid : (d e : LayoutError) → IsUnlaid source nodes d → IsUnlaid source nodes e → d ≡ e
  one_unlaid d e a b = one_err (layout_of b.tree.objects nodes) d e (unlaid_of d b.lexed b.tree a b.read) b.refused

  broken_of : (rule line : ℕ) (l : Lexed) (t : PlainTree) → IsIllTyped source nodes rule line → IsRead source l t →
      IsFirstBroken t l.names l.texts rule line
  broken_of rule line l t n r =
      along source n.lexed l n.tree t (λ k v. IsFirstBroken v k.names k.texts rule line) n.laid.read r n.refused

  one_broken : (r s l m : ℕ) → IsIllTyped source nodes r l → IsIllTyped source nodes s m →
      ill_typed r l ≡ ill_typed s m
  one_broken r s l m a b =
      let broken = broken_of r l b.lexed b.tree a b.laid.read in
      ill_typed_same r s l m
      (one-rule b.tree b.lexed.names b.lexed.texts r l s m broken b.refused)
      (one-line b.tree b.lexed.names b.lexed.texts r l s m broken b.refused)

  -- ---- one cause

  one_cause : (c d : Cause) → Holds source nodes c → Holds source nodes d → c ≡ d
  one_cause (of_accepted r) d a b = absurd a
  one_cause c (of_accepted r) a b = absurd b
  one_cause (no_tokens d) (no_tokens e) a b = ap no_tokens (refused_once source d e a b)
  one_cause (no_tokens d) (no_sentence k) a b = absurd (not_both source b.lexed d b.tokens a)
  one_cause (no_tokens d) (too_deep k) a b = absurd (not_both source b.lexed d b.tokens a)
  one_cause (no_tokens d) (no_layout e) a b = absurd (not_both source b.lexed d b.read.tokens a)
  one_cause (no_tokens d) (ill_typed s m) a b = absurd (not_both source b.lexed d b.laid.read.tokens a)
  one_cause (no_sentence j) (no_tokens e) a b = absurd (not_both source a.lexed e a.tokens b)
  one_cause (no_sentence j) (no_sentence k) a b = ap no_sentence (one_syntax source j k a b)
  one_cause (no_sentence j) (too_deep k) a b = absurd (syntax_deep source j k a b)
  one_cause (no_sentence j) (no_layout e) a b = absurd (syntax_read source j b.lexed b.tree a b.read)
  one_cause (no_sentence j) (ill_typed s m) a b = absurd (syntax_read source j b.lexed b.tree a b.laid.read)
  one_cause (too_deep j) (no_tokens e) a b = absurd (not_both source a.lexed e a.tokens b)
  one_cause (too_deep j) (no_sentence k) a b = absurd (syntax_deep source k j b a)
  one_cause (too_deep j) (too_deep k) a b = ap too_deep (one_deep source j k a b)
  one_cause (too_deep j) (no_layout e) a b = absurd (deep_read source j b.lexed b.tree a b.read)
  one_cause (too_deep j) (ill_typed s m) a b = absurd (deep_read source j b.lexed b.tree a b.laid.read)
  one_cause (no_layout d) (no_tokens e) a b = absurd (not_both source a.lexed e a.read.tokens b)
  one_cause (no_layout d) (no_sentence k) a b = absurd (syntax_read source k a.lexed a.tree b a.read)
  one_cause (no_layout d) (too_deep k) a b = absurd (deep_read source k a.lexed a.tree b a.read)
  one_cause (no_layout d) (no_layout e) a b = ap no_layout (one_unlaid d e a b)
  one_cause (no_layout d) (ill_typed s m) a b = absurd (unlaid_laid d b.lexed b.tree b.layout a b.laid)
  one_cause (ill_typed r l) (no_tokens e) a b = absurd (not_both source a.lexed e a.laid.read.tokens b)
  one_cause (ill_typed r l) (no_sentence k) a b = absurd (syntax_read source k a.lexed a.tree b a.laid.read)
  one_cause (ill_typed r l) (too_deep k) a b = absurd (deep_read source k a.lexed a.tree b a.laid.read)
  one_cause (ill_typed r l) (no_layout e) a b = absurd (unlaid_laid e a.lexed a.tree a.layout b a.laid)
  one_cause (ill_typed r l) (ill_typed s m) a b = one_broken r s l m a b

  pub refused-once : (r s : Refusal) → Says source nodes r → Says source nodes s → r ≡ s
  refused-once r s a b =
      same_refusal r s (one_cause (cause_of r) (cause_of s) (holds source nodes r a) (holds source nodes s b))

  -- ---- acceptance

  pub accepted-once : (names other_names : List Text) (typed other_typed : PlainTypedTree)
      (layout other_layout : Arrangement) →
      IsAccepted source nodes names typed layout → IsAccepted source nodes other_names other_typed other_layout →
      (names ≡ other_names) × (typed ≡ other_typed) × (layout ≡ other_layout)
  accepted-once names other_names typed other_typed layout other_layout a b = (
    along source a.lexed b.lexed a.tree b.tree (λ l t. names ≡ l.names) a.laid.read b.laid.read a.names_are ∙
        sym b.names_are,
    along source a.lexed b.lexed a.tree b.tree (λ l t. typed ≡ typed_of t l.names l.texts) a.laid.read b.laid.read
        a.typed_is ∙ sym b.typed_is,
    one_layout a.lexed b.lexed a.tree b.tree layout other_layout a.laid b.laid,
  )

  module _ (names : List Text) (typed : PlainTypedTree) (layout : Arrangement)
      (a : IsAccepted source nodes names typed layout) where
    no_cause : (c : Cause) → Holds source nodes c → ⊥
    no_cause (no_tokens e) h = not_both source a.lexed e a.laid.read.tokens h
    no_cause (no_sentence k) h = syntax_read source k a.lexed a.tree h a.laid.read
    no_cause (too_deep k) h = deep_read source k a.lexed a.tree h a.laid.read
    no_cause (no_layout e) h = unlaid_laid e a.lexed a.tree layout h a.laid
    no_cause (of_accepted r) h = h
    no_cause (ill_typed r l) h =
        broken-not-typed a.tree a.lexed.names a.lexed.texts r l (broken_of r l a.lexed a.tree h a.laid.read)
        a.well_typed

    pub accepted-not-refused : (r : Refusal) → Says source nodes r → ⊥
    accepted-not-refused r h = no_cause (cause_of r) (holds source nodes r h)
