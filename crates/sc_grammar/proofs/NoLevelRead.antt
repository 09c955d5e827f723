-- What begins an expression goes on to one, and where no level of depth is left, it is refused as too deep.
use Rattle.std.proofs.Common.{◌+◌, ◌≡◌, refl, ap, ◌∙◌, ℕ, zero, suc, ◌≤◌, arith, Bool, true, false, List, [], ◌∷◌, ◌++◌, Option, Some, None, pos}
use Rattle.sc_tree.specs.declared.token.Token.{Token}
use Rattle.sc_tree.specs.declared.token.TokenKind.{TokenKind}
use Rattle.sc_tree.specs.declared.token.TokenKind.TheVariants.{Number, Name, Format, Word, Mark}
use Rattle.sc_tree.specs.declared.token.Word.{Word as TheWord}
use Rattle.sc_tree.specs.declared.token.Word.TheVariants as words
use Rattle.sc_tree.specs.declared.token.Mark.{Mark as TheMark}
use Rattle.sc_tree.specs.declared.token.Mark.TheVariants as marks
use Rattle.sc_tree.specs.Plain.{Expression, number, null, my_proc, procs, size_int, name}
use Rattle.sc_grammar.specs.declared.operators.Prefix.{Prefix}
use Rattle.sc_grammar.specs.Marks.{prefix_of, prefixed}
use Rattle.sc_grammar.specs.Rest.{Spelt, Rest, rest, takes}
use Rattle.sc_grammar.specs.Expressions.{placed, around, IsAssign, no_assignment, IsCond, no_choice, IsBranch, branch, IsLevel, tightest, IsUnary, prefix_operator, no_prefix, no_more_tails, numeral, null_word, my_proc_word, procs_word, size_of_int, named, parenthesized}
use Rattle.sc_grammar.specs.Statements.{is_else}
use Rattle.sc_grammar.proofs.Reading.{fail, no_deeper, is_given}
use Rattle.sc_grammar.proofs.ReadingExpressions.{begins_expression, begins_mark, begins_word}
use Rattle.sc_grammar.proofs.Local.{local-no_deeper, consumes-no_deeper}
use Rattle.sc_grammar.proofs.Fits.{Rule, past, Quiet, Sample}
use Rattle.sc_grammar.proofs.FitsTokens.{spelt, Opens, fits-no_deeper}
use Rattle.sc_grammar.proofs.Derived.{reads-too_deep}
use Rattle.sc_grammar.proofs.Laws.{Exact, ExpressionEnds, extends_assign, extends_cond}
use Rattle.sc_grammar.proofs.Openings.{opened-assign, opened-branch}
use Rattle.sc_grammar.proofs.LevelsRead.{next_level}

-- ---- what begins an expression

-- this token begins something of the rule there
abbrev Begins : {A : Type 0} → Rule A → Token → ℕ → Type 0
Begins {A = A} R t n =
    (s : Spelt) × (s.token ≡ t) × (more : List Spelt) × (x : A) × Quiet more × ((tail : List Spelt) → Quiet tail → R (rest n (s ∷ (more ++ tail))) (rest (past more (n + 1)) tail) x)

-- a token of a sample
abbrev sample_token : TokenKind → ℕ → Spelt
sample_token kind d = spelt (record { kind = kind; at = 0; line = 0 }) d

abbrev a_number : ℕ → Spelt
a_number d = sample_token (Number (pos 0)) d

-- the number after so many tokens
abbrev number_after : ℕ → Expression
number_after n = placed (rest n (a_number 0 ∷ [])) (number (pos 0))

a_numeral : (n d : ℕ) (tail : List Spelt) → IsUnary d (rest n (a_number d ∷ tail)) (rest (n + 1) tail) (number_after n)
a_numeral n d tail = no_prefix (numeral takes) no_more_tails

any_level : (l d : ℕ) (a b : Rest) (e : Expression) → IsUnary d a b e → IsLevel l d a b e
any_level zero d a b e h = tightest h
any_level (suc l) d a b e h = next_level l d a b e (any_level l d a b e h)

only_cond : (d : ℕ) (a b : Rest) (e : Expression) → IsUnary d a b e → IsCond d a b e
only_cond d a b e h = no_choice (any_level 10 d a b e h)

only_assign : (d : ℕ) (a b : Rest) (e : Expression) → IsUnary (suc d) a b e → IsAssign d a b e
only_assign d a b e h = no_assignment (only_cond (suc d) a b e h)

only_branch : (d : ℕ) (a b : Rest) (e : Expression) → IsUnary (suc d) a b e → IsBranch d a b e
only_branch d a b e h = branch (only_cond (suc d) a b e h)

module _ (d n at line : ℕ) where
  abbrev token_of : TokenKind → Token
  token_of kind = record { kind = kind; at = at; line = line }

  -- where such a token is the first
  abbrev first_place : TokenKind → Rest
  first_place kind = rest n (spelt (token_of kind) d ∷ [])

  begins_prefix : (m : TheMark) (o : Option Prefix) → prefix_of m ≡ o → is_given o ≡ true → Begins (IsUnary d) (token_of (Mark m)) n
  begins_prefix m None i h = cc
  begins_prefix m (Some x) i h = (
    spelt (token_of (Mark m)) (suc d),
    refl,
    a_number (suc d) ∷ [],
    placed (first_place (Mark m)) (prefixed x (number_after (n + 1))),
    refl,
    λ tail q. prefix_operator i takes (a_numeral (n + 1) (suc d) tail),
  )

  begins_mark_one : (m : TheMark) → begins_mark m ≡ true → Begins (IsUnary d) (token_of (Mark m)) n
  begins_mark_one marks.OpenRound h = (
    spelt (token_of (Mark marks.OpenRound)) d,
    refl,
    a_number (suc d) ∷ sample_token (Mark marks.CloseRound) d ∷ [],
    around (n + 1) line (number_after (n + 1)),
    refl,
    λ tail q. no_prefix (parenthesized takes (only_assign d _ _ _ (a_numeral (n + 1) (suc d) (sample_token (Mark marks.CloseRound) d ∷ tail))) takes) no_more_tails,
  )
  begins_mark_one m h = begins_prefix m (prefix_of m) refl h

  begins_word_one : (w : TheWord) → begins_word w ≡ true → Begins (IsUnary d) (token_of (Word w)) n
  begins_word_one words.Null h = (spelt (token_of (Word words.Null)) d, refl, [], placed (first_place (Word words.Null)) null, refl, λ tail q. no_prefix (null_word takes) no_more_tails)
  begins_word_one words.MyProc h = (spelt (token_of (Word words.MyProc)) d, refl, [], placed (first_place (Word words.MyProc)) my_proc, refl, λ tail q. no_prefix (my_proc_word takes) no_more_tails)
  begins_word_one words.Procs h = (spelt (token_of (Word words.Procs)) d, refl, [], placed (first_place (Word words.Procs)) procs, refl, λ tail q. no_prefix (procs_word takes) no_more_tails)
  begins_word_one words.Sizeof h = (
    spelt (token_of (Word words.Sizeof)) d,
    refl,
    sample_token (Mark marks.OpenRound) d ∷ sample_token (Word words.Int) d ∷ sample_token (Mark marks.CloseRound) d ∷ [],
    placed (first_place (Word words.Sizeof)) size_int,
    refl,
    λ tail q. no_prefix (size_of_int takes takes takes takes) no_more_tails,
  )
  begins_word_one w h = cc

  begins_one : (kind : TokenKind) → begins_expression kind ≡ true → Begins (IsUnary d) (token_of kind) n
  begins_one (Number v) h = (spelt (token_of (Number v)) d, refl, [], placed (first_place (Number v)) (number v), refl, λ tail q. no_prefix (numeral takes) no_more_tails)
  begins_one (Name x) h = (spelt (token_of (Name x)) d, refl, [], placed (first_place (Name x)) (name x), refl, λ tail q. no_prefix (named takes) no_more_tails)
  begins_one (Format x) h = cc
  begins_one (Word w) h = begins_word_one w h
  begins_one (Mark m) h = begins_mark_one m h

pub opens-unary : (d : ℕ) → Opens (IsUnary d) begins_expression
opens-unary d t h n = begins_one d n t.at t.line t.kind h

opens_wider : {A : Type 0} (P R : Rule A) (k : TokenKind → Bool) → ((a b : Rest) (x : A) → P a b x → R a b x) → Opens P k → Opens R k
opens_wider P R k f o t h n = let z = o t h n in (z.0, z.1, z.2, z.3, z.4, λ tail q. f _ _ _ (z.5 tail q))

pub opens-assign : (d : ℕ) → Opens (IsAssign d) begins_expression
opens-assign d = opens_wider _ (IsAssign d) _ (only_assign d) (opens-unary (suc d))

pub opens-branch : (d : ℕ) → Opens (IsBranch d) begins_expression
opens-branch d = opens_wider _ (IsBranch d) _ (only_branch d) (opens-unary (suc d))

sample_opened : {A : Type 0} (R : Rule A) (k : TokenKind → Bool) → Opens R k → (t : Token) → k t.kind ≡ true → is_else t.kind ≡ false → (n : ℕ) → Sample R n
sample_opened R k o t h q n = let z = o t h n in record { more = z.0 ∷ z.2; value = z.3; quiet = ap (λ (u : Token). is_else u.kind) z.1 ∙ q; holds = λ tail w. z.5 tail w }

-- ---- no level left

zero_token : Token
zero_token = record { kind = Number (pos 0); at = 0; line = 0 }

pub exact-no_assign : (limit d : ℕ) → limit ≤ d → Exact limit (no_deeper begins_expression) (IsAssign d) (ExpressionEnds extends_assign)
unfolding zero_token
exact-no_assign limit d le = record {
  local = local-no_deeper begins_expression;
  consumes = consumes-no_deeper begins_expression;
  fits = fits-no_deeper begins_expression (opens-assign d) (sample_opened (IsAssign d) begins_expression (opens-assign d) zero_token refl refl);
  reads = λ ts a b e h s w. reads-too_deep limit ts begins_expression fail (opened-assign h) (omega arith) s;
}

pub exact-no_branch : (limit d : ℕ) → limit ≤ d → Exact limit (no_deeper begins_expression) (IsBranch d) (ExpressionEnds extends_cond)
unfolding zero_token
exact-no_branch limit d le = record {
  local = local-no_deeper begins_expression;
  consumes = consumes-no_deeper begins_expression;
  fits = fits-no_deeper begins_expression (opens-branch d) (sample_opened (IsBranch d) begins_expression (opens-branch d) zero_token refl refl);
  reads = λ ts a b e h s w. reads-too_deep limit ts begins_expression fail (opened-branch h) (omega arith) s;
}
