-- Arguments and primary expressions that are in no parentheses are read exactly, where an `assign` inside is.
use Rattle.std.proofs.Common.{◌≡◌, refl, sym, ap, ◌∙◌, subst, ℕ, ℤ, pos, ◌≤◌, Bool, true, false, List, [], ◌∷◌, Option, Some, None}
use Rattle.sc_tree.specs.declared.token.Token.{Token}
use Rattle.sc_tree.specs.declared.token.TokenKind.{TokenKind}
use Rattle.sc_tree.specs.declared.token.TokenKind.TheVariants.{Number, Name, Format, Word, Mark}
use Rattle.sc_tree.specs.declared.token.Word.TheVariants as words
use Rattle.sc_tree.specs.declared.token.Mark.TheVariants as marks
use Rattle.sc_tree.specs.Plain.{Expression, expression, Kind, number, null, my_proc, procs, size_int, name, format, call}
use Rattle.sc_tree.specs.View.{expressions_of}
use Rattle.sc_grammar.specs.declared.position.Position.{Position}
use Rattle.sc_grammar.specs.Rest.{Rest, Takes, takes, number_of, line_of}
use Rattle.sc_grammar.specs.Expressions.{placed, IsAssign, IsPrimary, numeral, null_word, my_proc_word, procs_word, size_of_int, named, called, parenthesized, IsArguments, no_arguments, some_arguments, IsMoreArguments, no_more_arguments, one_more_argument, IsArgument, value_argument, format_argument}
use Rattle.sc_grammar.proofs.Reading.{Parser, is_mark, is_word, many, name_in}
use Rattle.sc_grammar.proofs.ReadingExpressions.{begins_expression, number_in, format_in, placed_at, argument, one_more_argument as another_argument, arguments, after_name, size_of, by_word, plain_primary}
use Rattle.sc_grammar.proofs.Local.{Local, Consumes, Advances, local-bind, local-here, local-pure, local-fail, local-must, local-many, local-if_taken, local-if_given, local-if_next, advances-none, advances-if_taken, consumes-fail, consumes-second, consumes-if_taken, consumes-if_given}
use Rattle.sc_grammar.proofs.Fits.{Rule, Fits, Sample, After, fits-bind, fits-pure, fits-fail, fits-wider}
use Rattle.sc_grammar.proofs.FitsTokens.{Gave, Was, Matches, At, OneMore, fits-here, never_idle, fits-if_given, fits-if_taken, fits-if_next, fits-mark, fits-word, fits-many, sample-token, was-mark, was-word}
use Rattle.sc_grammar.proofs.Derived.{Stands, Reads, Opened, opened, next_gives, place_at, reads-bind, reads-here, reads-pure, reads-given, reads-not_given, reads-next, reads-not_next, reads-mark, reads-word, reads-taken_mark, reads-taken_word, reads-not_taken, reads-none, reads-more}
use Rattle.sc_grammar.proofs.Apart.{apart-mark}
use Rattle.sc_grammar.proofs.Laws.{Exact, Without, without, with_token, opened_without, ExpressionEnds, extends_assign}
use Rattle.sc_grammar.proofs.Openings.{opened-assign}

-- ---- what tokens give

format_is : (k : TokenKind) (x : ℕ) → format_in k ≡ Some x → k ≡ Format x
format_is (Format y) x h = cc
format_is (Number y) x h = cc
format_is (Name y) x h = cc
format_is (Word y) x h = cc
format_is (Mark y) x h = cc

number_is : (k : TokenKind) (n : ℤ) → number_in k ≡ Some n → k ≡ Number n
number_is (Number y) n h = cc
number_is (Format y) n h = cc
number_is (Name y) n h = cc
number_is (Word y) n h = cc
number_is (Mark y) n h = cc

name_is : (k : TokenKind) (x : ℕ) → name_in k ≡ Some x → k ≡ Name x
name_is (Name y) x h = cc
name_is (Number y) x h = cc
name_is (Format y) x h = cc
name_is (Word y) x h = cc
name_is (Mark y) x h = cc

pub gave-format : (d x : ℕ) (a b : Rest) → Gave format_in d a b x → Takes (Format x) d a b
gave-format d x a b g = subst (λ (k : TokenKind). Takes k d a b) (format_is g.kind x g.gives) g.takes

pub gave-number : (d : ℕ) (n : ℤ) (a b : Rest) → Gave number_in d a b n → Takes (Number n) d a b
gave-number d n a b g = subst (λ (k : TokenKind). Takes k d a b) (number_is g.kind n g.gives) g.takes

pub gave-name : (d x : ℕ) (a b : Rest) → Gave name_in d a b x → Takes (Name x) d a b
gave-name d x a b g = subst (λ (k : TokenKind). Takes k d a b) (name_is g.kind x g.gives) g.takes

-- a token that stands there gives nothing
pub gives_none : {A : Type 0} (f : TokenKind → Option A) {kind : TokenKind} {d : ℕ} {a b : Rest} → Takes kind d a b → f kind ≡ None → next_gives f a ≡ None
gives_none f takes e = e

-- what opens one thing gives nothing of another
pub opened_gives : {A : Type 0} (f : TokenKind → Option A) {k : TokenKind → Bool} {d : ℕ} {a : Rest} → ((kind : TokenKind) → k kind ≡ true → f kind ≡ None) → Opened k d a → next_gives f a ≡ None
opened_gives f h (opened e le) = h _ e

-- ---- trees at their places

-- what is made with the position is made with the place
pub made-in : {A : Type 0} (R : Rule A) (make : (at line : ℕ) → A) (p : Position) (a b : Rest) → R a b (make (number_of a) (line_of a)) → Matches p a → R a b (make p.at p.line)
made-in {A = A} R make p a b h m = subst (λ (x : A). R a b x) (sym (ap (λ (n : ℕ). make n p.line) m.at ∙ ap (λ (l : ℕ). make (number_of a) l) m.line)) h

pub placed-in : (R : Rule Expression) (p : Position) (a b : Rest) (kind : Kind) → R a b (placed a kind) → Matches p a → R a b (placed_at p kind)
placed-in R p a b kind h m = made-in R (λ at line. expression kind at at line) p a b h m

-- ---- arguments

no_format : (kind : TokenKind) → begins_expression kind ≡ true → format_in kind ≡ None
no_format (Number n) h = refl
no_format (Name x) h = refl
no_format (Format x) h = cc
no_format (Word w) h = refl
no_format (Mark m) h = refl

-- a comma and an argument
pub data IsNextArgument (d : ℕ) (a b : Rest) (e : Expression) : Type 0 where
  next_argument : {c : Rest} → Takes (Mark marks.Comma) d a c → IsArgument d c b e → IsNextArgument d a b e

more_arguments : (d : ℕ) (a b c : Rest) (x : Expression) (xs : List Expression) → IsNextArgument d a b x → IsMoreArguments d b c xs → IsMoreArguments d a c (x ∷ xs)
more_arguments d a b c x xs (next_argument t h) hs = one_more_argument t h hs

-- an argument begins with no closing parenthesis
argument_open : {d : ℕ} {a b : Rest} {e : Expression} → IsArgument d a b e → Without (is_mark marks.CloseRound) a
argument_open (value_argument h) = opened_without begins_expression (is_mark marks.CloseRound) (apart-mark begins_expression marks.CloseRound refl) (opened-assign h)
argument_open (format_argument t) = without _ t refl

-- after an argument comes a comma or the closing parenthesis
argument_ends : {d : ℕ} {a b c : Rest} {es : List Expression} → IsMoreArguments d a b es → Takes (Mark marks.CloseRound) d b c → Without extends_assign a
argument_ends no_more_arguments t = without _ t refl
argument_ends (one_more_argument u h hs) t = without _ u refl

-- ---- what words begin

local-size_of : (p : Position) → Local (size_of p)
unfolding size_of
local-size_of p = local-bind (local-must _) (λ u. local-bind (local-must _) (λ v. local-bind (local-must _) (λ w. local-pure _)))

local-by_word : (p : Position) → Local (by_word p)
unfolding by_word
local-by_word p = local-if_taken _ (local-pure _) (local-if_taken _ (local-pure _) (local-if_taken _ (local-pure _) (local-if_taken _ (local-size_of p) local-fail)))

consumes-by_word : (p : Position) → Consumes (by_word p)
unfolding by_word
consumes-by_word p = consumes-if_taken _ (local-pure _) (consumes-if_taken _ (local-pure _) (consumes-if_taken _ (local-pure _) (consumes-if_taken _ (local-size_of p) consumes-fail)))

-- a numeral is a sample of each rule that contains it
pub sample-numeral : (p : Position) (d : ℕ) (n : ℕ) → Sample (At p (IsPrimary d)) n
sample-numeral p d n = sample-token d (Number (pos 0)) (placed_at p (number (pos 0))) refl (λ a b t m. placed-in (IsPrimary d) p a b (number (pos 0)) (numeral t) m) n

module _ (d : ℕ) where
  fits-size_of : (p : Position) → Fits (size_of p) (After (Was (is_word words.Sizeof) d) tt (At p (IsPrimary d)))
  unfolding size_of
  fits-size_of p =
      fits-bind (fits-mark marks.OpenRound d) (λ u. fits-bind (fits-word words.Int d refl) (λ v. fits-bind (fits-mark marks.CloseRound d) (λ w.
      fits-pure _ (λ g f close c int b round a t m.
      placed-in (IsPrimary d) p a g size_int (size_of_int (was-word _ d a b tt t) round int close) m))))

  fits-by_word : (p : Position) → Fits (by_word p) (At p (IsPrimary d))
  unfolding by_word
  fits-by_word p =
      fits-if_taken _ d (fits-pure _ (λ b a t m. placed-in (IsPrimary d) p a b null (null_word (was-word _ d a b tt t)) m)) (
      fits-if_taken _ d (fits-pure _ (λ b a t m. placed-in (IsPrimary d) p a b my_proc (my_proc_word (was-word _ d a b tt t)) m)) (
      fits-if_taken _ d (fits-pure _ (λ b a t m. placed-in (IsPrimary d) p a b procs (procs_word (was-word _ d a b tt t)) m)) (
      fits-if_taken _ d (fits-size_of p) (fits-fail (sample-numeral p d)))))

module _ (limit d : ℕ) (le : d ≤ limit) (value : Parser Expression) (hv : Exact limit value (IsAssign d) (ExpressionEnds extends_assign)) where
  pub local-argument : Local (argument value)
  unfolding argument
  local-argument = local-bind local-here (λ p. local-if_given _ (λ x. local-pure _) hv.local)

  pub consumes-argument : Consumes (argument value)
  unfolding argument
  consumes-argument = consumes-second local-here (λ p. consumes-if_given _ (λ x. local-pure _) hv.consumes)

  pub fits-argument : Fits (argument value) (IsArgument d)
  unfolding argument
  fits-argument =
      fits-here (fits-wider {R = IsArgument d} (λ a b e h. value_argument h) hv.fits).sample
      (never_idle (IsArgument d) (λ p. consumes-if_given _ (λ x. local-pure _) hv.consumes))
      (λ p. fits-if_given format_in d
      (λ x. fits-pure _ (λ b a g m. placed-in (IsArgument d) p a b (format x) (format_argument (gave-format d x a b g)) m))
      (fits-wider (λ a b e h m. value_argument h) hv.fits))

  pub reads-argument : (ts : List Token) (a b : Rest) (e : Expression) → IsArgument d a b e → Stands ts a → Without extends_assign b → Reads limit ts a b e (argument value)
  unfolding argument
  reads-argument ts a b e (value_argument h) s w =
      reads-here limit ts _ s (reads-not_given limit ts format_in _ (opened_gives format_in no_format (opened-assign h)) s (hv.reads ts a b e h s w))
  reads-argument ts a b e (format_argument t) s w =
      reads-here limit ts _ s (reads-given limit ts format_in _ _ refl t le s (λ r. reads-pure limit ts r))

  advances-another_argument : Advances (another_argument value)
  unfolding another_argument
  advances-another_argument = advances-if_taken _ (local-bind local-argument (λ e. local-pure _)) advances-none

  fits-another_argument : Fits (another_argument value) (OneMore (IsNextArgument d))
  unfolding another_argument
  fits-another_argument =
      fits-if_taken _ d (fits-bind fits-argument (λ e. fits-pure _ (λ c b h a w. next_argument (was-mark _ d a b tt w) h)))
      (fits-pure None (λ a. refl))

  reads_more_arguments : (ts : List Token) (a b c : Rest) (es : List Expression) → IsMoreArguments d a b es → Takes (Mark marks.CloseRound) d b c → Stands ts a → Reads limit ts a b es (many (another_argument value))
  unfolding another_argument
  reads_more_arguments ts a b c es no_more_arguments t s =
      reads-none limit ts _ advances-another_argument s (reads-not_taken limit ts _ _ (without _ t refl) s (reads-pure limit ts s))
  reads_more_arguments ts a b c es (one_more_argument {c = f} {e = e} {es = more} u h hs) t s =
      reads-more limit ts _ advances-another_argument
      (reads-taken_mark limit ts _ _ u le s (λ r. reads-bind limit ts _ (reads-argument ts _ f e h r (argument_ends hs t)) (λ q. reads-pure limit ts q)))
      (λ r. reads_more_arguments ts f b c more hs t r)

  pub local-arguments : Local (arguments value)
  unfolding arguments
  local-arguments = local-if_next _ (local-pure _) (local-bind local-argument (λ e. local-bind (local-many advances-another_argument) (λ es. local-pure _)))

  pub fits-arguments : Fits (arguments value) (IsArguments d)
  unfolding arguments
  fits-arguments =
      fits-if_next _ (fits-pure [] (λ a. no_arguments))
      (fits-bind fits-argument (λ e.
      fits-bind (fits-many (IsNextArgument d) (IsMoreArguments d) (λ a. no_more_arguments) (more_arguments d) _ fits-another_argument)
      (λ es. fits-pure _ (λ c b hs a h. some_arguments h hs))))

  pub reads-arguments : (ts : List Token) (a b c : Rest) (es : List Expression) → IsArguments d a b es → Takes (Mark marks.CloseRound) d b c → Stands ts a → Reads limit ts a b es (arguments value)
  unfolding arguments
  reads-arguments ts a b c es no_arguments t s = reads-next limit ts _ _ (with_token _ t refl) s (reads-pure limit ts s)
  reads-arguments ts a b c es (some_arguments {b = f} {e = e} {es = more} h hs) t s =
      reads-not_next limit ts _ _ (argument_open h) s
      (reads-bind limit ts _ (reads-argument ts a f e h s (argument_ends hs t)) (λ r.
      reads-bind limit ts _ (reads_more_arguments ts f b c more hs t r) (λ q. reads-pure limit ts q)))

  -- ---- primary expressions

  local-after_name : (p : Position) (x : ℕ) → Local (after_name value p x)
  unfolding after_name
  local-after_name p x = local-if_taken _ (local-bind local-arguments (λ es. local-bind (local-must _) (λ u. local-pure _))) (local-pure _)

  fits-after_name : (p : Position) (x : ℕ) → Fits (after_name value p x) (After (Gave name_in d) x (At p (IsPrimary d)))
  unfolding after_name
  fits-after_name p x =
      fits-if_taken _ d
      (fits-bind fits-arguments (λ es. fits-bind (fits-mark marks.CloseRound d) (λ u. fits-pure _ (λ g f close c hs b round a t m.
      placed-in (IsPrimary d) p a g (call x (expressions_of es)) (called (gave-name d x a b t) (was-mark _ d b c tt round) hs close) m))))
      (fits-pure _ (λ b a t m. placed-in (IsPrimary d) p a b (name x) (named (gave-name d x a b t)) m))

  pub local-plain_primary : (p : Position) → Local (plain_primary value p)
  unfolding plain_primary
  local-plain_primary p = local-if_given _ (λ n. local-pure _) (local-if_given _ (λ x. local-after_name p x) (local-by_word p))

  pub consumes-plain_primary : (p : Position) → Consumes (plain_primary value p)
  unfolding plain_primary
  consumes-plain_primary p = consumes-if_given _ (λ n. local-pure _) (consumes-if_given _ (λ x. local-after_name p x) (consumes-by_word p))

  pub fits-plain_primary : (p : Position) → Fits (plain_primary value p) (At p (IsPrimary d))
  unfolding plain_primary
  fits-plain_primary p =
      fits-if_given number_in d (λ n. fits-pure _ (λ b a t m. placed-in (IsPrimary d) p a b (number n) (numeral (gave-number d n a b t)) m))
      (fits-if_given name_in d (λ x. fits-after_name p x) (fits-by_word d p))

  reads_word : (ts : List Token) {kind : TokenKind} {a c b : Rest} {e : Expression} → Takes kind d a c → number_in kind ≡ None → name_in kind ≡ None → Stands ts a →
      Reads limit ts a b e (by_word (place_at a)) → Reads limit ts a b e (plain_primary value (place_at a))
  unfolding plain_primary
  reads_word ts t x y s h = reads-not_given limit ts number_in _ (gives_none number_in t x) s (reads-not_given limit ts name_in _ (gives_none name_in t y) s h)

  -- where no parenthesis begins it, and a name is followed by none
  pub reads-plain_primary : (ts : List Token) (a b : Rest) (e : Expression) → IsPrimary d a b e → Without (is_mark marks.OpenRound) a → Stands ts a → Without (is_mark marks.OpenRound) b →
      Reads limit ts a b e (plain_primary value (place_at a))
  unfolding plain_primary after_name by_word size_of
  reads-plain_primary ts a b e (numeral t) o s w = reads-given limit ts number_in _ _ refl t le s (λ r. reads-pure limit ts r)
  reads-plain_primary ts a b e (null_word t) o s w = reads_word ts t refl refl s (reads-taken_word limit ts _ _ t le s (λ r. reads-pure limit ts r))
  reads-plain_primary ts a b e (my_proc_word t) o s w =
      reads_word ts t refl refl s (reads-not_taken limit ts _ _ (without _ t refl) s (reads-taken_word limit ts _ _ t le s (λ r. reads-pure limit ts r)))
  reads-plain_primary ts a b e (procs_word t) o s w =
      reads_word ts t refl refl s (
      reads-not_taken limit ts _ _ (without _ t refl) s (
      reads-not_taken limit ts _ _ (without _ t refl) s (reads-taken_word limit ts _ _ t le s (λ r. reads-pure limit ts r))))
  reads-plain_primary ts a b e (size_of_int t u v x) o s w =
      reads_word ts t refl refl s (
      reads-not_taken limit ts _ _ (without _ t refl) s (
      reads-not_taken limit ts _ _ (without _ t refl) s (
      reads-not_taken limit ts _ _ (without _ t refl) s (
      reads-taken_word limit ts _ _ t le s (λ r.
      reads-mark limit ts _ _ u le r (λ r.
      reads-word limit ts _ _ v le r (λ r.
      reads-mark limit ts _ _ x le r (λ r. reads-pure limit ts r))))))))
  reads-plain_primary ts a b e (named t) o s w =
      reads-not_given limit ts number_in _ (gives_none number_in t refl) s (
      reads-given limit ts name_in _ _ refl t le s (λ r. reads-not_taken limit ts _ _ w r (reads-pure limit ts r)))
  reads-plain_primary ts a b e (called {c = f} {f = g} {es = es} t u h v) o s w =
      reads-not_given limit ts number_in _ (gives_none number_in t refl) s (
      reads-given limit ts name_in _ _ refl t le s (λ r.
      reads-taken_mark limit ts _ _ u le r (λ r.
      reads-bind limit ts _ (reads-arguments ts f g b es h v r) (λ r.
      reads-mark limit ts _ _ v le r (λ r. reads-pure limit ts r)))))
  reads-plain_primary ts a b e (parenthesized t h u) o s w = absurd (let z : true ≡ false = sym (with_token (is_mark marks.OpenRound) t refl) ∙ o in cc)
