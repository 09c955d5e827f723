-- Unary expressions are read exactly, where an `assign` inside and an operand of the next depth are.
use Rattle.std.proofs.Common.{◌+◌, ◌≡◌, refl, ap, subst, ℕ, suc, pos, ◌≤◌, arith, true, false, List, [], ◌∷◌, ◌++◌, Option, Some, None}
use Rattle.sc_base.specs.declared.shape.Star.{Star}
use Rattle.sc_tree.specs.declared.token.Token.{Token}
use Rattle.sc_tree.specs.declared.token.TokenKind.{TokenKind}
use Rattle.sc_tree.specs.declared.token.TokenKind.TheVariants.{Number, Name, Format, Word, Mark}
use Rattle.sc_tree.specs.declared.token.Word.TheVariants as words
use Rattle.sc_tree.specs.declared.token.Mark.{Mark as TheMark}
use Rattle.sc_tree.specs.declared.token.Mark.TheVariants as marks
use Rattle.sc_tree.specs.Plain.{Expression, expression, number, cast, Tail}
use Rattle.sc_tree.specs.View.{tails_of}
use Rattle.sc_grammar.specs.declared.operators.Prefix.{Prefix}
use Rattle.sc_grammar.specs.declared.position.Position.{Position}
use Rattle.sc_grammar.specs.Marks.{prefix_of, prefixed}
use Rattle.sc_grammar.specs.Rest.{Spelt, Rest, rest, Takes, takes, number_of, line_of}
use Rattle.sc_grammar.specs.Expressions.{placed, around, tailed, IsStars, no_stars, IsAssign, IsUnary, prefix_operator, casting, no_prefix, IsPrimary, numeral, null_word, my_proc_word, procs_word, size_of_int, named, called, parenthesized, IsTails, no_more_tails}
use Rattle.sc_grammar.proofs.Reading.{Parser, is_mark, is_word, is_given, if_taken}
use Rattle.sc_grammar.proofs.ReadingExpressions.{begins_expression, prefix_in, is_prefix, placed_at, prefix_after, if_prefix, cast_after, if_cast, parenthesis_after, no_prefix as unprefixed, unary_by}
use Rattle.sc_grammar.proofs.Local.{Local, Consumes, local-bind, local-here, local-pure, local-must, local-too_deep, local-if_taken, local-if_given, local-if_next, consumes-first, consumes-second, consumes-too_deep, consumes-if_taken, consumes-if_given, consumes-if_next}
use Rattle.sc_grammar.proofs.Fits.{Fits, Sample, past, After, fits-bind, fits-pure, fits-wider}
use Rattle.sc_grammar.proofs.FitsTokens.{Gave, Was, At, Opens, spelt, fits-here, never_idle, fits-if_given, fits-if_taken, fits-if_too_deep, fits-mark, was-mark, was-word}
use Rattle.sc_grammar.proofs.Derived.{Stands, Reads, place_at, next_gives, reads-bind, reads-here, reads-pure, reads-given, reads-not_given, reads-not_next, reads-mark, reads-taken_mark, reads-taken_word, reads-not_taken, reads-too_deep}
use Rattle.sc_grammar.proofs.Apart.{is_word-is, apart-word}
use Rattle.sc_grammar.proofs.Laws.{Exact, Without, without, opened_without, ExpressionEnds, extends_assign, extends_level, OperandOf}
use Rattle.sc_grammar.proofs.Openings.{opened_token, opened-assign}
use Rattle.sc_grammar.proofs.StarsRead.{local-stars, fits-stars, reads-stars, extends_stars}
use Rattle.sc_grammar.proofs.PrimaryRead.{made-in, placed-in, local-plain_primary, consumes-plain_primary, fits-plain_primary, reads-plain_primary}
use Rattle.sc_grammar.proofs.TailsRead.{no_call, local-with_tails, fits-with_tails, reads-with_tails}

-- ---- operators before an operand

-- the token is an operator before an operand
record IsPrefix (kind : TokenKind) (x : Prefix) : Type 0 where
  mark : TheMark
  is : kind ≡ Mark mark
  gives : prefix_of mark ≡ Some x

prefix_is : (kind : TokenKind) (x : Prefix) → prefix_in kind ≡ Some x → IsPrefix kind x
prefix_is (Mark m) x h = record { mark = m; is = refl; gives = h }
prefix_is (Number y) x h = cc
prefix_is (Format y) x h = cc
prefix_is (Name y) x h = cc
prefix_is (Word y) x h = cc

given_some : {A : Type 0} (o : Option A) → is_given o ≡ true → (x : A) × (o ≡ Some x)
given_some (Some x) h = (x, refl)
given_some None h = cc

given_none : {A : Type 0} (o : Option A) → is_given o ≡ false → o ≡ None
given_none (Some x) h = cc
given_none None h = refl

no_prefix_here : (a : Rest) → Without is_prefix a → next_gives prefix_in a ≡ None
no_prefix_here (rest n []) w = refl
no_prefix_here (rest n (s ∷ us)) w = given_none (prefix_in s.token.kind) w

-- ---- samples

-- a numeral is an expression
pub sample-unary : (d n : ℕ) → Sample (IsUnary d) n
sample-unary d n = record {
  more = spelt (record { kind = Number (pos 0); at = 0; line = 0 }) d ∷ [];
  value = expression (number (pos 0)) (n + 1) (n + 1) 0;
  quiet = refl;
  holds = λ tail w. no_prefix (numeral takes) no_more_tails;
}

-- a token of a kind that is known
takes_kind : (d n : ℕ) (t : Token) (kind : TokenKind) (us : List Spelt) → t.kind ≡ kind → Takes kind d (rest n (spelt t d ∷ us)) (rest (n + 1) us)
takes_kind d n t kind us e = subst (λ (k : TokenKind). Takes k d (rest n (spelt t d ∷ us)) (rest (n + 1) us)) e takes

-- an operator begins a unary expression
opens-prefix : (d : ℕ) (p : Position) → Opens (At p (IsUnary d)) is_prefix
opens-prefix d p t h n =
    let x = given_some (prefix_in t.kind) h in
    let m = prefix_is t.kind x.0 x.1 in
    let operand = sample-unary (suc d) (n + 1) in (
      spelt t (suc d),
      refl,
      operand.more,
      placed (rest n (spelt t (suc d) ∷ [])) (prefixed x.0 operand.value),
      operand.quiet,
      λ tail w i. prefix_operator m.gives (takes_kind (suc d) n t (Mark m.mark) (operand.more ++ tail) m.is) (operand.holds tail w),
    )

-- after a parenthesis, the type word begins a cast
opens-cast : (d : ℕ) (p : Position) → Opens (After (Was (is_mark marks.OpenRound) d) tt (At p (IsUnary d))) (is_word words.Int)
opens-cast d p t h n =
    let operand = sample-unary (suc d) (n + 1 + 1) in
    let close : Spelt = spelt (record { kind = Mark marks.CloseRound; at = 0; line = 0 }) (suc d) in (
      spelt t (suc d),
      refl,
      close ∷ operand.more,
      placed_at p (cast [] operand.value),
      refl,
      λ tail w a round i. placed-in (IsUnary d) p a (rest (past operand.more (n + 1 + 1)) tail) (cast [] operand.value)
          (casting (was-mark _ d a _ tt round) (takes_kind (suc d) n t (Word words.Int) (close ∷ (operand.more ++ tail)) (is_word-is words.Int t.kind h)) no_stars takes (operand.holds tail w)) i,
    )

module _ (limit d : ℕ) (le : d ≤ limit) (value : Parser Expression) (hv : Exact limit value (IsAssign d) (ExpressionEnds extends_assign)) where
  -- ---- how far reading looks and moves

  local-prefix_after : (p : Position) (q : Parser Expression) → Local q → (x : Prefix) → Local (prefix_after value p q x)
  unfolding prefix_after
  local-prefix_after p q h x = local-bind h (λ e. local-pure _)

  local-cast_after : (p : Position) (q : Parser Expression) → Local q → Local (cast_after value p q)
  unfolding cast_after
  local-cast_after p q h = local-bind local-stars (λ ss. local-bind (local-must _) (λ u. local-bind h (λ e. local-pure _)))

  local-if_prefix : (operand : Option (Parser Expression)) → OperandOf limit d operand → (p : Position) {other : Parser Expression} → Local other → Local (if_prefix value p operand other)
  local-if_prefix None o p h = local-if_next _ local-too_deep h
  local-if_prefix (Some q) o p h = local-if_given _ (λ x. local-prefix_after p q o.1.local x) h

  local-if_cast : (operand : Option (Parser Expression)) → OperandOf limit d operand → (p : Position) {other : Parser Expression} → Local other → Local (if_cast value p operand other)
  local-if_cast None o p h = local-if_next _ local-too_deep h
  local-if_cast (Some q) o p h = local-if_taken _ (local-cast_after p q o.1.local) h

  local-parenthesis_after : (p : Position) → Local (parenthesis_after value p)
  unfolding parenthesis_after
  local-parenthesis_after p = local-bind hv.local (λ e. local-bind (local-must _) (λ u. local-with_tails limit d le value hv p _))

  local-unprefixed : (p : Position) → Local (unprefixed value p)
  unfolding unprefixed
  local-unprefixed p = local-bind (local-plain_primary limit d le value hv p) (λ e. local-with_tails limit d le value hv p e)

  consumes-unprefixed : (p : Position) → Consumes (unprefixed value p)
  unfolding unprefixed
  consumes-unprefixed p = consumes-first (consumes-plain_primary limit d le value hv p) (λ e. local-with_tails limit d le value hv p e)

  consumes-if_prefix : (operand : Option (Parser Expression)) → OperandOf limit d operand → (p : Position) {other : Parser Expression} → Consumes other → Consumes (if_prefix value p operand other)
  consumes-if_prefix None o p h = consumes-if_next _ consumes-too_deep h
  consumes-if_prefix (Some q) o p h = consumes-if_given _ (λ x. local-prefix_after p q o.1.local x) h

  -- ---- what is read fits the grammar

  fits-prefix_after : (p : Position) (q : Parser Expression) (x : Prefix) → Fits q (IsUnary (suc d)) → Fits (prefix_after value p q x) (After (Gave prefix_in (suc d)) x (At p (IsUnary d)))
  unfolding prefix_after
  fits-prefix_after p q x h =
      fits-bind h (λ e. fits-pure _ (λ c b he a t m.
      let g = prefix_is t.kind x t.gives in
      placed-in (IsUnary d) p a c (prefixed x e) (prefix_operator g.gives (subst (λ (k : TokenKind). Takes k (suc d) a b) g.is t.takes) he) m))

  fits-if_prefix : (operand : Option (Parser Expression)) → OperandOf limit d operand → (p : Position) {other : Parser Expression} → Fits other (At p (IsUnary d)) → Fits (if_prefix value p operand other) (At p (IsUnary d))
  fits-if_prefix None o p h = fits-if_too_deep is_prefix (opens-prefix d p) h
  fits-if_prefix (Some q) o p h = fits-if_given prefix_in (suc d) (λ x. fits-prefix_after p q x o.1.fits) h

  fits-cast_after : (p : Position) (q : Parser Expression) → Fits q (IsUnary (suc d)) →
      Fits (cast_after value p q) (After (Was (is_word words.Int) (suc d)) tt (After (Was (is_mark marks.OpenRound) d) tt (At p (IsUnary d))))
  unfolding cast_after
  fits-cast_after p q h =
      fits-bind (fits-stars (suc d)) (λ ss. fits-bind (fits-mark marks.CloseRound (suc d)) (λ u. fits-bind h (λ e. fits-pure _ (λ j g he f close c hs b int a round m.
      placed-in (IsUnary d) p a j (cast ss e) (casting (was-mark _ d a b tt round) (was-word _ (suc d) b c tt int) hs close he) m))))

  fits-if_cast : (operand : Option (Parser Expression)) → OperandOf limit d operand → (p : Position) {other : Parser Expression} →
      Fits other (After (Was (is_mark marks.OpenRound) d) tt (At p (IsUnary d))) → Fits (if_cast value p operand other) (After (Was (is_mark marks.OpenRound) d) tt (At p (IsUnary d)))
  fits-if_cast None o p h = fits-if_too_deep (is_word words.Int) (opens-cast d p) h
  fits-if_cast (Some q) o p h = fits-if_taken (is_word words.Int) (suc d) (fits-cast_after p q o.1.fits) h

  fits-parenthesis_after : (p : Position) → Fits (parenthesis_after value p) (After (Was (is_mark marks.OpenRound) d) tt (At p (IsUnary d)))
  unfolding parenthesis_after
  fits-parenthesis_after p =
      fits-bind hv.fits (λ e. fits-bind (fits-mark marks.CloseRound d) (λ u.
      fits-wider (λ f j y h c close b he a round m. h a (made-in (IsPrimary d) (λ at line. around at line e) p a f (parenthesized (was-mark _ d a b tt round) he close) m) m)
      (fits-with_tails limit d le value hv p (around p.at p.line e))))

  fits-unprefixed : (p : Position) → Fits (unprefixed value p) (At p (IsUnary d))
  unfolding unprefixed
  fits-unprefixed p =
      fits-bind (fits-plain_primary limit d le value hv p) (λ e.
      fits-wider (λ b c y h a he m. h a (he m) m) (fits-with_tails limit d le value hv p e))

  -- ---- what the grammar derives is read so

  module _ (ts : List Token) where
    reads_no_prefix : (operand : Option (Parser Expression)) (p : Position) {other : Parser Expression} {a b : Rest} {e : Expression} → Without is_prefix a → Stands ts a →
        Reads limit ts a b e other → Reads limit ts a b e (if_prefix value p operand other)
    reads_no_prefix None p w s h = reads-not_next limit ts _ _ w s h
    reads_no_prefix (Some q) p {a = a} w s h = reads-not_given limit ts prefix_in _ (no_prefix_here a w) s h

    reads_prefix : (operand : Option (Parser Expression)) → OperandOf limit d operand → (other : Parser Expression) {a b c : Rest} {m : TheMark} {x : Prefix} {e : Expression} →
        prefix_of m ≡ Some x → Takes (Mark m) (suc d) a b → IsUnary (suc d) b c e → Stands ts a → Without (extends_level 0) c →
        Reads limit ts a c (placed a (prefixed x e)) (if_prefix value (place_at a) operand other)
    unfolding prefix_after
    reads_prefix None o other i t h s w = reads-too_deep limit ts is_prefix other {d = suc d} (opened_token t (ap is_given i) (omega arith)) (omega arith) s
    reads_prefix (Some q) o other {b = b} {c = c} {e = e} i t h s w =
        reads-given limit ts prefix_in _ other i t o.0 s (λ r. reads-bind limit ts _ (o.1.reads ts b c e h r w) (λ r. reads-pure limit ts r))

    reads_no_cast : (operand : Option (Parser Expression)) (p : Position) {other : Parser Expression} {a b : Rest} {e : Expression} → Without (is_word words.Int) a → Stands ts a →
        Reads limit ts a b e other → Reads limit ts a b e (if_cast value p operand other)
    reads_no_cast None p w s h = reads-not_next limit ts _ _ w s h
    reads_no_cast (Some q) p w s h = reads-not_taken limit ts _ _ w s h

    reads_cast : (operand : Option (Parser Expression)) → OperandOf limit d operand → (p : Position) (other : Parser Expression) {a b c f g : Rest} {ss : List Star} {e : Expression} →
        Takes (Word words.Int) (suc d) a b → IsStars (suc d) b c ss → Takes (Mark marks.CloseRound) (suc d) c f → IsUnary (suc d) f g e → Stands ts a → Without (extends_level 0) g →
        Reads limit ts a g (placed_at p (cast ss e)) (if_cast value p operand other)
    unfolding cast_after
    reads_cast None o p other t hs u h s w = reads-too_deep limit ts (is_word words.Int) other {d = suc d} (opened_token t refl (omega arith)) (omega arith) s
    reads_cast (Some q) o p other {b = b} {c = c} {f = f} {g = g} {ss = ss} {e = e} t hs u h s w =
        reads-taken_word limit ts _ other t o.0 s (λ r.
        reads-bind limit ts _ (reads-stars limit (suc d) o.0 ts b c ss hs r (without extends_stars u refl)) (λ r.
        reads-mark limit ts _ _ u o.0 r (λ r.
        reads-bind limit ts _ (o.1.reads ts f g e h r w) (λ r. reads-pure limit ts r))))

    reads_parenthesis : (p : Position) {a b c f : Rest} {e : Expression} {xs : List Tail} → IsAssign d a b e → Takes (Mark marks.CloseRound) d b c → IsTails d c f xs → Stands ts a → Without (extends_level 0) f →
        Reads limit ts a f (tailed p.at p.line (around p.at p.line e) (tails_of xs)) (parenthesis_after value p)
    unfolding parenthesis_after
    reads_parenthesis p {a = a} {b = b} {c = c} {f = f} {e = e} {xs = xs} h u hs s w =
        reads-bind limit ts _ (hv.reads ts a b e h s (without _ u refl)) (λ r.
        reads-mark limit ts _ _ u le r (λ r.
        reads-with_tails limit d le value hv ts p _ c f xs hs r w))

    reads_unprefixed : (a b c : Rest) (e : Expression) (xs : List Tail) → IsPrimary d a b e → Without (is_mark marks.OpenRound) a → IsTails d b c xs → Stands ts a → Without (extends_level 0) c →
        Reads limit ts a c (tailed (number_of a) (line_of a) e (tails_of xs)) (unprefixed value (place_at a))
    unfolding unprefixed
    reads_unprefixed a b c e xs h o hs s w =
        reads-bind limit ts _ (reads-plain_primary limit d le value hv ts a b e h o s (no_call hs w)) (λ r.
        reads-with_tails limit d le value hv ts (place_at a) e b c xs hs r w)

  module _ (operand : Option (Parser Expression)) (o : OperandOf limit d operand) where
    local-unary_here : (p : Position) → Local (if_prefix value p operand (if_taken (is_mark marks.OpenRound) (if_cast value p operand (parenthesis_after value p)) (unprefixed value p)))
    local-unary_here p = local-if_prefix operand o p (local-if_taken _ (local-if_cast operand o p (local-parenthesis_after p)) (local-unprefixed p))

    consumes-unary_here : (p : Position) → Consumes (if_prefix value p operand (if_taken (is_mark marks.OpenRound) (if_cast value p operand (parenthesis_after value p)) (unprefixed value p)))
    consumes-unary_here p = consumes-if_prefix operand o p (consumes-if_taken _ (local-if_cast operand o p (local-parenthesis_after p)) (consumes-unprefixed p))

    pub fits-unary_by : Fits (unary_by value operand) (IsUnary d)
    unfolding unary_by
    fits-unary_by =
        fits-here (sample-unary d) (never_idle (IsUnary d) consumes-unary_here)
        (λ p. fits-if_prefix operand o p (fits-if_taken _ d (fits-if_cast operand o p (fits-parenthesis_after p)) (fits-unprefixed p)))

    -- where no operator and no parenthesis begins it
    reads_plain : (ts : List Token) (a b c : Rest) (e : Expression) (xs : List Tail) → IsPrimary d a b e → Without is_prefix a → Without (is_mark marks.OpenRound) a → IsTails d b c xs → Stands ts a → Without (extends_level 0) c →
        Reads limit ts a c (tailed (number_of a) (line_of a) e (tails_of xs)) (unary_by value operand)
    unfolding unary_by
    reads_plain ts a b c e xs h i j hs s w =
        reads-here limit ts _ s (
        reads_no_prefix ts operand (place_at a) i s (
        reads-not_taken limit ts _ _ j s (reads_unprefixed ts a b c e xs h j hs s w)))

    pub reads-unary_by : (ts : List Token) (a b : Rest) (e : Expression) → IsUnary d a b e → Stands ts a → Without (extends_level 0) b → Reads limit ts a b e (unary_by value operand)
    unfolding unary_by
    reads-unary_by ts a b e (prefix_operator i t h) s w = reads-here limit ts _ s (reads_prefix ts operand o _ i t h s w)
    reads-unary_by ts a b e (casting t u hs v h) s w =
        reads-here limit ts _ s (
        reads_no_prefix ts operand (place_at a) (without _ t refl) s (
        reads-taken_mark limit ts _ _ t le s (λ r. reads_cast ts operand o (place_at a) _ u hs v h r w)))
    reads-unary_by ts a b e (no_prefix (parenthesized t h u) hs) s w =
        reads-here limit ts _ s (
        reads_no_prefix ts operand (place_at a) (without _ t refl) s (
        reads-taken_mark limit ts _ _ t le s (λ r.
        reads_no_cast ts operand (place_at a) (opened_without begins_expression (is_word words.Int) (apart-word begins_expression words.Int refl) (opened-assign h)) r
        (reads_parenthesis ts (place_at a) h u hs r w))))
    reads-unary_by ts a b e (no_prefix (numeral t) hs) s w = reads_plain ts a _ b _ _ (numeral t) (without _ t refl) (without _ t refl) hs s w
    reads-unary_by ts a b e (no_prefix (null_word t) hs) s w = reads_plain ts a _ b _ _ (null_word t) (without _ t refl) (without _ t refl) hs s w
    reads-unary_by ts a b e (no_prefix (my_proc_word t) hs) s w = reads_plain ts a _ b _ _ (my_proc_word t) (without _ t refl) (without _ t refl) hs s w
    reads-unary_by ts a b e (no_prefix (procs_word t) hs) s w = reads_plain ts a _ b _ _ (procs_word t) (without _ t refl) (without _ t refl) hs s w
    reads-unary_by ts a b e (no_prefix (size_of_int t u v x) hs) s w = reads_plain ts a _ b _ _ (size_of_int t u v x) (without _ t refl) (without _ t refl) hs s w
    reads-unary_by ts a b e (no_prefix (named t) hs) s w = reads_plain ts a _ b _ _ (named t) (without _ t refl) (without _ t refl) hs s w
    reads-unary_by ts a b e (no_prefix (called t u h v) hs) s w = reads_plain ts a _ b _ _ (called t u h v) (without _ t refl) (without _ t refl) hs s w

    pub exact-unary_by : Exact limit (unary_by value operand) (IsUnary d) (ExpressionEnds (extends_level 0))
    unfolding unary_by
    exact-unary_by = record {
      local = local-bind local-here local-unary_here;
      consumes = consumes-second local-here consumes-unary_here;
      fits = fits-unary_by;
      reads = reads-unary_by;
    }
