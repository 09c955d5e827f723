-- The tails of an expression are read exactly, where an `assign` inside is.
use Rattle.std.proofs.Common.{◌≡◌, refl, sym, ap, ◌∙◌, ℕ, ◌≤◌, arith, Bool, true, false, List, [], ◌∷◌, Option, Some, None}
use Rattle.sc_tree.specs.declared.token.Token.{Token}
use Rattle.sc_tree.specs.declared.token.TokenKind.{TokenKind}
use Rattle.sc_tree.specs.declared.token.TokenKind.TheVariants.{Mark}
use Rattle.sc_tree.specs.declared.token.Mark.{Mark as TheMark}
use Rattle.sc_tree.specs.declared.token.Mark.TheVariants as marks
use Rattle.sc_tree.specs.Plain.{Expression, Tail, index, up, down}
use Rattle.sc_tree.specs.View.{tails_of}
use Rattle.sc_grammar.specs.declared.position.Position.{Position}
use Rattle.sc_grammar.specs.Rest.{Rest, rest, Takes, number_of, line_of}
use Rattle.sc_grammar.specs.Expressions.{tailed, IsAssign, IsUnary, no_prefix, IsPrimary, IsTails, no_more_tails, index_tail, up_tail, down_tail}
use Rattle.sc_grammar.proofs.Reading.{Parser, got, pure, if_taken, is_mark, many}
use Rattle.sc_grammar.proofs.ReadingExpressions.{index_after, one_tail, with_tails}
use Rattle.sc_grammar.proofs.Local.{Local, Advances, local-bind, local-pure, local-must, local-many, advances-none, advances-if_taken, advances-here}
use Rattle.sc_grammar.proofs.Fits.{Fits, After, fits-bind, fits-pure}
use Rattle.sc_grammar.proofs.FitsTokens.{Was, At, OneMore, fits-here, fits-if_taken, fits-mark, fits-many, was-mark}
use Rattle.sc_grammar.proofs.Derived.{Stands, Reads, reads-bind, reads-here, reads-pure, reads-mark, reads-taken_mark, reads-not_taken, reads-none, reads-more}
use Rattle.sc_grammar.proofs.Apart.{is_mark-is, not_true}
use Rattle.sc_grammar.proofs.Laws.{Exact, Without, without, ExpressionEnds, extends_assign, extends_level}
use Rattle.sc_grammar.proofs.PrimaryRead.{made-in}

-- where no such token stands, no such mark stands
pub without_mark : (k : TokenKind → Bool) (m : TheMark) → k (Mark m) ≡ true → (a : Rest) → Without k a → Without (is_mark m) a
without_mark k m h (rest n []) w = refl
without_mark k m h (rest n (s ∷ us)) w = not_true (is_mark m s.token.kind) (λ e. let z : true ≡ false = sym h ∙ ap k (sym (is_mark-is m s.token.kind e)) ∙ w in cc)

-- a single tail
pub data IsTail (d : ℕ) (a b : Rest) : Tail → Type 0 where
  index_one : {c f : Rest} {e : Expression} → Takes (Mark marks.OpenSquare) d a c → IsAssign d c f e → Takes (Mark marks.CloseSquare) d f b → IsTail d a b (index e (number_of a) (line_of a))
  up_one : Takes (Mark marks.PlusPlus) d a b → IsTail d a b (up (number_of a) (line_of a))
  down_one : Takes (Mark marks.MinusMinus) d a b → IsTail d a b (down (number_of a) (line_of a))

more_tails : (d : ℕ) (a b c : Rest) (x : Tail) (xs : List Tail) → IsTail d a b x → IsTails d b c xs → IsTails d a c (x ∷ xs)
more_tails d a b c x xs (index_one t h u) hs = index_tail t h u hs
more_tails d a b c x xs (up_one t) hs = up_tail t hs
more_tails d a b c x xs (down_one t) hs = down_tail t hs

-- no parenthesis stands where an expression without tails ends, nor where tails begin
pub no_call : {d : ℕ} {a b : Rest} {ts : List Tail} → IsTails d a b ts → Without (extends_level 0) b → Without (is_mark marks.OpenRound) a
no_call no_more_tails w = without_mark (extends_level 0) marks.OpenRound refl _ w
no_call (index_tail t h u hs) w = without _ t refl
no_call (up_tail t hs) w = without _ t refl
no_call (down_tail t hs) w = without _ t refl

module _ (limit d : ℕ) (le : d ≤ limit) (value : Parser Expression) (hv : Exact limit value (IsAssign d) (ExpressionEnds extends_assign)) where
  local-index_after : (p : Position) → Local (index_after value p)
  unfolding index_after
  local-index_after p = local-bind hv.local (λ e. local-bind (local-must _) (λ u. local-pure _))

  advances-tail_here : (p : Position) → Advances (if_taken (is_mark marks.OpenSquare) (index_after value p) (
      if_taken (is_mark marks.PlusPlus) (pure (Some (up p.at p.line))) (
      if_taken (is_mark marks.MinusMinus) (pure (Some (down p.at p.line))) (pure None))))
  advances-tail_here p = advances-if_taken _ (local-index_after p) (advances-if_taken _ (local-pure _) (advances-if_taken _ (local-pure _) advances-none))

  pub advances-one_tail : Advances (one_tail value)
  unfolding one_tail
  advances-one_tail = advances-here (λ p. advances-tail_here p)

  fits-index_after : (p : Position) → Fits (index_after value p) (After (Was (is_mark marks.OpenSquare) d) tt (At p (OneMore (IsTail d))))
  unfolding index_after
  fits-index_after p =
      fits-bind hv.fits (λ e. fits-bind (fits-mark marks.CloseSquare d) (λ u. fits-pure _ (λ f c close b h a t m.
      made-in (IsTail d) (λ at line. index e at line) p a f (index_one (was-mark _ d a b tt t) h close) m)))

  fits-one_tail : Fits (one_tail value) (OneMore (IsTail d))
  unfolding one_tail
  fits-one_tail =
      fits-here {R = OneMore (IsTail d)} (fits-pure None (λ a. refl)).sample idle
      (λ p. fits-if_taken _ d (fits-index_after p) (
      fits-if_taken _ d (fits-pure _ (λ b a t m. made-in (IsTail d) (λ at line. up at line) p a b (up_one (was-mark _ d a b tt t)) m)) (
      fits-if_taken _ d (fits-pure _ (λ b a t m. made-in (IsTail d) (λ at line. down at line) p a b (down_one (was-mark _ d a b tt t)) m)) (
      fits-pure None (λ a m. refl)))))
    where
      idle : (p : Position) (ts : List Token) (n : ℕ) (y : Option Tail) →
          if_taken (is_mark marks.OpenSquare) (index_after value p) (
          if_taken (is_mark marks.PlusPlus) (pure (Some (up p.at p.line))) (
          if_taken (is_mark marks.MinusMinus) (pure (Some (down p.at p.line))) (pure None))) ts n ≡ got y n →
          (a : Rest) → OneMore (IsTail d) a a y
      idle p ts n None e a = refl
      idle p ts n (Some x) e a = absurd (let lt = (advances-tail_here p).moves ts n x n e in omega arith)

  pub local-with_tails : (start : Position) (first : Expression) → Local (with_tails value start first)
  unfolding with_tails
  local-with_tails start first = local-bind (local-many advances-one_tail) (λ ts. local-pure _)

  pub fits-with_tails : (start : Position) (first : Expression) → Fits (with_tails value start first) (After (IsPrimary d) first (At start (IsUnary d)))
  unfolding with_tails
  fits-with_tails start first =
      fits-bind (fits-many (IsTail d) (IsTails d) (λ a. no_more_tails) (more_tails d) _ fits-one_tail) (λ ts.
      fits-pure _ (λ c b hs a h m. made-in (IsUnary d) (λ at line. tailed at line first (tails_of ts)) start a c (no_prefix h hs) m))

  reads_tails : (ts : List Token) (a b : Rest) (xs : List Tail) → IsTails d a b xs → Stands ts a → Without (extends_level 0) b → Reads limit ts a b xs (many (one_tail value))
  unfolding one_tail index_after
  reads_tails ts a b xs no_more_tails s w =
      reads-none limit ts _ advances-one_tail s (
      reads-here limit ts _ s (
      reads-not_taken limit ts _ _ (without_mark (extends_level 0) marks.OpenSquare refl _ w) s (
      reads-not_taken limit ts _ _ (without_mark (extends_level 0) marks.PlusPlus refl _ w) s (
      reads-not_taken limit ts _ _ (without_mark (extends_level 0) marks.MinusMinus refl _ w) s (reads-pure limit ts s)))))
  reads_tails ts a b xs (index_tail {b = c} {c = f} {f = g} {e = e} {ts = more} t h u hs) s w =
      reads-more limit ts _ advances-one_tail
      (reads-here limit ts _ s (reads-taken_mark limit ts _ _ t le s (λ r.
      reads-bind limit ts _ (hv.reads ts c f e h r (without _ u refl)) (λ r.
      reads-mark limit ts _ _ u le r (λ r. reads-pure limit ts r)))))
      (λ r. reads_tails ts g b more hs r w)
  reads_tails ts a b xs (up_tail {b = c} {ts = more} t hs) s w =
      reads-more limit ts _ advances-one_tail
      (reads-here limit ts _ s (
      reads-not_taken limit ts _ _ (without _ t refl) s (
      reads-taken_mark limit ts _ _ t le s (λ r. reads-pure limit ts r))))
      (λ r. reads_tails ts c b more hs r w)
  reads_tails ts a b xs (down_tail {b = c} {ts = more} t hs) s w =
      reads-more limit ts _ advances-one_tail
      (reads-here limit ts _ s (
      reads-not_taken limit ts _ _ (without _ t refl) s (
      reads-not_taken limit ts _ _ (without _ t refl) s (
      reads-taken_mark limit ts _ _ t le s (λ r. reads-pure limit ts r)))))
      (λ r. reads_tails ts c b more hs r w)

  pub reads-with_tails : (ts : List Token) (start : Position) (first : Expression) (a b : Rest) (xs : List Tail) → IsTails d a b xs → Stands ts a → Without (extends_level 0) b →
      Reads limit ts a b (tailed start.at start.line first (tails_of xs)) (with_tails value start first)
  unfolding with_tails
  reads-with_tails ts start first a b xs hs s w = reads-bind limit ts _ (reads_tails ts a b xs hs s w) (λ r. reads-pure limit ts r)
