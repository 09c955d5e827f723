-- Declarators are read exactly.
use Rattle.std.proofs.Common.{◌+◌, ◌≡◌, refl, sym, subst, ap₂, ℕ, suc, Bool, true, false, List, [], ◌∷◌, Some, None}
use Rattle.std.specs.Prelude.{◌||◌}
use Rattle.sc_base.specs.declared.shape.Star.{Star}
use Rattle.sc_base.specs.declared.shape.BoundStep.{BoundStep}
use Rattle.sc_base.specs.declared.shape.BoundStep.TheVariants as step
use Rattle.sc_base.specs.declared.shape.Bound.{Bound}
use Rattle.sc_base.specs.declared.shape.Shape.{Shape}
use Rattle.sc_tree.specs.declared.token.Token.{Token}
use Rattle.sc_tree.specs.declared.token.TokenKind.{TokenKind}
use Rattle.sc_tree.specs.declared.token.TokenKind.TheVariants.{Name, Word, Mark}
use Rattle.sc_tree.specs.declared.token.Word.TheVariants as words
use Rattle.sc_tree.specs.declared.token.Mark.TheVariants as marks
use Rattle.sc_grammar.specs.declared.position.Position.{Position}
use Rattle.sc_grammar.specs.Rest.{Rest, Takes, takes, line_of}
use Rattle.sc_grammar.specs.Expressions.{IsStars}
use Rattle.sc_grammar.specs.Statements.{int_with}
use Rattle.sc_grammar.specs.Items.{procs_unit, IsBound, IsBounds, no_more_bounds, one_more_bound, IsDeclarator, ordinary, spread, IsMoreDeclarators, no_more_declarators, one_more_declarator as one_more}
use Rattle.sc_grammar.proofs.Reading.{bind, here, must, is_mark, many, name_in}
use Rattle.sc_grammar.proofs.ReadingItems.{bound, one_bound, shape_of, after_left, declarator_after, declarator, one_more_declarator}
use Rattle.sc_grammar.proofs.Local.{Local, Consumes, Advances, local-bind, local-pure, local-here, local-if_taken, local-many, local-must, advances-none, advances-if_taken, consumes-first, consumes-second, consumes-must}
use Rattle.sc_grammar.proofs.Fits.{Sample, Fits, After, fits-bind, fits-pure, fits-wider}
use Rattle.sc_grammar.proofs.FitsTokens.{Was, OneMore, Matches, fits-if_taken, fits-here, never_idle, fits-must, fits-mark, fits-many, was-mark}
use Rattle.sc_grammar.proofs.Derived.{Stands, Reads, place_at, reads-bind, reads-pure, reads-here, reads-must, reads-mark, reads-taken_mark, reads-not_taken, reads-none, reads-more}
use Rattle.sc_grammar.proofs.Laws.{Exact, Without, without}
use Rattle.sc_grammar.proofs.StarsRead.{local-stars, fits-stars, reads-stars}
use Rattle.sc_grammar.proofs.Parts.{some_token, in_limit, Joined, joined}
use Rattle.sc_grammar.proofs.PrimaryRead.{gave-name}
use Rattle.sc_grammar.proofs.Extends.{or_false, fewer}
use Rattle.sc_grammar.proofs.BoundsRead.{single, extends_bound, BoundEnds, exact-bound}

-- ---- rules of the parts

-- a bound in its brackets
pub data IsOneBound (d : ℕ) (a b : Rest) : Bound → Type 0 where
  in_brackets : {c f : Rest} {all : List BoundStep} →
      Takes (Mark marks.OpenSquare) d a c → IsBound d c f all → Takes (Mark marks.CloseSquare) d f b →
      IsOneBound d a b (record { steps = all; line = line_of c })

more_bounds : (d : ℕ) (a b c : Rest) (x : Bound) (xs : List Bound) → IsOneBound d a b x → IsBounds d b c xs → IsBounds d a c (x ∷ xs)
more_bounds d a b c x xs (in_brackets t h u) bs = one_more_bound t h u bs

-- what stands after the name, where the stars, the position and the name are these
pub data IsDeclaratorAfter (d : ℕ) (ss : List Star) (p : Position) (x : ℕ) (a b : Rest) : Shape → Type 0 where
  ordinary_after : {bs : List Bound} → IsBounds d a b bs →
      IsDeclaratorAfter d ss p x a b (record { name = x; ty = int_with ss; spread = false; left = bs; right = []; at = p.at; line = p.line })
  spread_after : {c f : Rest} {first : Bound} {bs right : List Bound} →
      IsBounds d a c (first ∷ bs) → Takes (Mark marks.ColonColon) d c f → IsBounds d f b right →
      IsDeclaratorAfter d ss p x a b (record { name = x; ty = int_with ss; spread = true; left = first ∷ bs; right = right; at = p.at; line = p.line })

with_stars : {d x : ℕ} {a b c f : Rest} {ss : List Star} {s : Shape} →
    IsStars d a b ss → Takes (Name x) d b c → IsDeclaratorAfter d ss (place_at b) x c f s → IsDeclarator d a f s
with_stars st t (ordinary_after bs) = ordinary st t bs
with_stars st t (spread_after bs u right) = spread st t bs u right

abbrev position_of : ℕ → ℕ → Position
position_of at line = record { at = at; line = line }

pub position_is : (p : Position) (a : Rest) → Matches p a → p ≡ place_at a
position_is p a m = ap₂ position_of m.at m.line

-- at a place that the position is of
pub declare : {d x : ℕ} {a b c f : Rest} {ss : List Star} {p : Position} {s : Shape} →
    IsStars d a b ss → Takes (Name x) d b c → Matches p b → IsDeclaratorAfter d ss p x c f s → IsDeclarator d a f s
declare {d = d} {x = x} {b = b} {c = c} {f = f} {ss = ss} {p = p} {s = s} st t m h =
    with_stars st t (subst (λ (q : Position). IsDeclaratorAfter d ss q x c f s) (position_is p b m) h)

more_declarators : (d : ℕ) (a b c : Rest) (x : Shape) (xs : List Shape) → Joined d (IsDeclarator d) a b x → IsMoreDeclarators d b c xs → IsMoreDeclarators d a c (x ∷ xs)
more_declarators d a b c x xs (joined t h) ss = one_more t h ss

-- ---- what goes on with a declarator

abbrev pub extends_declarator : TokenKind → Bool
extends_declarator k = is_mark marks.OpenSquare k || is_mark marks.ColonColon k

no_square : (b : Rest) → Without extends_declarator b → Without (is_mark marks.OpenSquare) b
no_square = fewer extends_declarator _ (λ k e. (or_false (is_mark marks.OpenSquare k) (is_mark marks.ColonColon k) e).0)

no_colons : (b : Rest) → Without extends_declarator b → Without (is_mark marks.ColonColon) b
no_colons = fewer extends_declarator _ (λ k e. (or_false (is_mark marks.OpenSquare k) (is_mark marks.ColonColon k) e).1)

-- what stands before more declarators is a comma, or follows them
pub declarators_then : (k : TokenKind → Bool) → k (Mark marks.Comma) ≡ false → {d : ℕ} {a b : Rest} {ss : List Shape} → IsMoreDeclarators d a b ss → Without k b → Without k a
declarators_then k e no_more_declarators w = w
declarators_then k e (one_more t h ss) w = without k t e

-- what stands before bounds is a bracket, or follows them
bounds_then : (k : TokenKind → Bool) → k (Mark marks.OpenSquare) ≡ false → {d : ℕ} {a b : Rest} {bs : List Bound} → IsBounds d a b bs → Without k b → Without k a
bounds_then k e no_more_bounds w = w
bounds_then k e (one_more_bound t h u bs) w = without k t e

-- no parenthesis stands after the name of a declarator
pub no_parenthesis : {d x : ℕ} {ss : List Star} {p : Position} {a b : Rest} {s : Shape} → IsDeclaratorAfter d ss p x a b s → Without (is_mark marks.OpenRound) b → Without (is_mark marks.OpenRound) a
no_parenthesis (ordinary_after bs) w = bounds_then _ refl bs w
no_parenthesis (spread_after bs t right) w = bounds_then _ refl bs (without _ t refl)

-- ---- samples

sample-after_square : (d n : ℕ) → Sample (After (Was (is_mark marks.OpenSquare) d) tt (OneMore (IsOneBound d))) n
sample-after_square d n = record {
  more = some_token (Word words.Procs) (suc d) ∷ some_token (Mark marks.CloseSquare) d ∷ [];
  value = Some (record { steps = step.Procs ∷ []; line = 0 });
  quiet = refl;
  holds = λ tail w a v. in_brackets (was-mark _ d a _ tt v) (single (procs_unit takes)) takes;
}

sample-after_stars : (d : ℕ) (ss : List Star) (n : ℕ) → Sample (After (IsStars d) ss (IsDeclarator d)) n
sample-after_stars d ss n = record {
  more = some_token (Name 0) d ∷ [];
  value = record { name = 0; ty = int_with ss; spread = false; left = []; right = []; at = n + 1; line = 0 };
  quiet = refl;
  holds = λ tail w a st. ordinary st takes no_more_bounds;
}

-- ---- with so many levels of depth left

module _ (limit levels d : ℕ) (e : d + levels ≡ limit) where
  bounds : Exact limit (bound levels) (IsBound d) BoundEnds
  bounds = exact-bound limit levels d e

  advances-one_bound : Advances (one_bound levels)
  unfolding one_bound
  advances-one_bound = advances-if_taken _ (local-bind local-here (λ p. local-bind bounds.local (λ all. local-bind (local-must _) (λ u. local-pure _)))) advances-none

  local-after_left : (ss : List Star) (p : Position) (x : ℕ) (left : List Bound) → Local (after_left levels ss p x left)
  unfolding after_left
  local-after_left ss p x [] = local-pure _
  local-after_left ss p x (b ∷ bs) = local-if_taken _ (local-bind (local-many advances-one_bound) (λ right. local-pure _)) (local-pure _)

  pub local-declarator_after : (ss : List Star) (p : Position) (x : ℕ) → Local (declarator_after levels ss p x)
  unfolding declarator_after
  local-declarator_after ss p x = local-bind (local-many advances-one_bound) (λ left. local-after_left ss p x left)

  local-declarator : Local (declarator levels)
  unfolding declarator
  local-declarator = local-bind local-stars (λ ss. local-bind local-here (λ p. local-bind (local-must _) (λ x. local-declarator_after ss p x)))

  consumes-declarator : Consumes (declarator levels)
  unfolding declarator
  consumes-declarator = consumes-second local-stars (λ ss. consumes-named ss)
    where
      consumes-named : (ss : List Star) → Consumes (bind here (λ p. bind (must name_in) (λ x. declarator_after levels ss p x)))
      consumes-named ss = consumes-second local-here (λ p. consumes-first (consumes-must _) (λ x. local-declarator_after ss p x))

  pub advances-one_more_declarator : Advances (one_more_declarator levels)
  unfolding one_more_declarator
  advances-one_more_declarator = advances-if_taken _ (local-bind local-declarator (λ s. local-pure _)) advances-none

  fits-one_bound : Fits (one_bound levels) (OneMore (IsOneBound d))
  unfolding one_bound
  fits-one_bound =
      fits-if_taken _ d
      (fits-here (sample-after_square d)
      (never_idle (After (Was (is_mark marks.OpenSquare) d) tt (OneMore (IsOneBound d))) (λ p. consumes-first bounds.consumes (λ all. local-bind (local-must _) (λ u. local-pure _))))
      (λ p. fits-bind bounds.fits (λ all. fits-bind (fits-mark _ d) (λ u. fits-pure _ (λ f c t b h m a w. bracketed p m (in_brackets (was-mark _ d a b tt w) h t))))))
      (fits-pure None (λ a. refl))
    where
      bracketed : (p : Position) {a b c : Rest} {all : List BoundStep} → Matches p b → IsOneBound d a c (record { steps = all; line = line_of b }) → IsOneBound d a c (record { steps = all; line = p.line })
      bracketed p {a = a} {c = c} {all = all} m h = subst (λ (l : ℕ). IsOneBound d a c (record { steps = all; line = l })) (sym m.line) h

  fits-bounds : Fits (many (one_bound levels)) (IsBounds d)
  fits-bounds = fits-many (IsOneBound d) (IsBounds d) (λ a. no_more_bounds) (more_bounds d) (one_bound levels) fits-one_bound

  fits-after_left : (ss : List Star) (p : Position) (x : ℕ) (left : List Bound) → Fits (after_left levels ss p x left) (After (IsBounds d) left (IsDeclaratorAfter d ss p x))
  unfolding after_left
  fits-after_left ss p x [] = fits-pure _ (λ b a bs. ordinary_after bs)
  fits-after_left ss p x (first ∷ more) =
      fits-if_taken _ d
      (fits-bind fits-bounds (λ right. fits-pure _ (λ f c r b w a bs. spread_after bs (was-mark _ d b c tt w) r)))
      (fits-pure _ (λ b a bs. ordinary_after bs))

  pub fits-declarator_after : (ss : List Star) (p : Position) (x : ℕ) → Fits (declarator_after levels ss p x) (IsDeclaratorAfter d ss p x)
  unfolding declarator_after
  fits-declarator_after ss p x = fits-bind fits-bounds (λ left. fits-after_left ss p x left)

  fits-declarator : Fits (declarator levels) (IsDeclarator d)
  unfolding declarator
  fits-declarator =
      fits-bind (fits-stars d) (λ ss.
      fits-here (sample-after_stars d ss)
      (never_idle (After (IsStars d) ss (IsDeclarator d)) (λ p. consumes-first (consumes-must _) (λ x. local-declarator_after ss p x)))
      (λ p. fits-bind (fits-must name_in d (Name 0) 0 refl refl) (λ x.
      fits-wider (λ c f s h b g m a st. declare st (gave-name d x b c g) m h) (fits-declarator_after ss p x))))

  fits-one_more_declarator : Fits (one_more_declarator levels) (OneMore (Joined d (IsDeclarator d)))
  unfolding one_more_declarator
  fits-one_more_declarator =
      fits-if_taken _ d (fits-bind fits-declarator (λ s. fits-pure _ (λ c b h a w. joined (was-mark _ d a b tt w) h)))
      (fits-pure None (λ a. refl))

  pub fits-more_declarators : Fits (many (one_more_declarator levels)) (IsMoreDeclarators d)
  fits-more_declarators =
      fits-many (Joined d (IsDeclarator d)) (IsMoreDeclarators d) (λ a. no_more_declarators) (more_declarators d) (one_more_declarator levels) fits-one_more_declarator

  reads-one_bound : (ts : List Token) {a b c f : Rest} {all : List BoundStep} →
      Takes (Mark marks.OpenSquare) d a b → IsBound d b c all → Takes (Mark marks.CloseSquare) d c f → Stands ts a →
      Reads limit ts a f (Some (record { steps = all; line = line_of b })) (one_bound levels)
  unfolding one_bound
  reads-one_bound ts {b = b} {c = c} {all = all} t h u s =
      reads-taken_mark limit ts _ _ t (in_limit limit levels d e) s (λ r.
      reads-here limit ts _ r (
      reads-bind limit ts _ (bounds.reads ts b c all h r (without extends_bound u refl)) (λ q.
      reads-mark limit ts _ _ u (in_limit limit levels d e) q (λ v. reads-pure limit ts v))))

  reads-no_bound : (ts : List Token) (a : Rest) → Stands ts a → Without (is_mark marks.OpenSquare) a → Reads limit ts a a None (one_bound levels)
  unfolding one_bound
  reads-no_bound ts a s w = reads-not_taken limit ts _ _ w s (reads-pure limit ts s)

  reads-bounds : (ts : List Token) (a b : Rest) (bs : List Bound) → IsBounds d a b bs → Stands ts a → Without (is_mark marks.OpenSquare) b →
      Reads limit ts a b bs (many (one_bound levels))
  reads-bounds ts a b bs no_more_bounds s w = reads-none limit ts (one_bound levels) advances-one_bound s (reads-no_bound ts a s w)
  reads-bounds ts a b bs (one_more_bound {f = f} {bs = more} t h u hs) s w =
      reads-more limit ts (one_bound levels) advances-one_bound (reads-one_bound ts t h u s) (λ r. reads-bounds ts f b more hs r w)

  -- what is not spread ends where no bounds of its processors begin
  reads-ordinary : (ts : List Token) (ss : List Star) (p : Position) (x : ℕ) (a : Rest) (bs : List Bound) → Stands ts a → Without (is_mark marks.ColonColon) a →
      Reads limit ts a a (shape_of levels ss p x false bs []) (after_left levels ss p x bs)
  unfolding after_left
  reads-ordinary ts ss p x a [] s w = reads-pure limit ts s
  reads-ordinary ts ss p x a (b ∷ bs) s w = reads-not_taken limit ts _ _ w s (reads-pure limit ts s)

  reads-spread : (ts : List Token) (ss : List Star) (p : Position) (x : ℕ) {a b c : Rest} {first : Bound} {bs right : List Bound} →
      Takes (Mark marks.ColonColon) d a b → IsBounds d b c right → Stands ts a → Without (is_mark marks.OpenSquare) c →
      Reads limit ts a c (shape_of levels ss p x true (first ∷ bs) right) (after_left levels ss p x (first ∷ bs))
  unfolding after_left
  reads-spread ts ss p x {b = b} {c = c} {right = right} t h s w =
      reads-taken_mark limit ts _ _ t (in_limit limit levels d e) s (λ r. reads-bind limit ts _ (reads-bounds ts b c right h r w) (λ q. reads-pure limit ts q))

  pub reads-declarator_after : (ts : List Token) (ss : List Star) (p : Position) (x : ℕ) {a b : Rest} {s : Shape} →
      IsDeclaratorAfter d ss p x a b s → Stands ts a → Without extends_declarator b → Reads limit ts a b s (declarator_after levels ss p x)
  unfolding declarator_after
  reads-declarator_after ts ss p x {a = a} {b = b} (ordinary_after {bs = bs} h) s w =
      reads-bind limit ts _ (reads-bounds ts a b bs h s (no_square b w)) (λ r. reads-ordinary ts ss p x b bs r (no_colons b w))
  reads-declarator_after ts ss p x {a = a} {b = b} (spread_after {c = c} {first = first} {bs = bs} h t g) s w =
      reads-bind limit ts _ (reads-bounds ts a c (first ∷ bs) h s (without _ t refl)) (λ r. reads-spread ts ss p x t g r (no_square b w))

  reads-declarator_by : (ts : List Token) {x : ℕ} {a b c f : Rest} {ss : List Star} {s : Shape} →
      IsStars d a b ss → Takes (Name x) d b c → IsDeclaratorAfter d ss (place_at b) x c f s → Stands ts a → Without extends_declarator f →
      Reads limit ts a f s (declarator levels)
  unfolding declarator
  reads-declarator_by ts {x = x} {a = a} {b = b} {ss = ss} st t h s w =
      reads-bind limit ts _ (reads-stars limit d (in_limit limit levels d e) ts a b ss st s (without _ t refl)) (λ r.
      reads-here limit ts _ r (
      reads-must limit ts name_in _ refl t (in_limit limit levels d e) r (λ q. reads-declarator_after ts ss (place_at b) x h q w)))

  reads-declarator : (ts : List Token) (a b : Rest) (s : Shape) → IsDeclarator d a b s → Stands ts a → Without extends_declarator b →
      Reads limit ts a b s (declarator levels)
  reads-declarator ts a b x (ordinary st t bs) s w = reads-declarator_by ts st t (ordinary_after bs) s w
  reads-declarator ts a b x (spread st t bs u right) s w = reads-declarator_by ts st t (spread_after bs u right) s w

  pub exact-declarator : Exact limit (declarator levels) (IsDeclarator d) (λ s b. Without extends_declarator b)
  exact-declarator = record { local = local-declarator; consumes = consumes-declarator; fits = fits-declarator; reads = λ ts a b x h s w. reads-declarator ts a b x h s w }

  reads-one_more_declarator : (ts : List Token) {a b c : Rest} {x : Shape} → Takes (Mark marks.Comma) d a b → IsDeclarator d b c x → Stands ts a → Without extends_declarator c →
      Reads limit ts a c (Some x) (one_more_declarator levels)
  unfolding one_more_declarator
  reads-one_more_declarator ts {b = b} {c = c} {x = x} t h s w =
      reads-taken_mark limit ts _ _ t (in_limit limit levels d e) s (λ r. reads-bind limit ts _ (reads-declarator ts b c x h r w) (λ q. reads-pure limit ts q))

  reads-no_declarator : (ts : List Token) (a : Rest) → Stands ts a → Without (is_mark marks.Comma) a → Reads limit ts a a None (one_more_declarator levels)
  unfolding one_more_declarator
  reads-no_declarator ts a s w = reads-not_taken limit ts _ _ w s (reads-pure limit ts s)

  pub reads-more_declarators : (ts : List Token) (a b : Rest) (ss : List Shape) → IsMoreDeclarators d a b ss → Stands ts a → Without extends_declarator b → Without (is_mark marks.Comma) b →
      Reads limit ts a b ss (many (one_more_declarator levels))
  reads-more_declarators ts a b ss no_more_declarators s w v =
      reads-none limit ts (one_more_declarator levels) advances-one_more_declarator s (reads-no_declarator ts a s v)
  reads-more_declarators ts a b ss (one_more {c = c} {ss = more} t h hs) s w v =
      reads-more limit ts (one_more_declarator levels) advances-one_more_declarator (reads-one_more_declarator ts t h s (declarators_then extends_declarator refl hs w))
      (λ r. reads-more_declarators ts c b more hs r w v)
