-- Stars are read exactly.
use Rattle.std.proofs.Common.{◌≡◌, refl, sym, ap, ◌∙◌, ℕ, ◌≤◌, Bool, true, false, List, [], ◌∷◌, None}
use Rattle.sc_base.specs.declared.shape.Star.{Star}
use Rattle.sc_base.specs.declared.shape.Star.TheVariants as star
use Rattle.sc_tree.specs.declared.token.Token.{Token}
use Rattle.sc_tree.specs.declared.token.TokenKind.{TokenKind}
use Rattle.sc_tree.specs.declared.token.TokenKind.TheVariants.{Word, Mark}
use Rattle.sc_tree.specs.declared.token.Word.TheVariants as words
use Rattle.sc_tree.specs.declared.token.Mark.TheVariants as marks
use Rattle.sc_grammar.specs.Rest.{Rest, rest, Takes}
use Rattle.sc_grammar.specs.Expressions.{IsStars, no_stars, local_star, global_star, spread_star}
use Rattle.sc_grammar.proofs.Reading.{is_mark, is_word}
use Rattle.sc_grammar.proofs.ReadingExpressions.{star_kind, one_star, stars}
use Rattle.sc_grammar.proofs.Local.{Local, Advances, local-pure, local-if_taken, local-many, advances-none, advances-if_taken}
use Rattle.sc_grammar.proofs.Fits.{Fits, fits-pure}
use Rattle.sc_grammar.proofs.FitsTokens.{OneMore, fits-if_taken, fits-many, was-mark, was-word}
use Rattle.sc_grammar.proofs.Derived.{Stands, Reads, reads-pure, reads-taken_mark, reads-taken_word, reads-not_taken, reads-none, reads-more}
use Rattle.sc_grammar.proofs.Apart.{is_mark-is, is_word-is, not_true}
use Rattle.sc_grammar.proofs.Laws.{Without, without}

-- a single star
pub data IsStar (d : ℕ) (a b : Rest) : Star → Type 0 where
  plain_star : Takes (Mark marks.Star) d a b → IsStar d a b star.Local
  global : {c : Rest} → Takes (Mark marks.Star) d a c → Takes (Word words.Global) d c b → IsStar d a b star.Global
  spread : {c : Rest} → Takes (Mark marks.Star) d a c → Takes (Word words.Spread) d c b → IsStar d a b star.Spread

local-star_kind : Local star_kind
local-star_kind = local-if_taken _ (local-pure _) (local-if_taken _ (local-pure _) (local-pure _))

pub advances-one_star : Advances one_star
unfolding one_star
advances-one_star = advances-if_taken _ local-star_kind advances-none

pub local-stars : Local stars
unfolding stars
local-stars = local-many advances-one_star

fits-one_star : (d : ℕ) → Fits one_star (OneMore (IsStar d))
unfolding one_star
fits-one_star d =
    fits-if_taken _ d
    (fits-if_taken _ d (fits-pure _ (λ c b w a v. global (was-mark _ d a b tt v) (was-word _ d b c tt w)))
    (fits-if_taken _ d (fits-pure _ (λ c b w a v. spread (was-mark _ d a b tt v) (was-word _ d b c tt w)))
    (fits-pure _ (λ b a v. plain_star (was-mark _ d a b tt v)))))
    (fits-pure None (λ a. refl))

more_stars : (d : ℕ) (a b c : Rest) (x : Star) (xs : List Star) → IsStar d a b x → IsStars d b c xs → IsStars d a c (x ∷ xs)
more_stars d a b c x xs (plain_star s) h = local_star s h
more_stars d a b c x xs (global s w) h = global_star s w h
more_stars d a b c x xs (spread s w) h = spread_star s w h

pub fits-stars : (d : ℕ) → Fits stars (IsStars d)
unfolding stars
fits-stars d = fits-many (IsStar d) (IsStars d) (λ a. no_stars) (more_stars d) one_star (fits-one_star d)

-- tokens that go on with stars
abbrev pub extends_stars : TokenKind → Bool
extends_stars (Mark marks.Star) = true
extends_stars (Word words.Global) = true
extends_stars (Word words.Spread) = true
extends_stars _ = false

-- what does not go on with stars is none of their tokens
no_star : (kind : TokenKind) → extends_stars kind ≡ false → (is_mark marks.Star kind ≡ false) × (is_word words.Global kind ≡ false) × (is_word words.Spread kind ≡ false)
no_star kind h = (
  apart kind (λ k. is_mark marks.Star k) (λ e. ap extends_stars (is_mark-is marks.Star kind e)) h,
  apart kind (λ k. is_word words.Global k) (λ e. ap extends_stars (is_word-is words.Global kind e)) h,
  apart kind (λ k. is_word words.Spread k) (λ e. ap extends_stars (is_word-is words.Spread kind e)) h,
)
  where
    apart : (kind : TokenKind) (p : TokenKind → Bool) → (p kind ≡ true → extends_stars kind ≡ true) → extends_stars kind ≡ false → p kind ≡ false
    apart kind p up h = not_true (p kind) (λ e. let z : true ≡ false = sym (up e) ∙ h in cc)

stars_then : (d : ℕ) (a b : Rest) (ss : List Star) → IsStars d a b ss → Without extends_stars b → Without (is_word words.Global) a × Without (is_word words.Spread) a
stars_then d a b ss h w = go a b ss h w
  where
    go : (a b : Rest) (ss : List Star) → IsStars d a b ss → Without extends_stars b → Without (is_word words.Global) a × Without (is_word words.Spread) a
    go (rest n []) b ss no_stars w = (refl, refl)
    go (rest n (s ∷ us)) b ss no_stars w = let z = no_star s.token.kind w in (z.1, z.2)
    go a b ss (local_star t h) w = (without _ t refl, without _ t refl)
    go a b ss (global_star t g h) w = (without _ t refl, without _ t refl)
    go a b ss (spread_star t g h) w = (without _ t refl, without _ t refl)

no_star_here : (a : Rest) → Without extends_stars a → Without (is_mark marks.Star) a
no_star_here (rest n []) w = refl
no_star_here (rest n (s ∷ us)) w = (no_star s.token.kind w).0

module _ (limit d : ℕ) (le : d ≤ limit) (ts : List Token) where
  reads_no_star : {a : Rest} → Stands ts a → Without extends_stars a → Reads limit ts a a None one_star
  unfolding one_star
  reads_no_star {a = a} s w = reads-not_taken limit ts _ _ (no_star_here a w) s (reads-pure limit ts s)

  pub reads-stars : (a b : Rest) (ss : List Star) → IsStars d a b ss → Stands ts a → Without extends_stars b → Reads limit ts a b ss stars
  unfolding stars one_star
  reads-stars a b ss no_stars s w = reads-none limit ts one_star advances-one_star s (reads_no_star s w)
  reads-stars a b ss (local_star {b = c} {ss = more} t h) s w =
      let z = stars_then d c b more h w in
      reads-more limit ts one_star advances-one_star
      (reads-taken_mark limit ts _ _ t le s (λ r. reads-not_taken limit ts _ _ z.0 r (reads-not_taken limit ts _ _ z.1 r (reads-pure limit ts r))))
      (λ r. reads-stars c b more h r w)
  reads-stars a b ss (global_star {c = c} {ss = more} t g h) s w =
      reads-more limit ts one_star advances-one_star
      (reads-taken_mark limit ts _ _ t le s (λ r. reads-taken_word limit ts _ _ g le r (λ q. reads-pure limit ts q)))
      (λ r. reads-stars c b more h r w)
  reads-stars a b ss (spread_star {c = c} {ss = more} t g h) s w =
      reads-more limit ts one_star advances-one_star
      (reads-taken_mark limit ts _ _ t le s (λ r. reads-not_taken limit ts _ _ (without _ g refl) r (reads-taken_word limit ts _ _ g le r (λ q. reads-pure limit ts q))))
      (λ r. reads-stars c b more h r w)
