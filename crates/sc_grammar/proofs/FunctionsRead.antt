-- Functions are read exactly, where blocks are.
use Rattle.std.proofs.Common.{◌+◌, ◌≡◌, refl, sym, subst, ℕ, Bool, true, false, List, [], ◌∷◌, Option, Some, None}
use Rattle.sc_base.specs.declared.shape.Star.{Star}
use Rattle.sc_base.specs.declared.shape.Ty.{Ty}
use Rattle.sc_tree.specs.declared.token.Token.{Token}
use Rattle.sc_tree.specs.declared.token.TokenKind.{TokenKind}
use Rattle.sc_tree.specs.declared.token.TokenKind.TheVariants.{Number, Name, Format, Word, Mark}
use Rattle.sc_tree.specs.declared.token.Word.TheVariants as words
use Rattle.sc_tree.specs.declared.token.Mark.TheVariants as marks
use Rattle.sc_tree.specs.declared.tree.Param.{Param}
use Rattle.sc_tree.specs.PlainStmt.{Statement, Statements}
use Rattle.sc_tree.specs.ViewStmt.{statements_of}
use Rattle.sc_grammar.specs.declared.position.Position.{Position}
use Rattle.sc_grammar.specs.Rest.{Rest, Takes, takes}
use Rattle.sc_grammar.specs.Expressions.{IsStars, no_stars}
use Rattle.sc_grammar.specs.Statements.{int_with, IsBlock, braces}
use Rattle.sc_grammar.specs.Items.{IsResult, IsParam, nameless, with_name, IsMoreParams, no_more_params, one_more_param as one_more, IsParams, no_params, void_params, some_params, IsBody, prototype, definition, Item, function, IsItem, function_item}
use Rattle.sc_grammar.proofs.Reading.{Parser, bind, ◌>>=◌, pure, is_mark, is_word, mark, many, name_in}
use Rattle.sc_grammar.proofs.ReadingExpressions.{assigned}
use Rattle.sc_grammar.proofs.ReadingStatements.{block_after, statement}
use Rattle.sc_grammar.proofs.ReadingItems.{param, one_more_param, params, body, function_after, function_named}
use Rattle.sc_grammar.proofs.Local.{Local, Consumes, Advances, local-bind, local-pure, local-here, local-if_taken, local-if_next, local-maybe, local-many, local-must, advances-none, advances-if_taken, consumes-first, consumes-second, consumes-must, consumes-if_taken}
use Rattle.sc_grammar.proofs.Fits.{Sample, Fits, After, fits-bind, fits-pure, fits-wider}
use Rattle.sc_grammar.proofs.FitsTokens.{Gave, OneMore, Matches, fits-if_taken, fits-if_next, fits-here, never_idle, fits-must, fits-mark, fits-word, fits-many, was-mark, was-word}
use Rattle.sc_grammar.proofs.Derived.{Stands, Reads, next_gives, place_at, reads-bind, reads-pure, reads-here, reads-maybe, reads-maybe_not, reads-must, reads-mark, reads-word, reads-taken_mark, reads-taken_word, reads-not_taken, reads-next, reads-not_next, reads-none, reads-more}
use Rattle.sc_grammar.proofs.Laws.{Exact, Without, without, with_token}
use Rattle.sc_grammar.proofs.StarsRead.{local-stars, fits-stars, reads-stars, extends_stars}
use Rattle.sc_grammar.proofs.Parts.{some_token, in_limit, fits-maybe, Joined, joined, bind-assoc}
use Rattle.sc_grammar.proofs.PrimaryRead.{gave-name}
use Rattle.sc_grammar.proofs.Extends.{fewer, gives_none as none_there}
use Rattle.sc_grammar.proofs.DeclaratorsRead.{position_is}

-- ---- what goes on with a parameter

-- stars and a name
abbrev pub extends_param : TokenKind → Bool
extends_param (Name x) = true
extends_param kind = extends_stars kind

no_name_in : (kind : TokenKind) → extends_param kind ≡ false → name_in kind ≡ None
no_name_in (Name x) e = cc
no_name_in (Number n) e = refl
no_name_in (Format x) e = refl
no_name_in (Word w) e = refl
no_name_in (Mark m) e = refl

no_name : (b : Rest) → Without extends_param b → next_gives name_in b ≡ None
no_name = none_there extends_param name_in no_name_in

no_stars_in : (kind : TokenKind) → extends_param kind ≡ false → extends_stars kind ≡ false
no_stars_in (Name x) e = refl
no_stars_in (Number n) e = refl
no_stars_in (Format x) e = refl
no_stars_in (Word w) e = e
no_stars_in (Mark m) e = e

no_star_after : (b : Rest) → Without extends_param b → Without extends_stars b
no_star_after = fewer extends_param extends_stars no_stars_in

pub params_then : {d : ℕ} {a b : Rest} {ps : List Param} → IsMoreParams d a b ps → Without extends_param b → Without extends_param a
params_then no_more_params w = w
params_then (one_more t h ps) w = without _ t refl

-- a parameter begins with its type
param_first : (k : TokenKind → Bool) → k (Word words.Int) ≡ false → {d : ℕ} {a b : Rest} {q : Param} → IsParam d a b q → Without k a
param_first k e (nameless t st) = without k t e
param_first k e (with_name t st x) = without k t e

-- ---- parameters

-- the name, if there is one
param_with : {d : ℕ} {a b c f : Rest} {ss : List Star} (p : Position) (x : Option ℕ) → Matches p a →
    Takes (Word words.Int) d a b → IsStars d b c ss → OneMore (Gave name_in d) c f x →
    IsParam d a f (record { name = x; ty = int_with ss; at = p.at })
param_with {d = d} {a = a} {b = b} {c = c} {f = f} {ss = ss} p None m t st e =
    subst (λ (z : Rest). IsParam d a z (record { name = None; ty = int_with ss; at = p.at })) e
    (subst (λ (i : ℕ). IsParam d a c (record { name = None; ty = int_with ss; at = i })) (sym m.at) (nameless t st))
param_with {d = d} {a = a} {b = b} {c = c} {f = f} {ss = ss} p (Some x) m t st g =
    subst (λ (i : ℕ). IsParam d a f (record { name = Some x; ty = int_with ss; at = i })) (sym m.at) (with_name t st (gave-name d x c f g))

more_params : (d : ℕ) (a b c : Rest) (x : Param) (xs : List Param) → Joined d (IsParam d) a b x → IsMoreParams d b c xs → IsMoreParams d a c (x ∷ xs)
more_params d a b c x xs (joined t h) ps = one_more t h ps

sample-param : (d n : ℕ) → Sample (IsParam d) n
sample-param d n = record {
  more = some_token (Word words.Int) d ∷ [];
  value = record { name = None; ty = int_with []; at = n + 1 };
  quiet = refl;
  holds = λ tail w. nameless takes no_stars;
}

module _ (limit levels d : ℕ) (e : d + levels ≡ limit) where
  local-param : Local (param levels)
  unfolding param
  local-param = local-bind local-here (λ p. local-bind (local-must _) (λ u. local-bind local-stars (λ ss. local-bind (local-maybe _) (λ x. local-pure _))))

  consumes-param : Consumes (param levels)
  unfolding param
  consumes-param = consumes-second local-here (λ p. consumes-first (consumes-must _) (λ u. local-bind local-stars (λ ss. local-bind (local-maybe _) (λ x. local-pure _))))

  advances-one_more_param : Advances (one_more_param levels)
  unfolding one_more_param
  advances-one_more_param = advances-if_taken _ (local-bind local-param (λ q. local-pure _)) advances-none

  pub local-params : Local (params levels)
  unfolding params
  local-params =
      local-if_next _ (local-pure _) (
      local-if_taken _ (local-pure _) (
      local-bind local-param (λ q. local-bind (local-many advances-one_more_param) (λ qs. local-pure _))))

  fits-param : Fits (param levels) (IsParam d)
  unfolding param
  fits-param =
      fits-here (sample-param d)
      (never_idle (IsParam d) (λ p. consumes-first (consumes-must _) (λ u. local-bind local-stars (λ ss. local-bind (local-maybe _) (λ x. local-pure _)))))
      (λ p. fits-bind (fits-word _ d refl) (λ u. fits-bind (fits-stars d) (λ ss. fits-bind (fits-maybe name_in d) (λ x.
      fits-pure _ (λ f c g b st a t m. param_with p x m t st g)))))

  fits-one_more_param : Fits (one_more_param levels) (OneMore (Joined d (IsParam d)))
  unfolding one_more_param
  fits-one_more_param =
      fits-if_taken _ d (fits-bind fits-param (λ q. fits-pure _ (λ c b h a w. joined (was-mark _ d a b tt w) h)))
      (fits-pure None (λ a. refl))

  fits-more_params : Fits (many (one_more_param levels)) (IsMoreParams d)
  fits-more_params = fits-many (Joined d (IsParam d)) (IsMoreParams d) (λ a. no_more_params) (more_params d) (one_more_param levels) fits-one_more_param

  pub fits-params : Fits (params levels) (IsParams d)
  unfolding params
  fits-params =
      fits-if_next _ (fits-pure _ (λ a. no_params)) (
      fits-if_taken _ d (fits-pure _ (λ b a w. void_params (was-word _ d a b tt w))) (
      fits-bind fits-param (λ q. fits-bind fits-more_params (λ qs. fits-pure _ (λ c b h a g. some_params g h)))))

  reads-param : (ts : List Token) (a b : Rest) (q : Param) → IsParam d a b q → Stands ts a → Without extends_param b → Reads limit ts a b q (param levels)
  unfolding param
  reads-param ts a b q (nameless {b = c} {ss = ss} t st) s w =
      reads-here limit ts _ s (
      reads-word limit ts _ _ t (in_limit limit levels d e) s (λ r.
      reads-bind limit ts _ (reads-stars limit d (in_limit limit levels d e) ts c b ss st r (no_star_after b w)) (λ u.
      reads-bind limit ts _ (reads-maybe_not limit ts name_in (no_name b w) u) (λ v. reads-pure limit ts v))))
  reads-param ts a b q (with_name {b = c} {c = f} {ss = ss} t st x) s w =
      reads-here limit ts _ s (
      reads-word limit ts _ _ t (in_limit limit levels d e) s (λ r.
      reads-bind limit ts _ (reads-stars limit d (in_limit limit levels d e) ts c f ss st r (without _ x refl)) (λ u.
      reads-bind limit ts _ (reads-maybe limit ts name_in refl x (in_limit limit levels d e) u) (λ v. reads-pure limit ts v))))

  reads-one_more_param : (ts : List Token) {a b c : Rest} {x : Param} → Takes (Mark marks.Comma) d a b → IsParam d b c x → Stands ts a → Without extends_param c →
      Reads limit ts a c (Some x) (one_more_param levels)
  unfolding one_more_param
  reads-one_more_param ts {b = b} {c = c} {x = x} t h s w =
      reads-taken_mark limit ts _ _ t (in_limit limit levels d e) s (λ r. reads-bind limit ts _ (reads-param ts b c x h r w) (λ q. reads-pure limit ts q))

  reads-no_param : (ts : List Token) (a : Rest) → Stands ts a → Without (is_mark marks.Comma) a → Reads limit ts a a None (one_more_param levels)
  unfolding one_more_param
  reads-no_param ts a s w = reads-not_taken limit ts _ _ w s (reads-pure limit ts s)

  reads-more_params : (ts : List Token) (a b : Rest) (ps : List Param) → IsMoreParams d a b ps → Stands ts a → Without extends_param b → Without (is_mark marks.Comma) b →
      Reads limit ts a b ps (many (one_more_param levels))
  reads-more_params ts a b ps no_more_params s w v =
      reads-none limit ts (one_more_param levels) advances-one_more_param s (reads-no_param ts a s v)
  reads-more_params ts a b ps (one_more {c = c} {ps = more} t h hs) s w v =
      reads-more limit ts (one_more_param levels) advances-one_more_param (reads-one_more_param ts t h s (params_then hs w))
      (λ r. reads-more_params ts c b more hs r w v)

  reads-some_params : (ts : List Token) {a b c : Rest} {q : Param} {qs : List Param} → IsParam d a b q → IsMoreParams d b c qs → Stands ts a → Without extends_param c → Without (is_mark marks.Comma) c →
      Reads limit ts a c (q ∷ qs) (bind (param levels) (λ x. bind (many (one_more_param levels)) (λ xs. pure (x ∷ xs))))
  reads-some_params ts {a = a} {b = b} {c = c} {q = q} {qs = qs} h hs s w v =
      reads-bind limit ts _ (reads-param ts a b q h s (params_then hs w)) (λ r.
      reads-bind limit ts _ (reads-more_params ts b c qs hs r w v) (λ z. reads-pure limit ts z))

  -- a parenthesis closes the parameters
  pub reads-params : (ts : List Token) {a b c : Rest} {ps : List Param} → IsParams d a b ps → Takes (Mark marks.CloseRound) d b c → Stands ts a →
      Reads limit ts a b ps (params levels)
  unfolding params
  reads-params ts no_params t s = reads-next limit ts _ _ (with_token _ t refl) s (reads-pure limit ts s)
  reads-params ts (void_params v) t s =
      reads-not_next limit ts _ _ (without _ v refl) s (reads-taken_word limit ts _ _ v (in_limit limit levels d e) s (λ r. reads-pure limit ts r))
  reads-params ts (some_params h hs) t s =
      reads-not_next limit ts _ _ (param_first (is_mark marks.CloseRound) refl h) s (
      reads-not_taken limit ts _ _ (param_first (is_word words.Void) refl h) s (
      reads-some_params ts h hs s (without _ t refl) (without _ t refl)))

-- ---- functions, where blocks are read exactly

-- a block in its braces
abbrev pub braced : ℕ → Parser (List Statement)
braced levels = mark marks.OpenCurly >>= λ _. block_after (assigned levels) (statement levels)

body_is : (levels : ℕ) → bind (braced levels) (λ ss. pure (Some (statements_of ss))) ≡ (mark marks.OpenCurly >>= λ _. block_after (assigned levels) (statement levels) >>= λ ss. pure (Some (statements_of ss)))
body_is levels = bind-assoc (mark marks.OpenCurly) (λ _. block_after (assigned levels) (statement levels)) (λ ss. pure (Some (statements_of ss)))

-- what stands after the parenthesis behind the name, where the result, the position and the name are these
pub data IsFunctionAfter (d : ℕ) (result : Ty) (p : Position) (x : ℕ) (a b : Rest) : Item → Type 0 where
  function_parts : {c f : Rest} {ps : List Param} {inside : Option Statements} →
      IsParams d a c ps → Takes (Mark marks.CloseRound) d c f → IsBody d f b inside →
      IsFunctionAfter d result p x a b (function (record { name = x; result = result; params = ps; body = inside; at = p.at; line = p.line }))

with_result : {d x : ℕ} {a b c f i : Rest} {result : Ty} {y : Item} →
    IsResult d a b result → Takes (Name x) d b c → Takes (Mark marks.OpenRound) d c f → IsFunctionAfter d result (place_at b) x f i y → IsItem d a i y
with_result r t o (function_parts ps u h) = function_item r t o ps u h

-- at a place that the position is of
pub name_function : {d x : ℕ} {a b c f i : Rest} {result : Ty} {p : Position} {y : Item} →
    IsResult d a b result → Takes (Name x) d b c → Takes (Mark marks.OpenRound) d c f → Matches p b → IsFunctionAfter d result p x f i y → IsItem d a i y
name_function {d = d} {x = x} {b = b} {f = f} {i = i} {result = result} {p = p} {y = y} r t o m h =
    with_result r t o (subst (λ (q : Position). IsFunctionAfter d result q x f i y) (position_is p b m) h)

sample-named : (d : ℕ) (result : Ty) (n : ℕ) → Sample (After (IsResult d) result (IsItem d)) n
sample-named d result n = record {
  more =
      some_token (Name 0) d ∷ some_token (Mark marks.OpenRound) d
      ∷ some_token (Mark marks.CloseRound) d ∷ some_token (Mark marks.Semicolon) d ∷ [];
  value = function (record { name = 0; result = result; params = []; body = None; at = n + 1; line = 0 });
  quiet = refl;
  holds = λ tail w a r. function_item r takes takes no_params takes (prototype takes);
}

block_first : (k : TokenKind → Bool) → k (Mark marks.OpenCurly) ≡ false → {d : ℕ} {a b : Rest} {ss : List Statement} → IsBlock d a b ss → Without k a
block_first k e (braces t h u) = without k t e

module _ (limit levels d : ℕ) (e : d + levels ≡ limit) (hb : Exact limit (braced levels) (IsBlock d) (λ ss b. Unit {0})) where
  local-body : Local (body levels)
  unfolding body
  local-body = local-if_taken _ (local-pure _) (subst (λ p. Local p) (body_is levels) (local-bind hb.local (λ ss. local-pure _)))

  consumes-body : Consumes (body levels)
  unfolding body
  consumes-body = consumes-if_taken _ (local-pure _) (subst (λ p. Consumes p) (body_is levels) (consumes-first hb.consumes (λ ss. local-pure _)))

  fits-body : Fits (body levels) (IsBody d)
  unfolding body
  fits-body =
      fits-if_taken _ d (fits-pure _ (λ b a w. prototype (was-mark _ d a b tt w)))
      (subst (λ p. Fits p (IsBody d)) (body_is levels) (fits-bind hb.fits (λ ss. fits-pure _ (λ b a h. definition h))))

  reads-body : (ts : List Token) (a b : Rest) (x : Option Statements) → IsBody d a b x → Stands ts a → Reads limit ts a b x (body levels)
  unfolding body
  reads-body ts a b x (prototype t) s = reads-taken_mark limit ts _ _ t (in_limit limit levels d e) s (λ r. reads-pure limit ts r)
  reads-body ts a b x (definition {ss = ss} h) s =
      reads-not_taken limit ts _ _ (block_first _ refl h) s
      (subst (λ p. Reads limit ts a b (Some (statements_of ss)) p) (body_is levels) (reads-bind limit ts _ (hb.reads ts a b ss h s tt) (λ r. reads-pure limit ts r)))

  pub exact-body : Exact limit (body levels) (IsBody d) (λ x b. Unit {0})
  exact-body = record { local = local-body; consumes = consumes-body; fits = fits-body; reads = λ ts a b x h s w. reads-body ts a b x h s }

  pub local-function_after : (result : Ty) (p : Position) (x : ℕ) → Local (function_after levels result p x)
  unfolding function_after
  local-function_after result p x = local-bind (local-params limit levels d e) (λ qs. local-bind (local-must _) (λ u. local-bind local-body (λ b. local-pure _)))

  pub local-function_named : (result : Ty) → Local (function_named levels result)
  unfolding function_named
  local-function_named result = local-bind local-here (λ p. local-bind (local-must _) (λ x. local-bind (local-must _) (λ u. local-function_after result p x)))

  pub consumes-function_named : (result : Ty) → Consumes (function_named levels result)
  unfolding function_named
  consumes-function_named result = consumes-second local-here (λ p. consumes-first (consumes-must _) (λ x. local-bind (local-must _) (λ u. local-function_after result p x)))

  pub fits-function_after : (result : Ty) (p : Position) (x : ℕ) → Fits (function_after levels result p x) (IsFunctionAfter d result p x)
  unfolding function_after
  fits-function_after result p x =
      fits-bind (fits-params limit levels d e) (λ qs. fits-bind (fits-mark _ d) (λ u. fits-bind fits-body (λ b.
      fits-pure _ (λ i h k g t a ps. function_parts ps t k))))

  pub fits-function_named : (result : Ty) → Fits (function_named levels result) (After (IsResult d) result (IsItem d))
  unfolding function_named
  fits-function_named result =
      fits-here (sample-named d result)
      (never_idle (After (IsResult d) result (IsItem d)) (λ p. consumes-first (consumes-must _) (λ x. local-bind (local-must _) (λ u. local-function_after result p x))))
      (λ p. fits-bind (fits-must name_in d (Name 0) 0 refl refl) (λ x. fits-bind (fits-mark _ d) (λ u.
      fits-wider (λ f i y h c o b g m a r. name_function r (gave-name d x b c g) o m h) (fits-function_after result p x))))

  pub reads-function_after : (ts : List Token) (result : Ty) (p : Position) (x : ℕ) {a b : Rest} {y : Item} → IsFunctionAfter d result p x a b y → Stands ts a →
      Reads limit ts a b y (function_after levels result p x)
  unfolding function_after
  reads-function_after ts result p x {b = b} (function_parts {f = f} {inside = inside} ps t h) s =
      reads-bind limit ts _ (reads-params limit levels d e ts ps t s) (λ r.
      reads-mark limit ts _ _ t (in_limit limit levels d e) r (λ q.
      reads-bind limit ts _ (reads-body ts f b inside h q) (λ v. reads-pure limit ts v)))

  pub reads-function_named : (ts : List Token) (result : Ty) {x : ℕ} {a b c f : Rest} {y : Item} → Takes (Name x) d a b → Takes (Mark marks.OpenRound) d b c →
      IsFunctionAfter d result (place_at a) x c f y → Stands ts a → Reads limit ts a f y (function_named levels result)
  unfolding function_named
  reads-function_named ts result {x = x} {a = a} t o h s =
      reads-here limit ts _ s (
      reads-must limit ts name_in _ refl t (in_limit limit levels d e) s (λ r.
      reads-mark limit ts _ _ o (in_limit limit levels d e) r (λ q. reads-function_after ts result (place_at a) x h q)))
