-- Locals, what may be left out and tests are read exactly, where an `assign` is.
use Rattle.std.proofs.Common.{◌+◌, ◌≡◌, refl, sym, subst, ℕ, ◌≤◌, false, List, [], ◌∷◌, Option, None}
use Rattle.sc_base.specs.declared.shape.Star.{Star}
use Rattle.sc_tree.specs.declared.token.Token.{Token}
use Rattle.sc_tree.specs.declared.token.TokenKind.TheVariants.{Name, Mark}
use Rattle.sc_tree.specs.declared.token.Mark.{Mark as TheMark}
use Rattle.sc_tree.specs.declared.token.Mark.TheVariants as marks
use Rattle.sc_tree.specs.Plain.{Expression}
use Rattle.sc_tree.specs.PlainStmt.{Declared, Statement, declare}
use Rattle.sc_grammar.specs.declared.position.Position.{Position}
use Rattle.sc_grammar.specs.Rest.{Rest, Takes, takes, number_of, line_of}
use Rattle.sc_grammar.specs.Expressions.{IsStars, IsAssign}
use Rattle.sc_grammar.specs.Statements.{int_with, IsInitial, no_initial, some_initial, IsLocal, local_name, IsMoreLocals, no_more_locals, one_more_local, IsOptional, left_out, given}
use Rattle.sc_grammar.proofs.Reading.{Parser, is_mark, many, name_in}
use Rattle.sc_grammar.proofs.ReadingExpressions.{begins_expression}
use Rattle.sc_grammar.proofs.ReadingStatements.{initial, local, one_more_local as another_local, locals, optional_before, condition}
use Rattle.sc_grammar.proofs.Local.{Local, Consumes, Advances, local-bind, local-here, local-pure, local-must, local-many, local-if_taken, local-if_next, advances-none, advances-if_taken, consumes-first, consumes-second, consumes-must}
use Rattle.sc_grammar.proofs.Fits.{Fits, Sample, After, fits-bind, fits-pure}
use Rattle.sc_grammar.proofs.FitsTokens.{Matches, OneMore, fits-here, never_idle, fits-must, fits-if_taken, fits-if_next, fits-mark, fits-many, was-mark}
use Rattle.sc_grammar.proofs.Derived.{Stands, Reads, reads-bind, reads-here, reads-pure, reads-must, reads-next, reads-not_next, reads-mark, reads-taken_mark, reads-not_taken, reads-none, reads-more}
use Rattle.sc_grammar.proofs.Apart.{is_mark-same, apart-mark}
use Rattle.sc_grammar.proofs.Laws.{Exact, Without, without, with_token, opened_without, ExpressionEnds, extends_assign}
use Rattle.sc_grammar.proofs.Openings.{opened-assign}
use Rattle.sc_grammar.proofs.PrimaryRead.{gave-name}
use Rattle.sc_grammar.proofs.TailsRead.{without_mark}
use Rattle.sc_grammar.proofs.StarsRead.{local-stars, fits-stars, reads-stars}

-- ---- names and places

-- what is so at a place is so at the position that matches it
pub at-place : (F : ℕ → ℕ → Type 0) (p : Position) (a : Rest) → Matches p a → F (number_of a) (line_of a) → F p.at p.line
at-place F p a m h = subst (λ (l : ℕ). F p.at l) (sym m.line) (subst (λ (n : ℕ). F n (line_of a)) (sym m.at) h)

-- ---- rules of parts

-- a comma and a local
pub data IsNextLocal (d : ℕ) (a b : Rest) (l : Declared) : Type 0 where
  next_local : {c : Rest} → Takes (Mark marks.Comma) d a c → IsLocal d c b l → IsNextLocal d a b l

more_locals : (d : ℕ) (a b c : Rest) (l : Declared) (ls : List Declared) → IsNextLocal d a b l → IsMoreLocals d b c ls → IsMoreLocals d a c (l ∷ ls)
more_locals d a b c l ls (next_local t h) hs = one_more_local t h hs

-- what stands after `int`
pub data IsLocals (d : ℕ) (a f : Rest) : Statement → Type 0 where
  locals_after : {b c : Rest} {l : Declared} {ls : List Declared} →
      IsLocal d a b l → IsMoreLocals d b c ls → Takes (Mark marks.Semicolon) d c f → IsLocals d a f (declare (l ∷ ls))

-- an `assign` in parentheses
pub data IsTest (d : ℕ) (a f : Rest) (e : Expression) : Type 0 where
  in_parentheses : {b c : Rest} →
      Takes (Mark marks.OpenRound) d a b → IsAssign d b c e → Takes (Mark marks.CloseRound) d c f → IsTest d a f e

-- after a local comes a comma or the semicolon
local_ends : {d : ℕ} {a b c : Rest} {ls : List Declared} → IsMoreLocals d a b ls → Takes (Mark marks.Semicolon) d b c → Without extends_assign a
local_ends no_more_locals t = without _ t refl
local_ends (one_more_local u h hs) t = without _ u refl

module _ (limit d : ℕ) (le : d ≤ limit) (value : Parser Expression) (hv : Exact limit value (IsAssign d) (ExpressionEnds extends_assign)) where
  -- ---- locals

  local-initial : Local (initial value)
  unfolding initial
  local-initial = local-if_taken _ (local-bind hv.local (λ e. local-pure _)) (local-pure _)

  fits-initial : Fits (initial value) (IsInitial d)
  unfolding initial
  fits-initial =
      fits-if_taken _ d
      (fits-bind hv.fits (λ e. fits-pure _ (λ c b h a w. some_initial (was-mark _ d a b tt w) h)))
      (fits-pure None (λ a. no_initial))

  reads-initial : (ts : List Token) (a b : Rest) (o : Option Expression) → IsInitial d a b o → Stands ts a → Without extends_assign b → Reads limit ts a b o (initial value)
  unfolding initial
  reads-initial ts a b o no_initial s w = reads-not_taken limit ts _ _ (without_mark extends_assign marks.Equal refl a w) s (reads-pure limit ts s)
  reads-initial ts a b o (some_initial {b = c} {e = e} t h) s w =
      reads-taken_mark limit ts _ _ t le s (λ r. reads-bind limit ts _ (hv.reads ts c b e h r w) (λ z. reads-pure limit ts z))

  local-local : Local (local value)
  unfolding local
  local-local = local-bind local-stars (λ ss. local-bind local-here (λ p. local-bind (local-must _) (λ x. local-bind local-initial (λ o. local-pure _))))

  named_local : (ss : List Star) (n : ℕ) → Sample (After (IsStars d) ss (IsLocal d)) n
  named_local ss n = record {
    more = record { token = record { kind = Name 0; at = 0; line = 0 }; depth = d } ∷ [];
    value = record { name = 0; ty = int_with ss; init = None; at = n + 1; line = 0 };
    quiet = refl;
    holds = λ tail w a h. local_name h takes no_initial;
  }

  consumes-local : Consumes (local value)
  unfolding local
  consumes-local =
      consumes-second local-stars (λ ss. consumes-second local-here (λ p. consumes-first (consumes-must _) (λ x. local-bind local-initial (λ o. local-pure _))))

  fits-local : Fits (local value) (IsLocal d)
  unfolding local
  fits-local =
      fits-bind (fits-stars d) (λ ss.
      fits-here (named_local ss)
      (never_idle (After (IsStars d) ss (IsLocal d)) (λ p. consumes-first (consumes-must _) (λ x. local-bind local-initial (λ o. local-pure _))))
      (λ p. fits-bind (fits-must name_in d (Name 0) 0 refl refl) (λ x. fits-bind fits-initial (λ o. fits-pure _ (λ f c i b g m a h.
      at-place (λ at line. IsLocal d a f (record { name = x; ty = int_with ss; init = o; at = at; line = line })) p b m
      (local_name h (gave-name d x b c g) i))))))

  reads-local : (ts : List Token) (a b : Rest) (l : Declared) → IsLocal d a b l → Stands ts a → Without extends_assign b → Reads limit ts a b l (local value)
  unfolding local
  reads-local ts a f l (local_name {x = x} {b = b} {c = c} {ss = ss} {init = o} h t i) s w =
      reads-bind limit ts _ (reads-stars limit d le ts a b ss h s (without _ t refl)) (λ r.
      reads-here limit ts _ r (reads-must limit ts name_in _ refl t le r (λ q.
      reads-bind limit ts _ (reads-initial ts c f o i q w) (λ z. reads-pure limit ts z))))

  advances-another_local : Advances (another_local value)
  unfolding another_local
  advances-another_local = advances-if_taken _ (local-bind local-local (λ l. local-pure _)) advances-none

  fits-another_local : Fits (another_local value) (OneMore (IsNextLocal d))
  unfolding another_local
  fits-another_local =
      fits-if_taken _ d
      (fits-bind fits-local (λ l. fits-pure _ (λ c b h a w. next_local (was-mark _ d a b tt w) h)))
      (fits-pure None (λ a. refl))

  reads-more_locals : (ts : List Token) (a b c : Rest) (ls : List Declared) → IsMoreLocals d a b ls → Takes (Mark marks.Semicolon) d b c → Stands ts a → Reads limit ts a b ls (many (another_local value))
  unfolding another_local
  reads-more_locals ts a b c ls no_more_locals u s =
      reads-none limit ts (another_local value) advances-another_local s (reads-not_taken limit ts _ _ (without _ u refl) s (reads-pure limit ts s))
  reads-more_locals ts a b c ls (one_more_local {b = f} {c = g} {l = l} {ls = more} t h hs) u s =
      reads-more limit ts (another_local value) advances-another_local
      (reads-taken_mark limit ts _ _ t le s (λ r. reads-bind limit ts _ (reads-local ts f g l h r (local_ends hs u)) (λ z. reads-pure limit ts z)))
      (λ r. reads-more_locals ts g b c more hs u r)

  pub local-locals : Local (locals value)
  unfolding locals
  local-locals = local-bind local-local (λ l. local-bind (local-many advances-another_local) (λ ls. local-bind (local-must _) (λ u. local-pure _)))

  pub consumes-locals : Consumes (locals value)
  unfolding locals
  consumes-locals = consumes-first consumes-local (λ l. local-bind (local-many advances-another_local) (λ ls. local-bind (local-must _) (λ u. local-pure _)))

  pub fits-locals : Fits (locals value) (IsLocals d)
  unfolding locals
  fits-locals =
      fits-bind fits-local (λ l.
      fits-bind (fits-many (IsNextLocal d) (IsMoreLocals d) (λ a. no_more_locals) (more_locals d) (another_local value) fits-another_local) (λ ls.
      fits-bind (fits-mark marks.Semicolon d) (λ u. fits-pure _ (λ f c t b hs a h. locals_after h hs t))))

  pub reads-locals : (ts : List Token) (a b : Rest) (x : Statement) → IsLocals d a b x → Stands ts a → Reads limit ts a b x (locals value)
  unfolding locals
  reads-locals ts a f x (locals_after {b = b} {c = c} {l = l} {ls = ls} h hs t) s =
      reads-bind limit ts _ (reads-local ts a b l h s (local_ends hs t)) (λ r.
      reads-bind limit ts _ (reads-more_locals ts b c f ls hs t r) (λ q.
      reads-mark limit ts marks.Semicolon _ t le q (λ z. reads-pure limit ts z)))

  -- ---- what may be left out

  pub local-optional_before : (m : TheMark) → Local (optional_before value m)
  unfolding optional_before
  local-optional_before m = local-if_next _ (local-pure _) (local-bind hv.local (λ e. local-pure _))

  pub fits-optional_before : (m : TheMark) → Fits (optional_before value m) (IsOptional d)
  unfolding optional_before
  fits-optional_before m =
      fits-if_next _ (fits-pure None (λ a. left_out)) (fits-bind hv.fits (λ e. fits-pure _ (λ b a h. given h)))

  -- before a mark that begins no expression and goes on with none
  pub reads-optional_before : (m : TheMark) → begins_expression (Mark m) ≡ false → extends_assign (Mark m) ≡ false →
      (ts : List Token) {e : ℕ} (a b c : Rest) (o : Option Expression) → IsOptional d a b o → Takes (Mark m) e b c → Stands ts a → Reads limit ts a b o (optional_before value m)
  unfolding optional_before
  reads-optional_before m no_start no_more ts a b c o left_out t s = reads-next limit ts _ _ (with_token _ t (is_mark-same m)) s (reads-pure limit ts s)
  reads-optional_before m no_start no_more ts a b c o (given {e = e} h) t s =
      reads-not_next limit ts _ _ (opened_without begins_expression (is_mark m) (apart-mark begins_expression m no_start) (opened-assign h)) s
      (reads-bind limit ts _ (hv.reads ts a b e h s (without _ t no_more)) (λ z. reads-pure limit ts z))

  -- ---- tests

  pub local-test : Local (condition value)
  unfolding condition
  local-test = local-bind (local-must _) (λ u. local-bind hv.local (λ e. local-bind (local-must _) (λ v. local-pure _)))

  pub consumes-test : Consumes (condition value)
  unfolding condition
  consumes-test = consumes-first (consumes-must _) (λ u. local-bind hv.local (λ e. local-bind (local-must _) (λ v. local-pure _)))

  pub fits-test : Fits (condition value) (IsTest d)
  unfolding condition
  fits-test =
      fits-bind (fits-mark marks.OpenRound d) (λ u. fits-bind hv.fits (λ e.
      fits-bind (fits-mark marks.CloseRound d) (λ v. fits-pure e (λ f c t b h a o. in_parentheses o h t))))

  pub reads-test : (ts : List Token) (a b : Rest) (e : Expression) → IsTest d a b e → Stands ts a → Reads limit ts a b e (condition value)
  unfolding condition
  reads-test ts a f e (in_parentheses {b = b} {c = c} t h u) s =
      reads-mark limit ts marks.OpenRound _ t le s (λ r. reads-bind limit ts _ (hv.reads ts b c e h r (without _ u refl)) (λ q.
      reads-mark limit ts marks.CloseRound _ u le q (λ z. reads-pure limit ts z)))
