-- Conditions and assignments are read exactly.
use Rattle.std.proofs.Common.{◌+◌, ◌≡◌, refl, sym, subst, ℕ, suc, ◌≤◌, arith, Bool, List, Option, Some, None}
use Rattle.std.specs.Prelude.{slice_get}
use Rattle.sc_tree.specs.declared.token.Token.{Token}
use Rattle.sc_tree.specs.declared.token.TokenKind.{TokenKind}
use Rattle.sc_tree.specs.declared.token.TokenKind.TheVariants.{Number, Name, Format, Word, Mark}
use Rattle.sc_tree.specs.declared.token.Mark.TheVariants as marks
use Rattle.sc_tree.specs.Plain.{Expression, expression, choice, assign}
use Rattle.sc_grammar.specs.declared.operators.Assigning.{Assigning}
use Rattle.sc_grammar.specs.declared.position.Position.{Position}
use Rattle.sc_grammar.specs.Rest.{Rest, Takes, number_of, line_of}
use Rattle.sc_grammar.specs.Expressions.{IsAssign, no_assignment, assignment, IsCond, no_choice, choosing, IsBranch, IsLevel}
use Rattle.sc_grammar.proofs.Reading.{Parser, got, and_then, ◌>>=◌, bind, pure, here, of_token, taken, maybe, yes_if, is_given, takes_if, chosen, if_taken, given_or, if_given, is_mark}
use Rattle.sc_grammar.proofs.ReadingExpressions.{between, assigning_in, choice_after, cond_by, assign_by}
use Rattle.sc_grammar.proofs.Local.{Local, Consumes, local-pure, local-here, local-bind, local-must, local-if_given, local-if_taken, local_moves, consumes-first, consumes-second}
use Rattle.sc_grammar.proofs.Fits.{Rule, Fits, After, fits-bind, fits-pure, fits-wider}
use Rattle.sc_grammar.proofs.FitsTokens.{Gave, Was, Matches, At, fits-if_given, fits-if_taken, fits-mark, fits-here, never_idle, was-mark}
use Rattle.sc_grammar.proofs.Derived.{Stands, Reads, reads-bind, reads-pure, reads-here, reads-given, reads-not_given, reads-taken_mark, reads-not_taken, reads-mark}
use Rattle.sc_grammar.proofs.Laws.{Exact, Without, without, extends_level, extends_cond, extends_assign, ExpressionEnds}
use Rattle.sc_grammar.proofs.Extends.{cond-operand, no_question, assign-left, no_assigning, assigning-ends}

-- ---- where no token was taken, nothing else was read

idle_taken : {A : Type 0} (p q : Parser A) → Local p → (ts : List Token) (n : ℕ) (y : A) (o : Option (Unit {0})) →
    and_then (and_then (taken o n) (λ z j. pure (is_given z) ts j)) (λ b j. chosen p q b ts j) ≡ got y n → q ts n ≡ got y n
unfolding pure
idle_taken p q h ts n y None e = e
idle_taken p q h ts n y (Some tt) e = absurd (let le = local_moves h ts (n + 1) y n e in omega arith)

pub idle-if_taken : {A : Type 0} (k : TokenKind → Bool) (p : Parser A) (x : A) → Local p → (ts : List Token) (n : ℕ) (y : A) → if_taken k p (pure x) ts n ≡ got y n → x ≡ y
unfolding bind maybe takes_if pure
idle-if_taken k p x h ts n y e = let i = idle_taken p (pure x) h ts n y (of_token (λ z. yes_if (k z)) (slice_get ts n)) e in cc

idle_given : {A B : Type 0} (g : A → Parser B) (q : Parser B) → ((z : A) → Local (g z)) → (ts : List Token) (n : ℕ) (y : B) (o : Option A) →
    and_then (taken o n) (λ z j. given_or g q z ts j) ≡ got y n → q ts n ≡ got y n
idle_given g q h ts n y None e = e
idle_given g q h ts n y (Some x) e = absurd (let le = local_moves (h x) ts (n + 1) y n e in omega arith)

pub idle-if_given : {A B : Type 0} (f : TokenKind → Option A) (g : A → Parser B) (x : B) → ((z : A) → Local (g z)) → (ts : List Token) (n : ℕ) (y : B) → if_given f g (pure x) ts n ≡ got y n → x ≡ y
unfolding bind maybe pure
idle-if_given f g x h ts n y e = let i = idle_given g (pure x) h ts n y (of_token f (slice_get ts n)) e in cc

-- ---- where a tree stands

-- a rule of a tree that starts and stands at the places of two positions
placed_by : (R : ℕ → ℕ → ℕ → Type 0) (start p : Position) (a b : Rest) → Matches start a → Matches p b → R (number_of a) (number_of b) (line_of b) → R start.at p.at p.line
placed_by R start p a b m n h =
    subst (λ (i : ℕ). R i p.at p.line) (sym m.at)
    (subst (λ (i : ℕ). R (number_of a) i p.line) (sym n.at)
    (subst (λ (i : ℕ). R (number_of a) (number_of b) i) (sym n.line) h))

-- ---- conditions

module _ (limit d : ℕ) (le : d ≤ limit) (test value other : Parser Expression)
    (tests : Exact limit test (IsLevel 10 d) (ExpressionEnds (extends_level 10)))
    (values : Exact limit value (IsAssign d) (ExpressionEnds extends_assign))
    (others : Exact limit other (IsBranch d) (ExpressionEnds extends_cond)) where
  local_choice : (start p : Position) (e : Expression) → Local (choice_after test value other start p e)
  unfolding choice_after
  local_choice start p e = local-bind values.local (λ met. local-bind (local-must _) (λ _. local-bind others.local (λ unmet. local-pure _)))

  -- from the end of the test on
  abbrev after_test : Position → Expression → Parser Expression
  after_test start e = here >>= λ p. if_taken (is_mark marks.Question) (choice_after test value other start p e) (pure e)

  local_after_test : (start : Position) (e : Expression) → Local (after_test start e)
  local_after_test start e = local-bind local-here (λ p. local-if_taken _ (local_choice start p e) (local-pure e))

  -- ---- fits

  choosing_at : (start p : Position) (e met unmet : Expression) (a b c f g h : Rest) → IsBranch d g h unmet → Takes (Mark marks.Colon) d f g → IsAssign d c f met → Was (is_mark marks.Question) d b c tt →
      Matches p b → IsLevel 10 d a b e → Matches start a → IsCond d a h (between start p (choice e met unmet))
  choosing_at start p e met unmet a b c f g h ho colon hy question n ht m =
      placed_by (λ i j k. IsCond d a h (expression (choice e met unmet) i j k)) start p a b m n (choosing ht (was-mark _ d b c tt question) hy colon ho)

  fits_choice : (start p : Position) (e : Expression) →
      Fits (choice_after test value other start p e) (After (Was (is_mark marks.Question) d) tt (At p (After (IsLevel 10 d) e (At start (IsCond d)))))
  unfolding choice_after
  fits_choice start p e =
      fits-bind values.fits (λ met. fits-bind (fits-mark marks.Colon d) (λ _. fits-bind others.fits (λ unmet.
      fits-pure _ (λ h g ho f colon c hy b question n a ht m. choosing_at start p e met unmet a b c f g h ho colon hy question n ht m))))

  fits_after_test : (start : Position) (e : Expression) → Fits (after_test start e) (After (IsLevel 10 d) e (At start (IsCond d)))
  fits_after_test start e =
      fits-here (fits-pure {R = R} e one).sample idle (λ p. fits-if_taken _ d (fits_choice start p e) (fits-pure e (λ b n a h m. no_choice h)))
    where
      R : Rule Expression
      R = After (IsLevel 10 d) e (At start (IsCond d))

      one : (b a : Rest) → IsLevel 10 d a b e → Matches start a → IsCond d a b e
      one b a h m = no_choice h

      idle : (p : Position) (ts : List Token) (n : ℕ) (y : Expression) → if_taken (is_mark marks.Question) (choice_after test value other start p e) (pure e) ts n ≡ got y n →
          (b a : Rest) → IsLevel 10 d a b e → Matches start a → IsCond d a b y
      idle p ts n y i b a h m = subst (λ (z : Expression). IsCond d a b z) (idle-if_taken (is_mark marks.Question) (choice_after test value other start p e) e (local_choice start p e) ts n y i) (no_choice h)

  -- ---- reads

  reads_cond : (ts : List Token) (a b : Rest) (e : Expression) → IsCond d a b e → Stands ts a → Without extends_cond b → Reads limit ts a b e (cond_by test value other)
  unfolding cond_by choice_after
  reads_cond ts a b e (no_choice h) s w =
      reads-here limit ts _ s
      (reads-bind limit ts _ (tests.reads ts a b e h s (cond-operand b w)) (λ r. reads-here limit ts _ r (reads-not_taken limit ts _ _ (no_question b w) r (reads-pure limit ts r))))
  reads_cond ts a b e (choosing {b = b1} {c = c} {f = f} {g = g} {test = e1} {yes = met} {no = unmet} ht question hy colon hn) s w =
      reads-here limit ts _ s
      (reads-bind limit ts _ (tests.reads ts a b1 e1 ht s (without _ question refl)) (λ r. reads-here limit ts _ r
      (reads-taken_mark limit ts _ _ question le r (λ r2.
      reads-bind limit ts _ (values.reads ts c f met hy r2 (without _ colon refl)) (λ r3.
      reads-mark limit ts _ _ colon le r3 (λ r4.
      reads-bind limit ts _ (others.reads ts g b unmet hn r4 w) (λ r5. reads-pure limit ts r5)))))))

  pub exact-cond_by : Exact limit (cond_by test value other) (IsCond d) (ExpressionEnds extends_cond)
  unfolding cond_by
  exact-cond_by = record {
    local = local-bind local-here (λ p. local-bind tests.local (λ e. local_after_test p e));
    consumes = consumes-second local-here consumes_at;
    fits = fits-here (fits-wider (λ a b e h. no_choice h) tests.fits).sample (never_idle (IsCond d) consumes_at) (λ p. fits-bind tests.fits (λ e. fits_after_test p e));
    reads = λ ts a b e h s w. reads_cond ts a b e h s w;
  }
    where
      consumes_at : (p : Position) → Consumes (test >>= λ e. after_test p e)
      consumes_at p = consumes-first tests.consumes (λ e. local_after_test p e)

-- ---- assignments

module _ (limit d : ℕ) (le : suc d ≤ limit) (left right : Parser Expression)
    (lefts : Exact limit left (IsCond (suc d)) (ExpressionEnds extends_cond))
    (rights : Exact limit right (IsAssign (suc d)) (ExpressionEnds extends_assign)) where
  -- after the operator
  abbrev assign_after : Position → Position → Expression → Assigning → Parser Expression
  assign_after start p e x = right >>= λ value. pure (between start p (assign x.op e value))

  -- from the end of the left side on
  abbrev after_left : Position → Expression → Parser Expression
  after_left start e = here >>= λ p. if_given assigning_in (assign_after start p e) (pure e)

  local_assign : (start p : Position) (e : Expression) (x : Assigning) → Local (assign_after start p e x)
  local_assign start p e x = local-bind rights.local (λ v. local-pure _)

  local_after_left : (start : Position) (e : Expression) → Local (after_left start e)
  local_after_left start e = local-bind local-here (λ p. local-if_given _ (local_assign start p e) (local-pure e))

  -- ---- fits

  assigning_at : (start p : Position) (e v : Expression) (x : Assigning) (a b c f : Rest) → IsAssign (suc d) c f v → Gave assigning_in (suc d) b c x →
      Matches p b → IsCond (suc d) a b e → Matches start a → IsAssign d a f (between start p (assign x.op e v))
  assigning_at start p e v x a b c f hr g n hl m = go g.kind g.gives g.takes
    where
      go : (kind : TokenKind) → assigning_in kind ≡ Some x → Takes kind (suc d) b c → IsAssign d a f (between start p (assign x.op e v))
      go (Mark k) i t = placed_by (λ j q r. IsAssign d a f (expression (assign x.op e v) j q r)) start p a b m n (assignment hl i t hr)
      go (Number k) i t = cc
      go (Name k) i t = cc
      go (Format k) i t = cc
      go (Word k) i t = cc

  fits_after_left : (start : Position) (e : Expression) → Fits (after_left start e) (After (IsCond (suc d)) e (At start (IsAssign d)))
  fits_after_left start e =
      fits-here (fits-pure {R = R} e one).sample idle
      (λ p. fits-if_given _ (suc d)
      (λ x. fits-bind rights.fits (λ v. fits-pure _ (λ f c hr b g n a hl m. assigning_at start p e v x a b c f hr g n hl m)))
      (fits-pure e (λ b n a h m. no_assignment h)))
    where
      R : Rule Expression
      R = After (IsCond (suc d)) e (At start (IsAssign d))

      one : (b a : Rest) → IsCond (suc d) a b e → Matches start a → IsAssign d a b e
      one b a h m = no_assignment h

      idle : (p : Position) (ts : List Token) (n : ℕ) (y : Expression) → if_given assigning_in (assign_after start p e) (pure e) ts n ≡ got y n →
          (b a : Rest) → IsCond (suc d) a b e → Matches start a → IsAssign d a b y
      idle p ts n y i b a h m = subst (λ (z : Expression). IsAssign d a b z) (idle-if_given assigning_in (assign_after start p e) e (local_assign start p e) ts n y i) (no_assignment h)

  -- ---- reads

  reads_assign : (ts : List Token) (a b : Rest) (e : Expression) → IsAssign d a b e → Stands ts a → Without extends_assign b → Reads limit ts a b e (assign_by left right)
  unfolding assign_by
  reads_assign ts a b e (no_assignment h) s w =
      reads-here limit ts _ s
      (reads-bind limit ts _ (lefts.reads ts a b e h s (assign-left b w)) (λ r. reads-here limit ts _ r (reads-not_given limit ts _ _ (no_assigning b w) r (reads-pure limit ts r))))
  reads_assign ts a b e (assignment {b = b1} {c = c} {left = e1} {right = v1} {m = m} {x = x} hl i t hr) s w =
      reads-here limit ts _ s
      (reads-bind limit ts _ (lefts.reads ts a b1 e1 hl s (without extends_cond t (assigning-ends m x i))) (λ r. reads-here limit ts _ r
      (reads-given limit ts assigning_in _ _ i t le r (λ r2.
      reads-bind limit ts _ (rights.reads ts c b v1 hr r2 w) (λ r3. reads-pure limit ts r3)))))

  pub exact-assign_by : Exact limit (assign_by left right) (IsAssign d) (ExpressionEnds extends_assign)
  unfolding assign_by
  exact-assign_by = record {
    local = local-bind local-here (λ p. local-bind lefts.local (λ e. local_after_left p e));
    consumes = consumes-second local-here consumes_at;
    fits = fits-here (fits-wider (λ a b e h. no_assignment h) lefts.fits).sample (never_idle (IsAssign d) consumes_at) (λ p. fits-bind lefts.fits (λ e. fits_after_left p e));
    reads = λ ts a b e h s w. reads_assign ts a b e h s w;
  }
    where
      consumes_at : (p : Position) → Consumes (left >>= λ e. after_left p e)
      consumes_at p = consumes-first lefts.consumes (λ e. local_after_left p e)
