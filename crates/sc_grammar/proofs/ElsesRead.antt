-- Arms and what follows them are read exactly, where an `assign` and a statement inside are.
use Rattle.std.proofs.Common.{◌+◌, ◌-◌, length, max, ◌≡◌, refl, sym, ap, ◌∙◌, subst, ℕ, zero, suc, ◌≤◌, ◌<◌, arith, Bool, true, false, List, [], ◌∷◌, ◌++◌, Option, Some, None}
use Rattle.std.proofs.lemmas.Option.{slice_get_past}
use Rattle.std.specs.Prelude.{slice_get}
use Rattle.sc_tree.specs.declared.token.Token.{Token}
use Rattle.sc_tree.specs.declared.token.TokenKind.{TokenKind}
use Rattle.sc_tree.specs.declared.token.TokenKind.TheVariants.{Number, Name, Format, Word, Mark}
use Rattle.sc_tree.specs.declared.token.Word.TheVariants as words
use Rattle.sc_tree.specs.declared.token.Mark.TheVariants as marks
use Rattle.sc_tree.specs.Plain.{Expression}
use Rattle.sc_tree.specs.PlainStmt.{Statement, empty, Arm, arm}
use Rattle.sc_grammar.specs.Rest.{Spelt, Rest, rest, Takes, takes}
use Rattle.sc_grammar.specs.Expressions.{IsAssign}
use Rattle.sc_grammar.specs.Statements.{stands_before, is_else, is_if, is_open, before_else, before_if, IsNearest, IsStatement, empty_statement, IsArm, if_arm, IsElseIfs, no_else_if, one_more_else_if}
use Rattle.sc_grammar.proofs.Reading.{syntax, deep, Out, got, refused, Parser, and_then, bind, ◌>>=◌, pure, fail, of_token, taken, maybe, yes_if, is_given, takes_if, sees, chosen, if_taken, is_word}
use Rattle.sc_grammar.proofs.ReadingStatements.{Elses, no_elses, with_arm, last_else, arm_after, elses_by, elses}
use Rattle.sc_grammar.proofs.Local.{Local, Consumes, local_moves, local-bind, local-pure, local-if_taken, consumes-first}
use Rattle.sc_grammar.proofs.Fits.{Rule, Fits, FitsOut, Found, Sample, Begun, Stand, Quiet, Follows, past, begun_by, After, fits-bind, fits-pure, fits-fail}
use Rattle.sc_grammar.proofs.FitsTokens.{Was, fits-if_taken, was-word, so_out}
use Rattle.sc_grammar.proofs.Derived.{Stands, Reads, place, same_there, reads-bind, reads-pure, reads-taken_word, reads-not_taken}
use Rattle.sc_grammar.proofs.Apart.{not_true}
use Rattle.sc_grammar.proofs.Laws.{Exact, Without, ExpressionEnds, StatementEnds, Greedy, extends_assign}
use Rattle.sc_grammar.proofs.LocalsRead.{IsTest, in_parentheses, local-test, consumes-test, fits-test, reads-test}

-- ---- where a token is not taken

-- the rule where the next token is not so
abbrev pub Unless : {A : Type 0} → (TokenKind → Bool) → Rule A → Rule A
Unless k R a b x = Without k a → R a b x

unless_out : {A : Type 0} (R : Rule A) (k : TokenKind → Bool) (ts : List Token) (n : ℕ) → sees k (slice_get ts n) ≡ false → (o : Out A) → ((y : A) (m : ℕ) → o ≡ got y m → n < m) → Sample R n → FitsOut (Unless k R) ts n o → FitsOut R ts n o
unless_out {A = A} R k ts n unseen o moves s f = go o refl f
  where
    begun : (j : ℕ) → (b : Begun (Unless k R) ts n j) → (us : List Spelt) → b.used ≡ us → Begun R ts n j
    begun j b [] e = subst (λ (i : ℕ). Begun R ts n i) (ap (λ (l : List Spelt). past l n) (sym e) ∙ b.ends) (begun_by ts n s)
    begun j b (t ∷ us) e =
        let st : Stand ts n (t ∷ us) = subst (Stand ts n) e b.stand in
        record {
          used = t ∷ us;
          more = b.more;
          value = b.value;
          stand = st;
          ends = ap (λ (l : List Spelt). past l n) (sym e) ∙ b.ends;
          quiet = b.quiet;
          holds = λ tail w. subst (λ (l : List Spelt). Unless k R (rest n (l ++ (b.more ++ tail))) (rest (past b.more j) tail) b.value) e (b.holds tail w) (sym (ap (sees k) st.0) ∙ unseen);
        }

    found : (y : A) (m : ℕ) → n < m → (f : Found (Unless k R) ts n y m) → (us : List Spelt) → f.used ≡ us → Found R ts n y m
    found y m lt f [] e = absurd (let z : n ≡ m = ap (λ (l : List Spelt). past l n) (sym e) ∙ f.ends in omega arith)
    found y m lt f (t ∷ us) e =
        let st : Stand ts n (t ∷ us) = subst (Stand ts n) e f.stand in
        record {
          used = t ∷ us;
          stand = st;
          ends = ap (λ (l : List Spelt). past l n) (sym e) ∙ f.ends;
          holds = λ tail w. subst (λ (l : List Spelt). Unless k R (rest n (l ++ tail)) (rest m tail) y) e (f.holds tail w) (sym (ap (sees k) st.0) ∙ unseen);
        }

    go : (p : Out A) → o ≡ p → FitsOut (Unless k R) ts n p → FitsOut R ts n p
    go (got y m) i f = found y m (moves y m i) f f.used refl
    go (refused (syntax j)) i f = begun j f f.used refl
    go (refused (deep j)) i f = begun (j + 1) f f.used refl

sees_not : (k : TokenKind → Bool) (o : Option Token) → of_token (λ z. yes_if (k z)) o ≡ None → sees k o ≡ false
sees_not k None e = refl
sees_not k (Some t) e = not_true (k t.kind) (λ i. let z : yes_if true ≡ None = ap yes_if (sym i) ∙ e in cc)

-- what takes a token always, where the next token is not so
pub fits-if_taken_unless : {B : Type 0} {R : Rule B} (k : TokenKind → Bool) (d : ℕ) {p q : Parser B} →
    ((n : ℕ) → Sample R n) → Consumes q → Fits p (After (Was k d) tt R) → Fits q (Unless k R) → Fits (if_taken k p q) R
unfolding bind maybe takes_if pure
fits-if_taken_unless {B = B} {R = R} k d {p = p} {q = q} s moves hp hq = record {
  at = λ ts n. go ts n (of_token (λ z. yes_if (k z)) (slice_get ts n)) refl;
  sample = s;
}
  where
    go : (ts : List Token) (n : ℕ) (o : Option (Unit {0})) → of_token (λ z. yes_if (k z)) (slice_get ts n) ≡ o →
        FitsOut R ts n (and_then (and_then (taken o n) (λ x m. pure (is_given x) ts m)) (λ b m. chosen p q b ts m))
    go ts n None e = unless_out R k ts n (sees_not k (slice_get ts n) e) (q ts n) (λ y m i. moves ts n y m i) (s n) (hq.at ts n)
    go ts n (Some tt) e = so_out R k d {p = p} {q = fail} hp (fits-fail s) ts n (Some tt) e

-- ---- what an `else` belongs to

-- an `else` that stands directly after the statement does not belong inside it
abbrev pub Nearest : ℕ → Rule Statement
Nearest d a b s = IsStatement d a b s × IsNearest s b

quiet_nearest : (s : Statement) (n : ℕ) (tail : List Spelt) → Quiet tail → IsNearest s (rest n tail)
quiet_nearest s n tail q = λ e. absurd (let z : true ≡ false = sym e ∙ q in cc)

greedy_nearest : (s : Statement) (ts : List Token) (m : ℕ) (tail : List Spelt) → (is_open s ≡ true → sees is_else (slice_get ts m) ≡ false) → Follows ts m tail → IsNearest s (rest m tail)
greedy_nearest s ts m tail g w = λ e. not_true (is_open s) (λ o. let z : true ≡ false = sym (w e) ∙ g o in cc)

nearest_out : (d : ℕ) (ts : List Token) (n : ℕ) (o : Out Statement) → ((s : Statement) (m : ℕ) → o ≡ got s m → is_open s ≡ true → sees is_else (slice_get ts m) ≡ false) →
    FitsOut (IsStatement d) ts n o → FitsOut (Nearest d) ts n o
nearest_out d ts n (got s m) g f = record { used = f.used; stand = f.stand; ends = f.ends; holds = λ tail w. (f.holds tail w, greedy_nearest s ts m tail (g s m refl) w) }
nearest_out d ts n (refused (syntax k)) g f =
    record { used = f.used; more = f.more; value = f.value; stand = f.stand; ends = f.ends; quiet = f.quiet; holds = λ tail w. (f.holds tail w, quiet_nearest f.value (past f.more k) tail w) }
nearest_out d ts n (refused (deep k)) g f =
    record { used = f.used; more = f.more; value = f.value; stand = f.stand; ends = f.ends; quiet = f.quiet; holds = λ tail w. (f.holds tail w, quiet_nearest f.value (past f.more (k + 1)) tail w) }

-- what takes each `else` that follows is read so that none belongs inside
pub fits-nearest : (d : ℕ) {p : Parser Statement} → Fits p (IsStatement d) → Greedy p → Fits p (Nearest d)
fits-nearest d {p = p} h g = record {
  at = λ ts n. nearest_out d ts n (p ts n) (λ s m e o. g ts n s m e o) (h.at ts n);
  sample = λ n. let b = h.sample n in record { more = b.more; value = b.value; quiet = b.quiet; holds = λ tail w. (b.holds tail w, quiet_nearest b.value (past b.more n) tail w) };
}

nearest_ends : (s : Statement) (a : Rest) → IsNearest s a → StatementEnds s a
nearest_ends s a h = λ o. not_true (before_else a) (λ e. let z : true ≡ false = sym o ∙ h e in cc)

-- ---- arms, and what stands after the last `else`

-- an arm after `if`
pub data IsArmAfter (d : ℕ) (a c : Rest) : Arm → Type 0 where
  guarded : {b : Rest} {e : Expression} {s : Statement} → IsTest d a b e → Nearest d b c s → IsArmAfter d a c (arm e s)

pub arm-of : (d : ℕ) (a b c : Rest) (x : Arm) → Takes (Word words.If) d a b → IsArmAfter d b c x → IsArm d a c x
arm-of d a b c x t (guarded (in_parentheses u h v) n) = if_arm t u h v n.0 n.1

-- what stands after an arm
pub data IsElses (d : ℕ) : Rest → Rest → Elses → Type 0 where
  nothing_else : {a : Rest} → IsElses d a a no_elses
  else_if : {a b c f : Rest} {x : Arm} {r : Elses} → Takes (Word words.Else) d a b → IsArm d b c x → IsElses d c f r → IsElses d a f (with_arm x r)
  else_last : {a b c : Rest} {s : Statement} → Takes (Word words.Else) d a b → before_if b ≡ false → IsStatement d b c s → IsElses d a c (last_else s)

-- the arms, and then the last `else`
pub data IsArmsThenLast (d : ℕ) (a c : Rest) : Elses → Type 0 where
  arms_alone : {xs : List Arm} → IsElseIfs d a c xs → IsArmsThenLast d a c (record { arms = xs; last = None })
  arms_then_last : {xs : List Arm} {b f : Rest} {s : Statement} → IsElseIfs d a b xs → Takes (Word words.Else) d b f → before_if f ≡ false → IsStatement d f c s →
      IsArmsThenLast d a c (record { arms = xs; last = Some s })

one_more_arm : (d : ℕ) (a b c f : Rest) (x : Arm) (r : Elses) → Takes (Word words.Else) d a b → IsArm d b c x → IsArmsThenLast d c f r → IsArmsThenLast d a f (with_arm x r)
one_more_arm d a b c f x r t h (arms_alone hs) = arms_alone (one_more_else_if t h hs)
one_more_arm d a b c f x r t h (arms_then_last hs u n s) = arms_then_last (one_more_else_if t h hs) u n s

pub parted : (d : ℕ) (a b : Rest) (r : Elses) → IsElses d a b r → IsArmsThenLast d a b r
parted d a b r nothing_else = arms_alone no_else_if
parted d a f r (else_if {b = b} {c = c} {x = x} {r = more} t h hs) = one_more_arm d a b c f x more t h (parted d c f more hs)
parted d a c r (else_last t n s) = arms_then_last no_else_if t n s

pub arms_only : (d : ℕ) (a b : Rest) (xs : List Arm) → IsElseIfs d a b xs → IsElses d a b (record { arms = xs; last = None })
arms_only d a b xs no_else_if = nothing_else
arms_only d a f xs (one_more_else_if {b = b} {c = c} {xs = more} t h hs) = else_if t h (arms_only d c f more hs)

pub arms_and_last : (d : ℕ) (a b c f : Rest) (xs : List Arm) (s : Statement) → IsElseIfs d a b xs → Takes (Word words.Else) d b c → before_if c ≡ false → IsStatement d c f s →
    IsElses d a f (record { arms = xs; last = Some s })
arms_and_last d a b c f xs s no_else_if t n h = else_last t n h
arms_and_last d a b c f xs s (one_more_else_if {b = g} {c = i} {xs = more} u x hs) t n h = else_if u x (arms_and_last d i b c f more s hs t n h)

abbrev pub LastEnds : Option Statement → Rest → Type 0
LastEnds None a = Without is_else a
LastEnds (Some s) a = StatementEnds s a

-- the elses end where no `else` goes on with them
abbrev pub ElsesEnd : Elses → Rest → Type 0
ElsesEnd r a = LastEnds r.last a

is_if-word : (k : TokenKind) → is_if k ≡ is_word words.If k
is_if-word (Word words.If) = refl
is_if-word (Word w) = refl
is_if-word (Mark m) = refl
is_if-word (Number n) = refl
is_if-word (Name n) = refl
is_if-word (Format n) = refl

is_else-word : (k : TokenKind) → is_else k ≡ is_word words.Else k
is_else-word (Word words.Else) = refl
is_else-word (Word w) = refl
is_else-word (Mark m) = refl
is_else-word (Number n) = refl
is_else-word (Name n) = refl
is_else-word (Format n) = refl

same_before : (j k : TokenKind → Bool) → ((kind : TokenKind) → j kind ≡ k kind) → (a : Rest) → stands_before j a ≡ stands_before k a
same_before j k h (rest n []) = refl
same_before j k h (rest n (s ∷ us)) = h s.token.kind

no_if : (a : Rest) → Without (is_word words.If) a → before_if a ≡ false
no_if a w = same_before is_if (is_word words.If) is_if-word a ∙ w

not_if : (a : Rest) → before_if a ≡ false → Without (is_word words.If) a
not_if a w = sym (same_before is_if (is_word words.If) is_if-word a) ∙ w

no_else : (a : Rest) → Without is_else a → Without (is_word words.Else) a
no_else a w = sym (same_before is_else (is_word words.Else) is_else-word a) ∙ w

-- ---- a turn for each token is enough

then_same : {A B : Type 0} (f g : A → Parser B) (ts : List Token) (o : Out A) → ((x : A) (m : ℕ) → o ≡ got x m → f x ts m ≡ g x ts m) → and_then o (λ x m. f x ts m) ≡ and_then o (λ x m. g x ts m)
then_same f g ts (got x m) h = h x m refl
then_same f g ts (refused r) h = refl

taken_same : {B : Type 0} (p q u v : Parser B) (ts : List Token) (n : ℕ) (o : Option (Unit {0})) → p ts (n + 1) ≡ u ts (n + 1) → q ts n ≡ v ts n →
    and_then (and_then (taken o n) (λ x m. pure (is_given x) ts m)) (λ b m. chosen p q b ts m) ≡ and_then (and_then (taken o n) (λ x m. pure (is_given x) ts m)) (λ b m. chosen u v b ts m)
unfolding pure
taken_same p q u v ts n None h i = i
taken_same p q u v ts n (Some tt) h i = h

-- ---- each `else` that follows is taken

sees_word : (o : Option Token) → sees (is_word words.Else) o ≡ false → sees is_else o ≡ false
sees_word None e = refl
sees_word (Some t) e = is_else-word t.kind ∙ e

-- where an `else` would go on with it, none stands there
abbrev pub Closed : Option Statement → Bool → Type 0
Closed None b = b ≡ false
Closed (Some s) b = is_open s ≡ true → b ≡ false

abbrev pub ClosedOut : List Token → Out Elses → Type 0
ClosedOut ts (got r m) = Closed r.last (sees is_else (slice_get ts m))
ClosedOut ts (refused z) = Unit {0}

module _ (limit d : ℕ) (le : d ≤ limit) (value : Parser Expression) (hv : Exact limit value (IsAssign d) (ExpressionEnds extends_assign))
    (inner : Parser Statement) (hi : Exact limit inner (IsStatement d) StatementEnds) (gi : Greedy inner) where
  pub local-arm_after : Local (arm_after value inner)
  unfolding arm_after
  local-arm_after = local-bind (local-test limit d le value hv) (λ e. local-bind hi.local (λ s. local-pure _))

  -- one turn, over what reads the others
  abbrev elses_over : Parser Elses → Parser Elses
  elses_over more =
      if_taken (is_word words.Else)
      (if_taken (is_word words.If)
      (arm_after value inner >>= λ x. more >>= λ r. pure (with_arm x r))
      (inner >>= λ s. pure (last_else s)))
      (pure no_elses)

  local-over : {more : Parser Elses} → Local more → Local (elses_over more)
  local-over h = local-if_taken _ (local-if_taken _ (local-bind local-arm_after (λ x. local-bind h (λ r. local-pure _))) (local-bind hi.local (λ s. local-pure _))) (local-pure _)

  local-elses_by : (k : ℕ) → Local (elses_by value inner k)
  unfolding elses_by
  local-elses_by zero = local-pure _
  local-elses_by (suc k) = local-over (local-elses_by k)

  same_over : (p q : Parser Elses) (ts : List Token) (n : ℕ) → ((m : ℕ) → n < m → p ts m ≡ q ts m) → elses_over p ts n ≡ elses_over q ts n
  unfolding bind maybe takes_if pure
  same_over p q ts n h =
      taken_same _ _ _ _ ts n (of_token (λ z. yes_if (is_word words.Else z)) (slice_get ts n))
      (taken_same _ _ _ _ ts (n + 1) (of_token (λ z. yes_if (is_word words.If z)) (slice_get ts (n + 1)))
      (then_same (λ x. bind p (λ r. pure (with_arm x r))) (λ x. bind q (λ r. pure (with_arm x r))) ts (arm_after value inner ts (n + 1 + 1))
      (λ x m e. let le = local_moves local-arm_after ts (n + 1 + 1) x m e in ap (λ o. and_then o (λ r j. pure (with_arm x r) ts j)) (h m (omega arith))))
      refl)
      refl

  stops_over : (p : Parser Elses) (ts : List Token) (n : ℕ) → slice_get ts n ≡ None → elses_over p ts n ≡ got no_elses n
  unfolding bind maybe takes_if pure
  stops_over p ts n e =
      ap (λ o. and_then (and_then (taken (of_token (λ z. yes_if (is_word words.Else z)) o) n) (λ x m. pure (is_given x) ts m))
      (λ b m. chosen (if_taken (is_word words.If) (arm_after value inner >>= λ x. p >>= λ r. pure (with_arm x r)) (inner >>= λ s. pure (last_else s))) (pure no_elses) b ts m)) e

  elses-enough : (ts : List Token) (k j n : ℕ) → length ts ≤ n + k → length ts ≤ n + j → elses_by value inner j ts n ≡ elses_by value inner k ts n
  unfolding elses_by pure
  elses-enough ts zero zero n a b = refl
  elses-enough ts zero (suc j) n a b = stops_over (elses_by value inner j) ts n (slice_get_past ts n (omega arith))
  elses-enough ts (suc k) zero n a b = sym (stops_over (elses_by value inner k) ts n (slice_get_past ts n (omega arith)))
  elses-enough ts (suc k) (suc j) n a b =
      same_over (elses_by value inner j) (elses_by value inner k) ts n (λ m lt. elses-enough ts k j m (omega arith) (omega arith))

  -- one turn, and then the others
  pub elses-step : (ts : List Token) (n : ℕ) → elses value inner ts n ≡ elses_over (elses value inner) ts n
  unfolding elses elses_by
  elses-step ts n =
      elses-enough ts (suc (length ts)) (length ts - n) n (omega arith) (omega arith)
      ∙ same_over (elses_by value inner (length ts)) (elses value inner) ts n (λ m lt. elses-enough ts (length ts - m) (length ts) m (omega arith) (omega arith))

  pub local-elses : Local (elses value inner)
  unfolding elses
  local-elses = record {
    grows = λ ts n. (local-elses_by (length ts - n)).grows ts n;
    same = λ ts us n s.
        let k = max (length ts) (length us) in
        let at_ts = elses-enough ts (length ts - n) k n (omega arith) (omega arith) in
        let at_us = elses-enough us (length us - n) k n (omega arith) (omega arith) in
        sym at_us ∙ (local-elses_by k).same ts us n (rw at_ts s) ∙ at_ts;
  }

  -- ---- arms

  pub consumes-arm_after : Consumes (arm_after value inner)
  unfolding arm_after
  consumes-arm_after = consumes-first (consumes-test limit d le value hv) (λ e. local-bind hi.local (λ s. local-pure _))

  pub fits-arm_after : Fits (arm_after value inner) (IsArmAfter d)
  unfolding arm_after
  fits-arm_after = fits-bind (fits-test limit d le value hv) (λ e. fits-bind (fits-nearest d hi.fits gi) (λ s. fits-pure _ (λ c b n a t. guarded t n)))

  pub reads-arm_after : (ts : List Token) (a b : Rest) (x : Arm) → IsArmAfter d a b x → Stands ts a → Reads limit ts a b x (arm_after value inner)
  unfolding arm_after
  reads-arm_after ts a c x (guarded {b = b} {e = e} {s = y} t n) s =
      reads-bind limit ts _ (reads-test limit d le value hv ts a b e t s) (λ r.
      reads-bind limit ts _ (hi.reads ts b c y n.0 r (nearest_ends y c n.1)) (λ z. reads-pure limit ts z))

  -- ---- elses

  empty_last : (n : ℕ) → Sample (After (Was (is_word words.Else) d) tt (IsElses d)) n
  empty_last n = record {
    more = record { token = record { kind = Mark marks.Semicolon; at = 0; line = 0 }; depth = suc d } ∷ [];
    value = last_else empty;
    quiet = refl;
    holds = λ tail w a h. else_last (was-word words.Else d a _ tt h) refl (empty_statement takes);
  }

  fits-elses_by : (k : ℕ) → Fits (elses_by value inner k) (IsElses d)
  unfolding elses_by
  fits-elses_by zero = fits-pure no_elses (λ a. nothing_else)
  fits-elses_by (suc k) =
      fits-if_taken _ d
      (fits-if_taken_unless (is_word words.If) d empty_last (consumes-first hi.consumes (λ s. local-pure _))
      (fits-bind fits-arm_after (λ x. fits-bind (fits-elses_by k) (λ r. fits-pure _ (λ f c hs b h a wi z we.
      else_if (was-word _ d z a tt we) (arm-of d a b c x (was-word _ d a b tt wi) h) hs))))
      (fits-bind hi.fits (λ s. fits-pure _ (λ c b h un a we. else_last (was-word _ d a b tt we) (no_if b un) h))))
      (fits-pure no_elses (λ a. nothing_else))

  pub fits-elses : Fits (elses value inner) (IsElses d)
  unfolding elses
  fits-elses = record { at = λ ts n. (fits-elses_by (length ts - n)).at ts n; sample = (fits-elses_by zero).sample }

  pub reads-elses : (ts : List Token) (a b : Rest) (r : Elses) → IsElses d a b r → Stands ts a → ElsesEnd r b → Reads limit ts a b r (elses value inner)
  reads-elses ts a b r nothing_else s w =
      same_there limit ts (elses-step ts (place a)) (reads-not_taken limit ts _ _ (no_else a w) s (reads-pure limit ts s))
  reads-elses ts a f r (else_if {b = b} {c = c} {x = x} {r = more} t (if_arm {b = g} ti u h v st n) hs) s w =
      same_there limit ts (elses-step ts (place a)) (reads-taken_word limit ts words.Else _ t le s (λ i. reads-taken_word limit ts words.If _ ti le i (λ q.
      reads-bind limit ts _ (reads-arm_after ts g c x (guarded (in_parentheses u h v) (st, n)) q) (λ z.
      reads-bind limit ts _ (reads-elses ts c f more hs z w) (λ y. reads-pure limit ts y)))))
  reads-elses ts a c r (else_last {b = b} {s = x} t n h) s w =
      same_there limit ts (elses-step ts (place a)) (reads-taken_word limit ts words.Else _ t le s (λ i. reads-not_taken limit ts _ _ (not_if b n) i (
      reads-bind limit ts _ (hi.reads ts b c x h i w) (λ z. reads-pure limit ts z))))

  -- ---- each `else` that follows is taken

  over_closed : (more : Parser Elses) (ts : List Token) (n : ℕ) → ((m : ℕ) → n < m → ClosedOut ts (more ts m)) → ClosedOut ts (elses_over more ts n)
  unfolding bind maybe takes_if pure
  over_closed more ts n h = first (of_token (λ z. yes_if (is_word words.Else z)) (slice_get ts n)) refl
    where
      last : (o : Out Statement) → inner ts (n + 1) ≡ o → ClosedOut ts (and_then o (λ s j. pure (last_else s) ts j))
      last (got s j) e = gi ts (n + 1) s j e
      last (refused z) e = tt

      with_front : (x : Arm) (o : Out Elses) → ClosedOut ts o → ClosedOut ts (and_then o (λ r j. pure (with_arm x r) ts j))
      with_front x (got r j) c = c
      with_front x (refused z) c = tt

      arms : (o : Out Arm) → arm_after value inner ts (n + 1 + 1) ≡ o → ClosedOut ts (and_then o (λ x m. and_then (more ts m) (λ r j. pure (with_arm x r) ts j)))
      arms (got x m) e =
          let moved = local_moves local-arm_after ts (n + 1 + 1) x m e in
          with_front x (more ts m) (h m (omega arith))
      arms (refused z) e = tt

      second : (o : Option (Unit {0})) →
          ClosedOut ts (and_then (and_then (taken o (n + 1)) (λ x m. pure (is_given x) ts m)) (λ b m. chosen (arm_after value inner >>= λ x. more >>= λ r. pure (with_arm x r)) (inner >>= λ s. pure (last_else s)) b ts m))
      second None = last (inner ts (n + 1)) refl
      second (Some tt) = arms (arm_after value inner ts (n + 1 + 1)) refl

      first : (o : Option (Unit {0})) → of_token (λ z. yes_if (is_word words.Else z)) (slice_get ts n) ≡ o →
          ClosedOut ts (and_then (and_then (taken o n) (λ x m. pure (is_given x) ts m)) (λ b m. chosen (if_taken (is_word words.If) (arm_after value inner >>= λ x. more >>= λ r. pure (with_arm x r)) (inner >>= λ s. pure (last_else s))) (pure no_elses) b ts m))
      first None e = sees_word (slice_get ts n) (sees_not (is_word words.Else) (slice_get ts n) e)
      first (Some tt) e = second (of_token (λ z. yes_if (is_word words.If z)) (slice_get ts (n + 1)))

  elses_closed : (ts : List Token) (k n : ℕ) → length ts ≤ n + k → ClosedOut ts (elses_by value inner k ts n)
  unfolding elses_by pure
  elses_closed ts zero n h = ap (sees is_else) (slice_get_past ts n (omega arith))
  elses_closed ts (suc k) n h = over_closed (elses_by value inner k) ts n (λ m lt. elses_closed ts k m (omega arith))

  pub closed-elses : (ts : List Token) (n : ℕ) → ClosedOut ts (elses value inner ts n)
  unfolding elses
  closed-elses ts n = elses_closed ts (length ts - n) n (omega arith)
