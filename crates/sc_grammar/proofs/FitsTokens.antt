-- Reading that looks at the next token, and reading of many, fits the grammar.
use Rattle.std.proofs.Common.{◌+◌, ◌≡◌, refl, sym, ap, ◌∙◌, subst, ℕ, zero, suc, arith, Bool, true, false, List, [], ◌∷◌, ◌++◌, Option, Some, None}
use Rattle.std.specs.Prelude.{slice_get, ◌-◌, length}
use Rattle.sc_tree.specs.declared.token.Token.{Token}
use Rattle.sc_tree.specs.declared.token.TokenKind.{TokenKind}
use Rattle.sc_tree.specs.declared.token.TokenKind.TheVariants.{Word, Mark}
use Rattle.sc_tree.specs.declared.token.Mark.{Mark as TheMark}
use Rattle.sc_tree.specs.declared.token.Word.{Word as TheWord}
use Rattle.sc_grammar.specs.declared.position.Position.{Position}
use Rattle.sc_grammar.specs.Rest.{Spelt, Rest, rest, number_of, line_of, Takes, takes}
use Rattle.sc_grammar.specs.Statements.{is_else}
use Rattle.sc_grammar.proofs.Reading.{syntax, deep, Out, got, refused, Parser, and_then, bind, pure, fail, line_of_token, position, here, of_token, taken, maybe, yes_if, is_given, takes_if, sees, next_is, must_be, must, too_deep, chosen, if_taken, if_next, no_deeper, given_or, if_given, and_more, many_by, many, mark, word, is_mark, is_word}
use Rattle.sc_grammar.proofs.Local.{Consumes}
use Rattle.sc_grammar.proofs.Apart.{is_mark-is, is_mark-same, is_word-is, is_word-same}
use Rattle.sc_grammar.proofs.Fits.{Rule, Stand, past, Quiet, Found, Sample, Begun, FitsOut, Fits, begun_by, After, fits-bind, fits-pure, fits-fail, fits-wider, sample_more, then_out}

-- ---- a token that is taken

-- the token gives this, at the depth
pub record Gave {A : Type 0} (f : TokenKind → Option A) (d : ℕ) (a b : Rest) (x : A) : Type 0 where
  pub kind : TokenKind
  pub gives : f kind ≡ Some x
  pub takes : Takes kind d a b

-- the token is so
pub record Was (k : TokenKind → Bool) (d : ℕ) (a b : Rest) (u : Unit {0}) : Type 0 where
  pub kind : TokenKind
  pub so : k kind ≡ true
  pub takes : Takes kind d a b

abbrev pub spelt : Token → ℕ → Spelt
spelt t d = record { token = t; depth = d }

-- one token stands there
found-token : {A : Type 0} {R : Rule A} (d : ℕ) (ts : List Token) (n : ℕ) (t : Token) (x : A) → slice_get ts n ≡ Some t → ((a b : Rest) → Takes t.kind d a b → R a b x) → Found R ts n x (n + 1)
found-token d ts n t x e h = record { used = spelt t d ∷ []; stand = (e, tt); ends = refl; holds = λ tail w. h _ _ takes }

pub sample-token : {A : Type 0} {R : Rule A} (d : ℕ) (k : TokenKind) (x : A) → is_else k ≡ false → ((a b : Rest) → Takes k d a b → R a b x) → (n : ℕ) → Sample R n
sample-token d k x q h n = record { more = spelt (record { kind = k; at = 0; line = 0 }) d ∷ []; value = x; quiet = q; holds = λ tail w. h _ _ takes }

-- a token, and then what is left of the rule
pub sample-then : {A B : Type 0} {P : Rule A} {R : Rule B} → ((n : ℕ) → Sample P n) → ((x : A) (n : ℕ) → Sample (After P x R) n) → (n : ℕ) → Sample R n
sample-then p q n = let b = p n in sample_more n b (q b.value (past b.more n))

-- ---- the next token

sees_token : {A : Type 0} (f : TokenKind → Option A) (x : A) (o : Option Token) → of_token f o ≡ Some x → (t : Token) × (o ≡ Some t) × (f t.kind ≡ Some x)
sees_token f x (Some t) h = (t, refl, h)
sees_token f x None h = cc

sees_true : (k : TokenKind → Bool) (o : Option Token) → sees k o ≡ true → (t : Token) × (o ≡ Some t) × (k t.kind ≡ true)
sees_true k (Some t) h = (t, refl, h)
sees_true k None h = cc

-- where the next token gives something, reading goes on after it
given_out : {A B : Type 0} (R : Rule B) (f : TokenKind → Option A) (d : ℕ) {g : A → Parser B} {q : Parser B} →
    ((x : A) → Fits (g x) (After (Gave f d) x R)) → Fits q R → (ts : List Token) (n : ℕ) (o : Option A) → of_token f (slice_get ts n) ≡ o →
    FitsOut R ts n (and_then (taken o n) (λ x m. given_or g q x ts m))
given_out R f d hg hq ts n None e = hq.at ts n
given_out R f d {g = g} hg hq ts n (Some x) e =
    let t = sees_token f x (slice_get ts n) e in
    then_out R ts n x (n + 1) (found-token {R = Gave f d} d ts n t.0 x t.1 (λ a b k. record { kind = t.0.kind; gives = t.2; takes = k })) (g x ts (n + 1)) ((hg x).at ts (n + 1))

pub fits-if_given : {A B : Type 0} {R : Rule B} (f : TokenKind → Option A) (d : ℕ) {g : A → Parser B} {q : Parser B} →
    ((x : A) → Fits (g x) (After (Gave f d) x R)) → Fits q R → Fits (if_given f g q) R
unfolding bind maybe
fits-if_given {R = R} f d hg hq = record {
  at = λ ts n. given_out R f d hg hq ts n (of_token f (slice_get ts n)) refl;
  sample = hq.sample;
}

pub so_out : {B : Type 0} (R : Rule B) (k : TokenKind → Bool) (d : ℕ) {p q : Parser B} →
    Fits p (After (Was k d) tt R) → Fits q R → (ts : List Token) (n : ℕ) (o : Option (Unit {0})) → of_token (λ z. yes_if (k z)) (slice_get ts n) ≡ o →
    FitsOut R ts n (and_then (and_then (taken o n) (λ x m. pure (is_given x) ts m)) (λ b m. chosen p q b ts m))
unfolding pure
so_out R k d hp hq ts n None e = hq.at ts n
so_out R k d {p = p} hp hq ts n (Some tt) e =
    let t = sees_token (λ z. yes_if (k z)) tt (slice_get ts n) e in
    then_out R ts n tt (n + 1) (found-token {R = Was k d} d ts n t.0 tt t.1 (λ a b w. record { kind = t.0.kind; so = yes (k t.0.kind) t.2; takes = w })) (p ts (n + 1)) (hp.at ts (n + 1))
  where
    yes : (b : Bool) → yes_if b ≡ Some tt → b ≡ true
    yes true h = refl
    yes false h = cc

pub fits-if_taken : {B : Type 0} {R : Rule B} (k : TokenKind → Bool) (d : ℕ) {p q : Parser B} →
    Fits p (After (Was k d) tt R) → Fits q R → Fits (if_taken k p q) R
unfolding bind maybe takes_if
fits-if_taken {R = R} k d hp hq = record {
  at = λ ts n. so_out R k d hp hq ts n (of_token (λ z. yes_if (k z)) (slice_get ts n)) refl;
  sample = hq.sample;
}

next_out : {B : Type 0} (R : Rule B) {p q : Parser B} → Fits p R → Fits q R → (ts : List Token) (n : ℕ) (b : Bool) → FitsOut R ts n (chosen p q b ts n)
next_out R hp hq ts n true = hp.at ts n
next_out R hp hq ts n false = hq.at ts n

pub fits-if_next : {B : Type 0} {R : Rule B} (k : TokenKind → Bool) {p q : Parser B} → Fits p R → Fits q R → Fits (if_next k p q) R
unfolding bind next_is
fits-if_next {R = R} k hp hq = record {
  at = λ ts n. next_out R hp hq ts n (sees k (slice_get ts n));
  sample = hq.sample;
}

-- ---- a token that must stand there

must_out : {A : Type 0} (R : Rule A) (f : TokenKind → Option A) (d : ℕ) → ((n : ℕ) → Sample (Gave f d) n) → (ts : List Token) (n : ℕ) (o : Option A) → of_token f (slice_get ts n) ≡ o →
    FitsOut (Gave f d) ts n (and_then (taken o n) (λ x m. must_be x ts m))
unfolding pure fail
must_out R f d s ts n None e = begun_by ts n (s n)
must_out R f d s ts n (Some x) e =
    let t = sees_token f x (slice_get ts n) e in
    found-token {R = Gave f d} d ts n t.0 x t.1 (λ a b k. record { kind = t.0.kind; gives = t.2; takes = k })

pub fits-must : {A : Type 0} (f : TokenKind → Option A) (d : ℕ) (k : TokenKind) (x : A) → f k ≡ Some x → is_else k ≡ false → Fits (must f) (Gave f d)
unfolding bind maybe must
fits-must f d k x e q =
    let s = sample-token {R = Gave f d} d k x q (λ a b t. record { kind = k; gives = e; takes = t }) in
    record {
      at = λ ts n. must_out (Gave f d) f d s ts n (of_token f (slice_get ts n)) refl;
      sample = s;
    }

abbrev pub TakesMark : TheMark → ℕ → Rule (Unit {0})
TakesMark m d a b u = Takes (Mark m) d a b

abbrev pub TakesWord : TheWord → ℕ → Rule (Unit {0})
TakesWord w d a b u = Takes (Word w) d a b

yes-true : (b : Bool) → yes_if b ≡ Some tt → b ≡ true
yes-true true h = refl
yes-true false h = cc

pub was-mark : (m : TheMark) (d : ℕ) (a b : Rest) (u : Unit {0}) → Was (is_mark m) d a b u → Takes (Mark m) d a b
was-mark m d a b u w = subst (λ (k : TokenKind). Takes k d a b) (is_mark-is m w.kind w.so) w.takes

pub was-word : (w : TheWord) (d : ℕ) (a b : Rest) (u : Unit {0}) → Was (is_word w) d a b u → Takes (Word w) d a b
was-word w d a b u h = subst (λ (k : TokenKind). Takes k d a b) (is_word-is w h.kind h.so) h.takes

pub fits-mark : (m : TheMark) (d : ℕ) → Fits (mark m) (TakesMark m d)
fits-mark m d =
    fits-wider (λ a b u g. was-mark m d a b u (record { kind = g.kind; so = yes-true (is_mark m g.kind) (let i : u ≡ tt = unit_is u in ap (λ (o : Option (Unit {0})). o) (g.gives ∙ ap (λ (v : Unit {0}). Some v) i)); takes = g.takes }))
    (fits-must (λ k. yes_if (is_mark m k)) d (Mark m) tt (ap yes_if (is_mark-same m)) refl)
  where
    unit_is : (u : Unit {0}) → u ≡ tt
    unit_is tt = refl

pub fits-word : (w : TheWord) (d : ℕ) → is_else (Word w) ≡ false → Fits (word w) (TakesWord w d)
fits-word w d q =
    fits-wider (λ a b u g. was-word w d a b u (record { kind = g.kind; so = yes-true (is_word w g.kind) (let i : u ≡ tt = unit_is u in ap (λ (o : Option (Unit {0})). o) (g.gives ∙ ap (λ (v : Unit {0}). Some v) i)); takes = g.takes }))
    (fits-must (λ k. yes_if (is_word w k)) d (Word w) tt (ap yes_if (is_word-same w)) q)
  where
    unit_is : (u : Unit {0}) → u ≡ tt
    unit_is tt = refl

-- ---- refusals of what is too deep

-- a token that begins something of the rule
abbrev pub Opens : {A : Type 0} → Rule A → (TokenKind → Bool) → Type 0
Opens {A = A} R k = (t : Token) → k t.kind ≡ true → (n : ℕ) → (s : Spelt) × (s.token ≡ t) × (more : List Spelt) × (x : A) × Quiet more × ((tail : List Spelt) → Quiet tail → R (rest n (s ∷ (more ++ tail))) (rest (past more (n + 1)) tail) x)

too_deep_out : {A : Type 0} (R : Rule A) (k : TokenKind → Bool) → Opens R k → (ts : List Token) (n : ℕ) → sees k (slice_get ts n) ≡ true → Begun R ts n (n + 1)
too_deep_out R k h ts n e =
    let t = sees_true k (slice_get ts n) e in
    let o = h t.0 t.2 n in
    record { used = o.0 ∷ []; more = o.2; value = o.3; stand = (t.1 ∙ ap (λ (z : Token). Some z) (sym o.1), tt); ends = refl; quiet = o.4; holds = o.5 }

-- no deeper: an opening token is too deep
pub fits-if_too_deep : {A : Type 0} {R : Rule A} (k : TokenKind → Bool) {q : Parser A} → Opens R k → Fits q R → Fits (if_next k too_deep q) R
unfolding bind next_is too_deep
fits-if_too_deep {R = R} k {q = q} h hq = record {
  at = λ ts n. go ts n (sees k (slice_get ts n)) refl;
  sample = hq.sample;
}
  where
    go : (ts : List Token) (n : ℕ) (b : Bool) → sees k (slice_get ts n) ≡ b → FitsOut R ts n (chosen too_deep q b ts n)
    go ts n true e = too_deep_out R k h ts n e
    go ts n false e = hq.at ts n

pub fits-no_deeper : {A : Type 0} {R : Rule A} (k : TokenKind → Bool) → Opens R k → ((n : ℕ) → Sample R n) → Fits (no_deeper {A = A} k) R
fits-no_deeper k h s = fits-if_too_deep k h (fits-fail s)

-- ---- where the next token stands

-- the position is that of the place
pub record Matches (p : Position) (a : Rest) : Type 0 where
  pub at : p.at ≡ number_of a
  pub line : p.line ≡ line_of a

-- the rule where the position is that of its first place
abbrev pub At : {A : Type 0} → Position → Rule A → Rule A
At p R a b x = Matches p a → R a b x

here_out : {A : Type 0} (R : Rule A) (ts : List Token) (n : ℕ) (o : Out A) → ((y : A) → o ≡ got y n → (a : Rest) → R a a y) → Sample R n → FitsOut (At (position (slice_get ts n) n) R) ts n o → FitsOut R ts n o
here_out {A = A} R ts n o idle s f = go o refl f
  where
    matches : (t : Spelt) (us tail : List Spelt) → slice_get ts n ≡ Some t.token → Matches (position (slice_get ts n) n) (rest n (t ∷ (us ++ tail)))
    matches t us tail e = record { at = refl; line = ap line_of_token e }

    begun : (k : ℕ) → Begun (At (position (slice_get ts n) n) R) ts n k → Begun R ts n k
    begun k b = begun_from k b b.used refl
      where
        begun_from : (k : ℕ) → (b : Begun (At (position (slice_get ts n) n) R) ts n k) → (us : List Spelt) → b.used ≡ us → Begun R ts n k
        begun_from k b [] e = subst (λ (i : ℕ). Begun R ts n i) (ap (λ (l : List Spelt). past l n) (sym e) ∙ b.ends) (begun_by ts n s)
        begun_from k b (t ∷ us) e =
            let st : Stand ts n (t ∷ us) = subst (Stand ts n) e b.stand in
            record {
              used = t ∷ us;
              more = b.more;
              value = b.value;
              stand = st;
              ends = ap (λ (l : List Spelt). past l n) (sym e) ∙ b.ends;
              quiet = b.quiet;
              holds = λ tail w. subst (λ (l : List Spelt). At (position (slice_get ts n) n) R (rest n (l ++ (b.more ++ tail))) (rest (past b.more k) tail) b.value) e (b.holds tail w) (matches t us (b.more ++ tail) st.0);
            }

    found : (y : A) (m : ℕ) → o ≡ got y m → Found (At (position (slice_get ts n) n) R) ts n y m → Found R ts n y m
    found y m i f = found_from f.used refl
      where
        found_from : (us : List Spelt) → f.used ≡ us → Found R ts n y m
        found_from [] e =
            let z : n ≡ m = ap (λ (l : List Spelt). past l n) (sym e) ∙ f.ends in
            record { used = []; stand = tt; ends = z; holds = λ tail w. subst (λ (j : ℕ). R (rest n tail) (rest j tail) y) z (idle y (i ∙ ap (λ (j : ℕ). got y j) (sym z)) (rest n tail)) }
        found_from (t ∷ us) e =
            let st : Stand ts n (t ∷ us) = subst (Stand ts n) e f.stand in
            record {
              used = t ∷ us;
              stand = st;
              ends = ap (λ (l : List Spelt). past l n) (sym e) ∙ f.ends;
              holds = λ tail w. subst (λ (l : List Spelt). At (position (slice_get ts n) n) R (rest n (l ++ tail)) (rest m tail) y) e (f.holds tail w) (matches t us tail st.0);
            }

    go : (p : Out A) → o ≡ p → FitsOut (At (position (slice_get ts n) n) R) ts n p → FitsOut R ts n p
    go (got y m) i f = found y m i f
    go (refused (syntax k)) i f = begun k f
    go (refused (deep k)) i f = begun (k + 1) f

-- where nothing is taken, what is read does not depend on the position
pub fits-here : {A : Type 0} {R : Rule A} {f : Position → Parser A} → ((n : ℕ) → Sample R n) →
    ((p : Position) (ts : List Token) (n : ℕ) (y : A) → f p ts n ≡ got y n → (a : Rest) → R a a y) →
    ((p : Position) → Fits (f p) (At p R)) → Fits (bind here f) R
unfolding bind here
fits-here {R = R} {f = f} s idle h = record {
  at = λ ts n. let p = position (slice_get ts n) n in here_out R ts n (f p ts n) (λ y e. idle p ts n y e) (s n) ((h p).at ts n);
  sample = s;
}

-- what takes a token always
pub never_idle : {A : Type 0} (R : Rule A) {f : Position → Parser A} → ((p : Position) → Consumes (f p)) →
    (p : Position) (ts : List Token) (n : ℕ) (y : A) → f p ts n ≡ got y n → (a : Rest) → R a a y
never_idle R h p ts n y e a = absurd (let lt = h p ts n y n e in omega arith)

-- ---- many

-- one more, or none
abbrev pub OneMore : {A : Type 0} → Rule A → Rule (Option A)
OneMore R a b None = a ≡ b
OneMore R a b (Some x) = R a b x

module _ {A : Type 0} (R : Rule A) (S : Rule (List A)) (none : (a : Rest) → S a a [])
    (more : (a b c : Rest) (x : A) (xs : List A) → R a b x → S b c xs → S a c (x ∷ xs)) (p : Parser (Option A)) (h : Fits p (OneMore R)) where
  fits_more : (q : Parser (List A)) → Fits q S → (o : Option A) → Fits (and_more q o) (After (OneMore R) o S)
  fits_more q hq None = fits-pure [] (λ b a e. subst (λ (z : Rest). S a z []) e (none a))
  fits_more q hq (Some x) = fits-bind hq (λ xs. fits-pure (x ∷ xs) (λ c b s a r. more a b c x xs r s))

  many_by_fits : (k : ℕ) → Fits (many_by p k) S
  unfolding many_by
  many_by_fits zero = fits-pure [] none
  many_by_fits (suc k) = fits-bind h (fits_more (many_by p k) (many_by_fits k))

  pub fits-many : Fits (many p) S
  unfolding many
  fits-many = record { at = λ ts n. (many_by_fits (length ts - n)).at ts n; sample = (many_by_fits zero).sample }
