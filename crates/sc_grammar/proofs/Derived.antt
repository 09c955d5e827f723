-- What the grammar derives is read so, or refused at its first token that is too deep.
use Rattle.std.proofs.Common.{◌+◌, ◌≡◌, refl, ap, ◌∙◌, subst, ℕ, suc, ◌≤◌, ◌<◌, arith, Bool, true, false, List, [], ◌∷◌, Option, Some, None}
use Rattle.std.specs.Prelude.{slice_get}
use Rattle.sc_tree.specs.declared.token.Token.{Token}
use Rattle.sc_tree.specs.declared.token.TokenKind.{TokenKind}
use Rattle.sc_tree.specs.declared.token.TokenKind.TheVariants.{Word, Mark}
use Rattle.sc_tree.specs.declared.token.Mark.{Mark as TheMark}
use Rattle.sc_tree.specs.declared.token.Word.{Word as TheWord}
use Rattle.sc_grammar.specs.declared.position.Position.{Position}
use Rattle.sc_grammar.specs.Rest.{Spelt, Rest, rest, number_of, line_of, Takes, takes, tokens_of}
use Rattle.sc_grammar.specs.Statements.{stands_before}
use Rattle.sc_grammar.proofs.Reading.{deep, got, refused, Parser, and_then, bind, pure, position, here, of_token, taken, maybe, yes_if, takes_if, sees, next_is, must_be, must, too_deep, chosen, if_taken, if_next, given_or, if_given, many, mark, word, is_mark, is_word}
use Rattle.sc_grammar.proofs.Local.{Advances, many-step}
use Rattle.sc_grammar.proofs.Apart.{is_mark-same, is_word-same}

-- ---- where tokens stand

-- what is left are the tokens from the place on, to their end
abbrev pub Stands : List Token → Rest → Type 0
Stands ts (rest n us) = (q : ℕ) → slice_get ts (n + q) ≡ slice_get (tokens_of us) q

abbrev pub place : Rest → ℕ
place (rest n us) = n

first : (ts : List Token) (n : ℕ) (us : List Spelt) → Stands ts (rest n us) → slice_get ts n ≡ slice_get (tokens_of us) 0
first ts n us h = let e : n + 0 ≡ n = omega arith in subst (λ (i : ℕ). slice_get ts i ≡ slice_get (tokens_of us) 0) e (h 0)

onward : (ts : List Token) (n : ℕ) (s : Spelt) (us : List Spelt) → Stands ts (rest n (s ∷ us)) → Stands ts (rest (n + 1) us)
onward ts n s us h = λ q. let e : n + suc q ≡ n + 1 + q = omega arith in subst (λ (i : ℕ). slice_get ts i ≡ slice_get (tokens_of us) q) e (h (suc q))

-- ---- depth

-- the tokens up to a place are no deeper than the limit
pub data Even (limit : ℕ) : Rest → Rest → Type 0 where
  even : {a : Rest} → Even limit a a
  more_even : {n : ℕ} {s : Spelt} {us : List Spelt} {b : Rest} → s.depth ≤ limit → Even limit (rest (n + 1) us) b → Even limit (rest n (s ∷ us)) b

-- the first token that is deeper than the limit stands there
pub data Sinks (limit : ℕ) : Rest → ℕ → Type 0 where
  sinks : {n : ℕ} {s : Spelt} {us : List Spelt} → limit < s.depth → Sinks limit (rest n (s ∷ us)) n
  sinks_later : {n k : ℕ} {s : Spelt} {us : List Spelt} → s.depth ≤ limit → Sinks limit (rest (n + 1) us) k → Sinks limit (rest n (s ∷ us)) k

even-even : {limit : ℕ} (a b c : Rest) → Even limit a b → Even limit b c → Even limit a c
even-even a b c even h = h
even-even a b c (more_even {n = n} {us = us} le g) h = more_even le (even-even (rest (n + 1) us) b c g h)

even-sinks : {limit : ℕ} (a b : Rest) (k : ℕ) → Even limit a b → Sinks limit b k → Sinks limit a k
even-sinks a b k even h = h
even-sinks a b k (more_even {n = n} {us = us} le g) h = sinks_later le (even-sinks (rest (n + 1) us) b k g h)

-- ---- reading as derived

-- what the next token gives
abbrev pub next_gives : {A : Type 0} → (TokenKind → Option A) → Rest → Option A
next_gives f (rest n []) = None
next_gives f (rest n (s ∷ us)) = f s.token.kind

abbrev pub place_at : Rest → Position
place_at a = record { at = number_of a; line = line_of a }

-- the next token begins something at this depth
pub data Opened (k : TokenKind → Bool) (d : ℕ) : Rest → Type 0 where
  opened : {n : ℕ} {s : Spelt} {us : List Spelt} → k s.token.kind ≡ true → d ≤ s.depth → Opened k d (rest n (s ∷ us))

module _ (limit : ℕ) (ts : List Token) where
  -- between two places the value is read, or the first token there that is too deep is refused
  pub data Reads {A : Type 0} (a b : Rest) (x : A) (p : Parser A) : Type 0 where
    read : Stands ts b → Even limit a b → p ts (place a) ≡ got x (place b) → Reads a b x p
    refuse : (k : ℕ) → Sinks limit a k → p ts (place a) ≡ refused (deep k) → Reads a b x p

  bind_read : {A B : Type 0} (p : Parser A) (f : A → Parser B) (a b c : Rest) (x : A) (y : B) →
      Even limit a b → p ts (place a) ≡ got x (place b) → Reads b c y (f x) → Reads a c y (bind p f)
  unfolding bind
  bind_read p f a b c x y d e (read s2 d2 e2) = read s2 (even-even a b c d d2) (ap (λ o. and_then o (λ z m. f z ts m)) e ∙ e2)
  bind_read p f a b c x y d e (refuse k z e2) = refuse k (even-sinks a b k d z) (ap (λ o. and_then o (λ z m. f z ts m)) e ∙ e2)

  pub reads-bind : {A B : Type 0} {p : Parser A} (f : A → Parser B) {a b c : Rest} {x : A} {y : B} →
      Reads a b x p → (Stands ts b → Reads b c y (f x)) → Reads a c y (bind p f)
  unfolding bind
  reads-bind {p = p} f {a = a} {b = b} {c = c} {x = x} {y = y} (read s d e) h = bind_read p f a b c x y d e (h s)
  reads-bind f (refuse k z e) h = refuse k z (ap (λ o. and_then o (λ z m. f z ts m)) e)

  pub reads-pure : {A : Type 0} {a : Rest} {x : A} → Stands ts a → Reads a a x (pure x)
  unfolding pure
  reads-pure s = read s even refl

  -- an equal value
  pub reads-value : {A : Type 0} {a b : Rest} {x y : A} {p : Parser A} → x ≡ y → Reads a b x p → Reads a b y p
  reads-value {a = a} {b = b} {p = p} e h = subst (λ z. Reads a b z p) e h

  -- a parser that gives the same there
  pub same_there : {A : Type 0} {a b : Rest} {x : A} {p q : Parser A} → q ts (place a) ≡ p ts (place a) → Reads a b x p → Reads a b x q
  same_there i (read s d e) = read s d (i ∙ e)
  same_there i (refuse k z e) = refuse k z (i ∙ e)

  -- ---- the next token

  position_is : (n : ℕ) (us : List Spelt) → Stands ts (rest n us) → position (slice_get ts n) n ≡ place_at (rest n us)
  position_is n [] s = ap (λ o. position o n) (first ts n [] s)
  position_is n (t ∷ us) s = ap (λ o. position o n) (first ts n (t ∷ us) s)

  pub reads-here : {B : Type 0} (f : Position → Parser B) {a c : Rest} {y : B} → Stands ts a →
      Reads a c y (f (place_at a)) → Reads a c y (bind here f)
  unfolding bind here
  reads-here f {a = rest n us} s h = same_there (ap (λ p. f p ts n) (position_is n us s)) h

  gives_is : {A : Type 0} (f : TokenKind → Option A) (n : ℕ) (us : List Spelt) → Stands ts (rest n us) → of_token f (slice_get ts n) ≡ next_gives f (rest n us)
  gives_is f n [] s = ap (of_token f) (first ts n [] s)
  gives_is f n (t ∷ us) s = ap (of_token f) (first ts n (t ∷ us) s)

  sees_is : (k : TokenKind → Bool) (n : ℕ) (us : List Spelt) → Stands ts (rest n us) → sees k (slice_get ts n) ≡ stands_before k (rest n us)
  sees_is k n [] s = ap (sees k) (first ts n [] s)
  sees_is k n (t ∷ us) s = ap (sees k) (first ts n (t ∷ us) s)

  take_one : {A : Type 0} (f : TokenKind → Option A) (t : Spelt) (n : ℕ) (us : List Spelt) (x : A) → f t.token.kind ≡ Some x → t.depth ≤ limit → Stands ts (rest n (t ∷ us)) →
      Reads (rest n (t ∷ us)) (rest (n + 1) us) (Some x) (maybe f)
  unfolding maybe
  take_one f t n us x e le s =
      read (onward ts n t us s) (more_even le even) (ap (λ o. taken (of_token f o) n) (first ts n (t ∷ us) s) ∙ ap (λ o. taken o n) e)

  pub reads-maybe : {A : Type 0} (f : TokenKind → Option A) {kind : TokenKind} {d : ℕ} {a b : Rest} {x : A} → f kind ≡ Some x → Takes kind d a b → d ≤ limit → Stands ts a →
      Reads a b (Some x) (maybe f)
  reads-maybe f {kind = kind} {d = d} {x = x} e (takes {place = at} {line = line} {before = n} {left = us}) le s =
      take_one f (record { token = record { kind = kind; at = at; line = line }; depth = d }) n us x e le s

  pub reads-maybe_not : {A : Type 0} (f : TokenKind → Option A) {a : Rest} → next_gives f a ≡ None → Stands ts a → Reads a a None (maybe f)
  unfolding maybe
  reads-maybe_not f {a = rest n us} e s = read s even (ap (λ o. taken o n) (gives_is f n us s ∙ e))

  pub reads-given : {A B : Type 0} (f : TokenKind → Option A) (g : A → Parser B) (q : Parser B) {kind : TokenKind} {d : ℕ} {a b c : Rest} {x : A} {y : B} →
      f kind ≡ Some x → Takes kind d a b → d ≤ limit → Stands ts a → (Stands ts b → Reads b c y (g x)) → Reads a c y (if_given f g q)
  reads-given f g q e t le s h = reads-bind (given_or g q) (reads-maybe f e t le s) h

  pub reads-not_given : {A B : Type 0} (f : TokenKind → Option A) (g : A → Parser B) {q : Parser B} {a c : Rest} {y : B} →
      next_gives f a ≡ None → Stands ts a → Reads a c y q → Reads a c y (if_given f g q)
  reads-not_given f g {q = q} e s h = reads-bind (given_or g q) (reads-maybe_not f e s) (λ _. h)

  yes_none : (k : TokenKind → Bool) (a : Rest) → stands_before k a ≡ false → next_gives (λ z. yes_if (k z)) a ≡ None
  yes_none k (rest n []) e = refl
  yes_none k (rest n (t ∷ us)) e = ap yes_if e

  pub reads-takes_if : (k : TokenKind → Bool) {kind : TokenKind} {d : ℕ} {a b : Rest} → k kind ≡ true → Takes kind d a b → d ≤ limit → Stands ts a → Reads a b true (takes_if k)
  unfolding takes_if
  reads-takes_if k e t le s = reads-bind _ (reads-maybe (λ z. yes_if (k z)) {x = tt} (ap yes_if e) t le s) (λ r. reads-pure r)

  pub reads-takes_not : (k : TokenKind → Bool) {a : Rest} → stands_before k a ≡ false → Stands ts a → Reads a a false (takes_if k)
  unfolding takes_if
  reads-takes_not k {a = a} e s = reads-bind _ (reads-maybe_not (λ z. yes_if (k z)) (yes_none k a e) s) (λ r. reads-pure r)

  pub reads-taken : {B : Type 0} (k : TokenKind → Bool) {p : Parser B} (q : Parser B) {kind : TokenKind} {d : ℕ} {a b c : Rest} {y : B} →
      k kind ≡ true → Takes kind d a b → d ≤ limit → Stands ts a → (Stands ts b → Reads b c y p) → Reads a c y (if_taken k p q)
  reads-taken k {p = p} q e t le s h = reads-bind (chosen p q) (reads-takes_if k e t le s) h

  pub reads-not_taken : {B : Type 0} (k : TokenKind → Bool) (p : Parser B) {q : Parser B} {a c : Rest} {y : B} →
      stands_before k a ≡ false → Stands ts a → Reads a c y q → Reads a c y (if_taken k p q)
  reads-not_taken k p {q = q} e s h = reads-bind (chosen p q) (reads-takes_not k e s) (λ _. h)

  pub reads-next : {B : Type 0} (k : TokenKind → Bool) {p : Parser B} (q : Parser B) {a c : Rest} {y : B} →
      stands_before k a ≡ true → Stands ts a → Reads a c y p → Reads a c y (if_next k p q)
  unfolding bind next_is
  reads-next k {p = p} q {a = rest n us} e s h = same_there (ap (λ b. chosen p q b ts n) (sees_is k n us s ∙ e)) h

  pub reads-not_next : {B : Type 0} (k : TokenKind → Bool) (p : Parser B) {q : Parser B} {a c : Rest} {y : B} →
      stands_before k a ≡ false → Stands ts a → Reads a c y q → Reads a c y (if_next k p q)
  unfolding bind next_is
  reads-not_next k p {q = q} {a = rest n us} e s h = same_there (ap (λ b. chosen p q b ts n) (sees_is k n us s ∙ e)) h

  -- ---- a token that must stand there

  pub reads-must : {A B : Type 0} (f : TokenKind → Option A) (g : A → Parser B) {kind : TokenKind} {d : ℕ} {a b c : Rest} {x : A} {y : B} →
      f kind ≡ Some x → Takes kind d a b → d ≤ limit → Stands ts a → (Stands ts b → Reads b c y (g x)) → Reads a c y (bind (must f) g)
  unfolding must
  reads-must f g e t le s h = reads-bind g (reads-bind must_be (reads-maybe f e t le s) (λ r. reads-pure r)) h

  pub reads-mark : {B : Type 0} (m : TheMark) (g : Unit {0} → Parser B) {d : ℕ} {a b c : Rest} {y : B} →
      Takes (Mark m) d a b → d ≤ limit → Stands ts a → (Stands ts b → Reads b c y (g tt)) → Reads a c y (bind (mark m) g)
  reads-mark m g t le s h = reads-must (λ k. yes_if (is_mark m k)) g {x = tt} (ap yes_if (is_mark-same m)) t le s h

  pub reads-word : {B : Type 0} (w : TheWord) (g : Unit {0} → Parser B) {d : ℕ} {a b c : Rest} {y : B} →
      Takes (Word w) d a b → d ≤ limit → Stands ts a → (Stands ts b → Reads b c y (g tt)) → Reads a c y (bind (word w) g)
  reads-word w g t le s h = reads-must (λ k. yes_if (is_word w k)) g {x = tt} (ap yes_if (is_word-same w)) t le s h

  pub reads-taken_mark : {B : Type 0} (m : TheMark) {p : Parser B} (q : Parser B) {d : ℕ} {a b c : Rest} {y : B} →
      Takes (Mark m) d a b → d ≤ limit → Stands ts a → (Stands ts b → Reads b c y p) → Reads a c y (if_taken (is_mark m) p q)
  reads-taken_mark m q t le s h = reads-taken (is_mark m) q (is_mark-same m) t le s h

  pub reads-taken_word : {B : Type 0} (w : TheWord) {p : Parser B} (q : Parser B) {d : ℕ} {a b c : Rest} {y : B} →
      Takes (Word w) d a b → d ≤ limit → Stands ts a → (Stands ts b → Reads b c y p) → Reads a c y (if_taken (is_word w) p q)
  reads-taken_word w q t le s h = reads-taken (is_word w) q (is_word-same w) t le s h

  -- ---- what is too deep

  deep_there : {A : Type 0} {n d : ℕ} {t : Spelt} {us : List Spelt} {c : Rest} {y : A} → d ≤ t.depth → limit < d → Reads (rest n (t ∷ us)) c y (too_deep {A = A})
  unfolding too_deep
  deep_there {n = n} le lt = refuse n (sinks (omega arith)) refl

  pub reads-too_deep : {A : Type 0} (k : TokenKind → Bool) (q : Parser A) {d : ℕ} {a c : Rest} {y : A} → Opened k d a → limit < d → Stands ts a →
      Reads a c y (if_next k too_deep q)
  reads-too_deep k q (opened e le) lt s = reads-next k q e s (deep_there le lt)

  -- ---- many

  module _ {A : Type 0} (p : Parser (Option A)) (h : Advances p) where
    pub reads-none : {a : Rest} → Stands ts a → Reads a a None p → Reads a a [] (many p)
    reads-none {a = a} s g = same_there (many-step h ts (place a)) (reads-bind _ g (λ r. reads-pure r))

    pub reads-more : {a b c : Rest} {x : A} {xs : List A} → Reads a b (Some x) p → (Stands ts b → Reads b c xs (many p)) →
        Reads a c (x ∷ xs) (many p)
    reads-more {a = a} g k = same_there (many-step h ts (place a)) (reads-bind _ g (λ r. reads-bind _ (k r) (λ z. reads-pure z)))
