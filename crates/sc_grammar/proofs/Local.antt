-- What reading gives depends only on the tokens that it looked at, and how far it moves.
use Rattle.std.proofs.lemmas.Option.{slice_get_past}
use Rattle.std.proofs.Common.{◌+◌, ◌-◌, length, max, ◌≡◌, refl, sym, ap, ◌∙◌, ℕ, zero, suc, ◌≤◌, ◌<◌, arith, Bool, true, false, List, [], ◌∷◌, Option, Some, None}
use Rattle.std.specs.Prelude.{slice_get}
use Rattle.sc_tree.specs.declared.token.Token.{Token}
use Rattle.sc_tree.specs.declared.token.TokenKind.{TokenKind}
use Rattle.sc_grammar.specs.declared.position.Position.{Position}
use Rattle.sc_grammar.proofs.Reading.{syntax, deep, Out, got, refused, Parser, and_then, bind, pure, fail, position, here, of_token, taken, maybe, yes_if, is_given, takes_if, sees, next_is, must_be, must, too_deep, chosen, if_taken, if_next, no_deeper, given_or, if_given, and_more, many_by, many}

-- ---- locality

abbrev pub Same : List Token → List Token → ℕ → Type 0
Same ts us k = (q : ℕ) → q ≤ k → slice_get us q ≡ slice_get ts q

-- the last place that was looked at
abbrev pub reach : {A : Type 0} → Out A → ℕ
reach (got x m) = m
reach (refused (syntax k)) = k
reach (refused (deep k)) = k

pub record Local {A : Type 0} (p : Parser A) : Type 0 where
  pub grows : (ts : List Token) (n : ℕ) → n ≤ reach (p ts n)
  pub same : (ts us : List Token) (n : ℕ) → Same ts us (reach (p ts n)) → p us n ≡ p ts n

bind_grows : {A B : Type 0} (f : A → Parser B) → ((x : A) → Local (f x)) → (ts : List Token) (o : Out A) → reach o ≤ reach (and_then o (λ x m. f x ts m))
bind_grows f hf ts (got x m) = (hf x).grows ts m
bind_grows f hf ts (refused (syntax k)) = omega arith
bind_grows f hf ts (refused (deep k)) = omega arith

bind_same : {A B : Type 0} (f : A → Parser B) → ((x : A) → Local (f x)) → (ts us : List Token) (o : Out A) → Same ts us (reach (and_then o (λ x m. f x ts m))) → and_then o (λ x m. f x us m) ≡ and_then o (λ x m. f x ts m)
bind_same f hf ts us (got x m) h = (hf x).same ts us m h
bind_same f hf ts us (refused r) h = refl

pub local-bind : {A B : Type 0} {p : Parser A} {f : A → Parser B} → Local p → ((x : A) → Local (f x)) → Local (bind p f)
unfolding bind
local-bind {p = p} {f = f} hp hf = record {
  grows = λ ts n. let a = hp.grows ts n in let b = bind_grows f hf ts (p ts n) in omega arith;
  same = λ ts us n h.
      let b = bind_grows f hf ts (p ts n) in
      let e : p us n ≡ p ts n = hp.same ts us n (λ q le. h q (omega arith)) in
      ap (λ o. and_then o (λ x m. f x us m)) e ∙ bind_same f hf ts us (p ts n) h;
}

pub local-pure : {A : Type 0} (x : A) → Local (pure x)
unfolding pure
local-pure x = record { grows = λ ts n. omega arith; same = λ ts us n h. refl }

pub local-fail : {A : Type 0} → Local (fail {A = A})
unfolding fail
local-fail = record { grows = λ ts n. omega arith; same = λ ts us n h. refl }

pub local-too_deep : {A : Type 0} → Local (too_deep {A = A})
unfolding too_deep
local-too_deep = record { grows = λ ts n. omega arith; same = λ ts us n h. refl }

pub local-here : Local here
unfolding here
local-here = record {
  grows = λ ts n. omega arith;
  same = λ ts us n h. ap (λ o. got (position o n) n) (h n (omega arith));
}

taken_grows : {A : Type 0} (o : Option A) (n : ℕ) → n ≤ reach (taken o n)
taken_grows None n = omega arith
taken_grows (Some x) n = omega arith

pub local-maybe : {A : Type 0} (f : TokenKind → Option A) → Local (maybe f)
unfolding maybe
local-maybe f = record {
  grows = λ ts n. taken_grows (of_token f (slice_get ts n)) n;
  same = λ ts us n h.
      let g = taken_grows (of_token f (slice_get ts n)) n in
      ap (λ o. taken (of_token f o) n) (h n (omega arith));
}

pub local-next_is : (k : TokenKind → Bool) → Local (next_is k)
unfolding next_is
local-next_is k = record {
  grows = λ ts n. omega arith;
  same = λ ts us n h. ap (λ o. got (sees k o) n) (h n (omega arith));
}

pub local-takes_if : (k : TokenKind → Bool) → Local (takes_if k)
unfolding takes_if
local-takes_if k = local-bind (local-maybe _) (λ o. local-pure _)

local-chosen : {A : Type 0} {p q : Parser A} → Local p → Local q → (b : Bool) → Local (chosen p q b)
local-chosen hp hq true = hp
local-chosen hp hq false = hq

pub local-if_taken : {A : Type 0} (k : TokenKind → Bool) {p q : Parser A} → Local p → Local q → Local (if_taken k p q)
local-if_taken k hp hq = local-bind (local-takes_if k) (λ b. local-chosen hp hq b)

pub local-if_next : {A : Type 0} (k : TokenKind → Bool) {p q : Parser A} → Local p → Local q → Local (if_next k p q)
local-if_next k hp hq = local-bind (local-next_is k) (λ b. local-chosen hp hq b)

local-given_or : {A B : Type 0} {g : A → Parser B} {q : Parser B} → ((x : A) → Local (g x)) → Local q → (o : Option A) → Local (given_or g q o)
local-given_or hg hq None = hq
local-given_or hg hq (Some x) = hg x

pub local-if_given : {A B : Type 0} (f : TokenKind → Option A) {g : A → Parser B} {q : Parser B} → ((x : A) → Local (g x)) → Local q → Local (if_given f g q)
local-if_given f hg hq = local-bind (local-maybe f) (λ o. local-given_or hg hq o)

local-must_be : {A : Type 0} (o : Option A) → Local (must_be o)
local-must_be None = local-fail
local-must_be (Some x) = local-pure x

pub local-must : {A : Type 0} (f : TokenKind → Option A) → Local (must f)
unfolding must
local-must f = local-bind (local-maybe f) local-must_be

pub local-no_deeper : {A : Type 0} (k : TokenKind → Bool) → Local (no_deeper {A = A} k)
local-no_deeper k = local-if_next k local-too_deep local-fail

-- ---- how far reading moves

-- what is read takes at least one token
abbrev pub Consumes : {A : Type 0} → Parser A → Type 0
Consumes {A = A} p = (ts : List Token) (n : ℕ) (x : A) (m : ℕ) → p ts n ≡ got x m → n < m

-- where one more is read, it takes at least one token, and where no token is left, there is none
pub record Advances {A : Type 0} (p : Parser (Option A)) : Type 0 where
  pub local : Local p
  pub moves : (ts : List Token) (n : ℕ) (x : A) (m : ℕ) → p ts n ≡ got (Some x) m → n < m
  pub stops : (ts : List Token) (n : ℕ) → slice_get ts n ≡ None → p ts n ≡ got None n

got_ends : {A : Type 0} (o : Out A) (x : A) (m n : ℕ) → n ≤ reach o → o ≡ got x m → n ≤ m
got_ends (got y k) x m n h e = let i : k ≡ m = cc in omega arith
got_ends (refused r) x m n h e = cc

-- what is read does not move back
pub local_moves : {A : Type 0} {p : Parser A} → Local p → (ts : List Token) (n : ℕ) (x : A) (m : ℕ) → p ts n ≡ got x m → n ≤ m
local_moves {p = p} h ts n x m e = got_ends (p ts n) x m n (h.grows ts n) e

pub advances-none : {A : Type 0} → Advances (pure {A = Option A} None)
unfolding pure
advances-none = record { local = local-pure None; moves = λ ts n x m e. cc; stops = λ ts n e. refl }

if_taken_moves : {A : Type 0} (p q : Parser (Option A)) → Local p → ((ts : List Token) (n : ℕ) (x : A) (m : ℕ) → q ts n ≡ got (Some x) m → n < m) →
    (ts : List Token) (n : ℕ) (x : A) (m : ℕ) (o : Option (Unit {0})) → and_then (and_then (taken o n) (λ y j. pure (is_given y) ts j)) (λ b j. chosen p q b ts j) ≡ got (Some x) m → n < m
unfolding pure
if_taken_moves p q hp hq ts n x m None e = hq ts n x m e
if_taken_moves p q hp hq ts n x m (Some tt) e = let le = local_moves hp ts (n + 1) (Some x) m e in omega arith

pub advances-if_taken : {A : Type 0} (k : TokenKind → Bool) {p q : Parser (Option A)} → Local p → Advances q → Advances (if_taken k p q)
unfolding bind maybe takes_if pure
advances-if_taken k {p = p} {q = q} hp hq = record {
  local = local-if_taken k hp hq.local;
  moves = λ ts n x m e. if_taken_moves p q hp hq.moves ts n x m (of_token (λ z. yes_if (k z)) (slice_get ts n)) e;
  stops = λ ts n e. ap (λ o. and_then (and_then (taken (of_token (λ z. yes_if (k z)) o) n) (λ y j. pure (is_given y) ts j)) (λ b j. chosen p q b ts j)) e ∙ hq.stops ts n e;
}

given_moves : {A B : Type 0} (g : A → Parser (Option B)) (q : Parser (Option B)) → ((x : A) → Local (g x)) → ((ts : List Token) (n : ℕ) (y : B) (m : ℕ) → q ts n ≡ got (Some y) m → n < m) →
    (ts : List Token) (n : ℕ) (y : B) (m : ℕ) (o : Option A) → and_then (taken o n) (λ z j. given_or g q z ts j) ≡ got (Some y) m → n < m
given_moves g q hg hq ts n y m None e = hq ts n y m e
given_moves g q hg hq ts n y m (Some x) e = let le = local_moves (hg x) ts (n + 1) (Some y) m e in omega arith

pub advances-if_given : {A B : Type 0} (f : TokenKind → Option A) {g : A → Parser (Option B)} {q : Parser (Option B)} → ((x : A) → Local (g x)) → Advances q → Advances (if_given f g q)
unfolding bind maybe
advances-if_given f {g = g} {q = q} hg hq = record {
  local = local-if_given f hg hq.local;
  moves = λ ts n y m e. given_moves g q hg hq.moves ts n y m (of_token f (slice_get ts n)) e;
  stops = λ ts n e. ap (λ o. and_then (taken (of_token f o) n) (λ z j. given_or g q z ts j)) e ∙ hq.stops ts n e;
}

pub advances-here : {A : Type 0} {f : Position → Parser (Option A)} → ((p : Position) → Advances (f p)) → Advances (bind here f)
unfolding bind here
advances-here {f = f} h = record {
  local = local-bind local-here (λ p. (h p).local);
  moves = λ ts n x m e. (h (position (slice_get ts n) n)).moves ts n x m e;
  stops = λ ts n e. (h (position (slice_get ts n) n)).stops ts n e;
}

next_moves : {A : Type 0} (p : Parser (Option A)) → ((ts : List Token) (n : ℕ) (x : A) (m : ℕ) → p ts n ≡ got (Some x) m → n < m) →
    (ts : List Token) (n : ℕ) (x : A) (m : ℕ) (b : Bool) → chosen p (pure None) b ts n ≡ got (Some x) m → n < m
unfolding pure
next_moves p h ts n x m true e = h ts n x m e
next_moves p h ts n x m false e = cc

-- a choice by a token that stands there
pub advances-if_next : {A : Type 0} (k : TokenKind → Bool) {p : Parser (Option A)} → Local p → ((ts : List Token) (n : ℕ) (x : A) (m : ℕ) → p ts n ≡ got (Some x) m → n < m) → Advances (if_next k p (pure None))
unfolding bind next_is pure
advances-if_next k {p = p} hp h = record {
  local = local-if_next k hp (local-pure None);
  moves = λ ts n x m e. next_moves p h ts n x m (sees k (slice_get ts n)) e;
  stops = λ ts n e. ap (λ o. chosen p (pure None) (sees k o) ts n) e;
}

-- ---- taking at least one token

bind_first : {A B : Type 0} (f : A → Parser B) → ((x : A) → Local (f x)) → (ts : List Token) (n : ℕ) (o : Out A) → ((x : A) (m : ℕ) → o ≡ got x m → n < m) → (y : B) (k : ℕ) → and_then o (λ x m. f x ts m) ≡ got y k → n < k
bind_first f hf ts n (got x m) h y k e = let a = h x m refl in let b = local_moves (hf x) ts m y k e in omega arith
bind_first f hf ts n (refused r) h y k e = cc

-- the first part takes one
pub consumes-first : {A B : Type 0} {p : Parser A} {f : A → Parser B} → Consumes p → ((x : A) → Local (f x)) → Consumes (bind p f)
unfolding bind
consumes-first {p = p} {f = f} hp hf ts n y k e = bind_first f hf ts n (p ts n) (λ x m i. hp ts n x m i) y k e

bind_second : {A B : Type 0} (f : A → Parser B) → ((x : A) → Consumes (f x)) → (ts : List Token) (n : ℕ) (o : Out A) → ((x : A) (m : ℕ) → o ≡ got x m → n ≤ m) → (y : B) (k : ℕ) → and_then o (λ x m. f x ts m) ≡ got y k → n < k
bind_second f hf ts n (got x m) h y k e = let a = h x m refl in let b = hf x ts m y k e in omega arith
bind_second f hf ts n (refused r) h y k e = cc

-- the second part takes one
pub consumes-second : {A B : Type 0} {p : Parser A} {f : A → Parser B} → Local p → ((x : A) → Consumes (f x)) → Consumes (bind p f)
unfolding bind
consumes-second {p = p} {f = f} hp hf ts n y k e = bind_second f hf ts n (p ts n) (λ x m i. local_moves hp ts n x m i) y k e

pub consumes-fail : {A : Type 0} → Consumes (fail {A = A})
unfolding fail
consumes-fail ts n x m e = cc

pub consumes-too_deep : {A : Type 0} → Consumes (too_deep {A = A})
unfolding too_deep
consumes-too_deep ts n x m e = cc

must_moves : {A : Type 0} (ts : List Token) (n : ℕ) (o : Option A) (x : A) (m : ℕ) → and_then (taken o n) (λ y j. must_be y ts j) ≡ got x m → n < m
unfolding pure fail
must_moves ts n None x m e = cc
must_moves ts n (Some y) x m e = let i : n + 1 ≡ m = cc in omega arith

pub consumes-must : {A : Type 0} (f : TokenKind → Option A) → Consumes (must f)
unfolding bind maybe must
consumes-must f ts n x m e = must_moves ts n (of_token f (slice_get ts n)) x m e

taken_first : {A : Type 0} (p q : Parser A) → Local p → Consumes q → (ts : List Token) (n : ℕ) (x : A) (m : ℕ) (o : Option (Unit {0})) → and_then (and_then (taken o n) (λ y j. pure (is_given y) ts j)) (λ b j. chosen p q b ts j) ≡ got x m → n < m
unfolding pure
taken_first p q hp hq ts n x m None e = hq ts n x m e
taken_first p q hp hq ts n x m (Some tt) e = let le = local_moves hp ts (n + 1) x m e in omega arith

pub consumes-if_taken : {A : Type 0} (k : TokenKind → Bool) {p q : Parser A} → Local p → Consumes q → Consumes (if_taken k p q)
unfolding bind maybe takes_if
consumes-if_taken k {p = p} {q = q} hp hq ts n x m e = taken_first p q hp hq ts n x m (of_token (λ z. yes_if (k z)) (slice_get ts n)) e

given_first : {A B : Type 0} (g : A → Parser B) (q : Parser B) → ((x : A) → Local (g x)) → Consumes q → (ts : List Token) (n : ℕ) (y : B) (m : ℕ) (o : Option A) → and_then (taken o n) (λ z j. given_or g q z ts j) ≡ got y m → n < m
given_first g q hg hq ts n y m None e = hq ts n y m e
given_first g q hg hq ts n y m (Some x) e = let le = local_moves (hg x) ts (n + 1) y m e in omega arith

pub consumes-if_given : {A B : Type 0} (f : TokenKind → Option A) {g : A → Parser B} {q : Parser B} → ((x : A) → Local (g x)) → Consumes q → Consumes (if_given f g q)
unfolding bind maybe
consumes-if_given f {g = g} {q = q} hg hq ts n y m e = given_first g q hg hq ts n y m (of_token f (slice_get ts n)) e

next_first : {A : Type 0} (p q : Parser A) → Consumes p → Consumes q → (ts : List Token) (n : ℕ) (x : A) (m : ℕ) (b : Bool) → chosen p q b ts n ≡ got x m → n < m
next_first p q hp hq ts n x m true e = hp ts n x m e
next_first p q hp hq ts n x m false e = hq ts n x m e

pub consumes-if_next : {A : Type 0} (k : TokenKind → Bool) {p q : Parser A} → Consumes p → Consumes q → Consumes (if_next k p q)
unfolding bind next_is
consumes-if_next k {p = p} {q = q} hp hq ts n x m e = next_first p q hp hq ts n x m (sees k (slice_get ts n)) e

pub consumes-no_deeper : {A : Type 0} (k : TokenKind → Bool) → Consumes (no_deeper {A = A} k)
consumes-no_deeper k = consumes-if_next k consumes-too_deep consumes-fail

-- ---- many

more_local : {A : Type 0} {q : Parser (List A)} → Local q → (o : Option A) → Local (and_more q o)
more_local h None = local-pure []
more_local h (Some x) = local-bind h (λ xs. local-pure (x ∷ xs))

many_by_local : {A : Type 0} {p : Parser (Option A)} → Local p → (k : ℕ) → Local (many_by p k)
unfolding many_by
many_by_local h zero = local-pure []
many_by_local {p = p} h (suc k) = local-bind h (more_local (many_by_local h k))

-- a turn for each token is enough
enough_more : {A : Type 0} (q r : Parser (List A)) (ts : List Token) (n : ℕ) (o : Out (Option A)) → ((x : A) (m : ℕ) → o ≡ got (Some x) m → q ts m ≡ r ts m) → and_then o (λ x m. and_more q x ts m) ≡ and_then o (λ x m. and_more r x ts m)
unfolding bind pure
enough_more q r ts n (got None m) h = refl
enough_more q r ts n (got (Some x) m) h = ap (λ o. and_then o (λ xs j. got (x ∷ xs) j)) (h x m refl)
enough_more q r ts n (refused z) h = refl

many-enough : {A : Type 0} {p : Parser (Option A)} → Advances p → (ts : List Token) (k j n : ℕ) → length ts ≤ n + k → length ts ≤ n + j → many_by p j ts n ≡ many_by p k ts n
unfolding many_by bind pure
many-enough h ts zero zero n a b = refl
many-enough {p = p} h ts zero (suc j) n a b = ap (λ o. and_then o (λ x m. and_more (many_by p j) x ts m)) (h.stops ts n (slice_get_past ts n (omega arith)))
many-enough {p = p} h ts (suc k) zero n a b = sym (ap (λ o. and_then o (λ x m. and_more (many_by p k) x ts m)) (h.stops ts n (slice_get_past ts n (omega arith))))
many-enough {p = p} h ts (suc k) (suc j) n a b =
    enough_more (many_by p j) (many_by p k) ts n (p ts n) (λ x m e. let lt = h.moves ts n x m e in many-enough h ts k j m (omega arith) (omega arith))

-- one more, and then many
pub many-step : {A : Type 0} {p : Parser (Option A)} → Advances p → (ts : List Token) (n : ℕ) → many p ts n ≡ bind p (and_more (many p)) ts n
unfolding many many_by bind
many-step {p = p} h ts n =
    many-enough h ts (suc (length ts)) (length ts - n) n (omega arith) (omega arith)
    ∙ enough_more (many_by p (length ts)) (many p) ts n (p ts n) (λ x m e. let lt = h.moves ts n x m e in many-enough h ts (length ts - m) (length ts) m (omega arith) (omega arith))

pub local-many : {A : Type 0} {p : Parser (Option A)} → Advances p → Local (many p)
unfolding many
local-many {p = p} h = record {
  grows = λ ts n. (many_by_local h.local (length ts - n)).grows ts n;
  same = λ ts us n s.
      let k = max (length ts) (length us) in
      let at_ts = many-enough h ts (length ts - n) k n (omega arith) (omega arith) in
      let at_us = many-enough h us (length us - n) k n (omega arith) (omega arith) in
      sym at_us ∙ (many_by_local h.local k).same ts us n (rw at_ts s) ∙ at_ts;
}
