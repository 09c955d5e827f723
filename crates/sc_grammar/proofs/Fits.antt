-- What is read is in the grammar, and what was read before a refusal begins something of the grammar.
use Rattle.std.proofs.Common.{◌+◌, ◌≡◌, refl, sym, ap, ◌∙◌, subst, ℕ, ◌≤◌, arith, true, false, List, [], ◌∷◌, ◌++◌, Some, append_assoc}
use Rattle.std.specs.Prelude.{slice_get}
use Rattle.sc_tree.specs.declared.token.Token.{Token}
use Rattle.sc_grammar.specs.Rest.{Spelt, Rest, rest}
use Rattle.sc_grammar.specs.Statements.{begins_by, is_else}
use Rattle.sc_grammar.proofs.Reading.{syntax, deep, Out, got, refused, Parser, and_then, bind, pure, fail, sees}

-- ---- tokens in their places

-- what a rule says of two places and what is read between them
abbrev pub Rule : Type 0 → Type 1
Rule A = Rest → Rest → A → Type 0

-- these tokens stand from the place on
abbrev pub Stand : List Token → ℕ → List Spelt → Type 0
Stand ts n [] = Unit {0}
Stand ts n (s ∷ us) = (slice_get ts n ≡ Some s.token) × Stand ts (n + 1) us

-- the place after these tokens
abbrev pub past : List Spelt → ℕ → ℕ
past [] n = n
past (s ∷ us) n = past us (n + 1)

pub stand-append : (ts : List Token) (n : ℕ) (us vs : List Spelt) → Stand ts n us → Stand ts (past us n) vs → Stand ts n (us ++ vs)
stand-append ts n [] vs a b = b
stand-append ts n (s ∷ us) vs a b = (a.0, stand-append ts (n + 1) us vs a.1 b)

pub past-append : (us vs : List Spelt) (n : ℕ) → past (us ++ vs) n ≡ past vs (past us n)
past-append [] vs n = refl
past-append (s ∷ us) vs n = past-append us vs (n + 1)

pub past-grows : (us : List Spelt) (n : ℕ) → n ≤ past us n
past-grows [] n = omega arith
past-grows (s ∷ us) n = let h = past-grows us (n + 1) in omega arith

-- no `else` begins these
abbrev pub Quiet : List Spelt → Type 0
Quiet us = begins_by is_else us ≡ false

-- an `else` begins these only where one stands in that place
abbrev pub Follows : List Token → ℕ → List Spelt → Type 0
Follows ts m tail = begins_by is_else tail ≡ true → sees is_else (slice_get ts m) ≡ true

-- ---- what was read

-- these tokens were read, and are in the rule, whatever follows
pub record Found {A : Type 0} (R : Rule A) (ts : List Token) (n : ℕ) (x : A) (m : ℕ) : Type 0 where
  pub used : List Spelt
  pub stand : Stand ts n used
  pub ends : past used n ≡ m
  pub holds : (tail : List Spelt) → Follows ts m tail → R (rest n (used ++ tail)) (rest m tail) x

-- some tokens are in the rule
pub record Sample {A : Type 0} (R : Rule A) (n : ℕ) : Type 0 where
  pub more : List Spelt
  pub value : A
  pub quiet : Quiet more
  pub holds : (tail : List Spelt) → Quiet tail → R (rest n (more ++ tail)) (rest (past more n) tail) value

-- the tokens before the place k begin something that is in the rule
pub record Begun {A : Type 0} (R : Rule A) (ts : List Token) (n k : ℕ) : Type 0 where
  pub used : List Spelt
  pub more : List Spelt
  pub value : A
  pub stand : Stand ts n used
  pub ends : past used n ≡ k
  pub quiet : Quiet more
  pub holds : (tail : List Spelt) → Quiet tail → R (rest n (used ++ (more ++ tail))) (rest (past more k) tail) value

abbrev pub FitsOut : {A : Type 0} → Rule A → List Token → ℕ → Out A → Type 0
FitsOut R ts n (got x m) = Found R ts n x m
FitsOut R ts n (refused (syntax k)) = Begun R ts n k
FitsOut R ts n (refused (deep k)) = Begun R ts n (k + 1)

pub record Fits {A : Type 0} (p : Parser A) (R : Rule A) : Type 0 where
  pub at : (ts : List Token) (n : ℕ) → FitsOut R ts n (p ts n)
  pub sample : (n : ℕ) → Sample R n

-- a sample begins with no token that was read
pub begun_by : {A : Type 0} {R : Rule A} (ts : List Token) (n : ℕ) → Sample R n → Begun R ts n n
begun_by ts n s = record { used = []; more = s.more; value = s.value; stand = tt; ends = refl; quiet = s.quiet; holds = s.holds }

-- ---- one after the other

-- what is left of a rule after its first part
abbrev pub After : {A B : Type 0} → Rule A → A → Rule B → Rule B
After P x R = λ b c y. (a : Rest) → P a b x → R a c y

quiet-append : (us vs : List Spelt) → Quiet us → Quiet vs → Quiet (us ++ vs)
quiet-append [] vs a b = b
quiet-append (s ∷ us) vs a b = a

stand_follows : (ts : List Token) (m : ℕ) (us tail : List Spelt) → Stand ts m us → Follows ts (past us m) tail → Follows ts m (us ++ tail)
stand_follows ts m [] tail h f = f
stand_follows ts m (s ∷ us) tail h f = λ e. ap (sees is_else) h.0 ∙ e

quiet_follows : (ts : List Token) (m : ℕ) (tail : List Spelt) → Quiet tail → Follows ts m tail
quiet_follows ts m tail q = λ e. absurd (let z : true ≡ false = sym e ∙ q in cc)

found_found : {A B : Type 0} {P : Rule A} {R : Rule B} (ts : List Token) (n : ℕ) (x : A) (m : ℕ) → Found P ts n x m → (y : B) (k : ℕ) → Found (After P x R) ts m y k → Found R ts n y k
found_found {R = R} ts n x m f y k g =
    let e : past g.used (past f.used n) ≡ k = ap (past g.used) f.ends ∙ g.ends in
    record {
      used = f.used ++ g.used;
      stand = stand-append ts n f.used g.used f.stand (subst (λ (i : ℕ). Stand ts i g.used) (sym f.ends) g.stand);
      ends = past-append f.used g.used n ∙ e;
      holds = λ tail w.
          let v : Follows ts m (g.used ++ tail) = stand_follows ts m g.used tail g.stand (subst (λ (i : ℕ). Follows ts i tail) (sym g.ends) w) in
          subst (λ (l : List Spelt). R (rest n l) (rest k tail) y) (sym (append_assoc f.used g.used tail))
          (g.holds tail w (rest n (f.used ++ (g.used ++ tail))) (f.holds (g.used ++ tail) v));
    }

found_begun : {A B : Type 0} {P : Rule A} {R : Rule B} (ts : List Token) (n : ℕ) (x : A) (m : ℕ) → Found P ts n x m → (k : ℕ) → Begun (After P x R) ts m k → Begun R ts n k
found_begun {R = R} ts n x m f k g =
    record {
      used = f.used ++ g.used;
      more = g.more;
      value = g.value;
      stand = stand-append ts n f.used g.used f.stand (subst (λ (i : ℕ). Stand ts i g.used) (sym f.ends) g.stand);
      ends = past-append f.used g.used n ∙ ap (past g.used) f.ends ∙ g.ends;
      quiet = g.quiet;
      holds = λ tail w.
          let v : Follows ts m (g.used ++ (g.more ++ tail)) =
          stand_follows ts m g.used (g.more ++ tail) g.stand (quiet_follows ts (past g.used m) (g.more ++ tail) (quiet-append g.more tail g.quiet w)) in
          subst (λ (l : List Spelt). R (rest n l) (rest (past g.more k) tail) g.value) (sym (append_assoc f.used g.used (g.more ++ tail)))
          (g.holds tail w (rest n (f.used ++ (g.used ++ (g.more ++ tail)))) (f.holds (g.used ++ (g.more ++ tail)) v));
    }

begun_more : {A B : Type 0} {P : Rule A} {R : Rule B} (ts : List Token) (n k : ℕ) → (b : Begun P ts n k) → Sample (After P b.value R) (past b.more k) → Begun R ts n k
begun_more {R = R} ts n k b s =
    record {
      used = b.used;
      more = b.more ++ s.more;
      value = s.value;
      stand = b.stand;
      ends = b.ends;
      quiet = quiet-append b.more s.more b.quiet s.quiet;
      holds = λ tail w.
          let whole : R (rest n (b.used ++ (b.more ++ (s.more ++ tail)))) (rest (past s.more (past b.more k)) tail) s.value =
          s.holds tail w (rest n (b.used ++ (b.more ++ (s.more ++ tail)))) (b.holds (s.more ++ tail) (quiet-append s.more tail s.quiet w)) in
          let parts : R (rest n (b.used ++ ((b.more ++ s.more) ++ tail))) (rest (past s.more (past b.more k)) tail) s.value =
          subst (λ (l : List Spelt). R (rest n (b.used ++ l)) (rest (past s.more (past b.more k)) tail) s.value) (sym (append_assoc b.more s.more tail)) whole in
          subst (λ (i : ℕ). R (rest n (b.used ++ ((b.more ++ s.more) ++ tail))) (rest i tail) s.value) (sym (past-append b.more s.more k)) parts;
    }

pub sample_more : {A B : Type 0} {P : Rule A} {R : Rule B} (n : ℕ) → (b : Sample P n) → Sample (After P b.value R) (past b.more n) → Sample R n
sample_more {R = R} n b s =
    record {
      more = b.more ++ s.more;
      value = s.value;
      quiet = quiet-append b.more s.more b.quiet s.quiet;
      holds = λ tail w.
          let whole : R (rest n (b.more ++ (s.more ++ tail))) (rest (past s.more (past b.more n)) tail) s.value =
          s.holds tail w (rest n (b.more ++ (s.more ++ tail))) (b.holds (s.more ++ tail) (quiet-append s.more tail s.quiet w)) in
          let parts : R (rest n ((b.more ++ s.more) ++ tail)) (rest (past s.more (past b.more n)) tail) s.value =
          subst (λ (l : List Spelt). R (rest n l) (rest (past s.more (past b.more n)) tail) s.value) (sym (append_assoc b.more s.more tail)) whole in
          subst (λ (i : ℕ). R (rest n ((b.more ++ s.more) ++ tail)) (rest i tail) s.value) (sym (past-append b.more s.more n)) parts;
    }

pub then_out : {A B : Type 0} {P : Rule A} (R : Rule B) (ts : List Token) (n : ℕ) (x : A) (m : ℕ) → Found P ts n x m → (o : Out B) → FitsOut (After P x R) ts m o → FitsOut R ts n o
then_out R ts n x m f (got y k) g = found_found ts n x m f y k g
then_out R ts n x m f (refused (syntax k)) g = found_begun ts n x m f k g
then_out R ts n x m f (refused (deep k)) g = found_begun ts n x m f (k + 1) g

bind_out : {A B : Type 0} {P : Rule A} (R : Rule B) {f : A → Parser B} → ((x : A) → Fits (f x) (After P x R)) → (ts : List Token) (n : ℕ) (o : Out A) → FitsOut P ts n o → FitsOut R ts n (and_then o (λ x m. f x ts m))
bind_out R {f = f} h ts n (got x m) g = then_out R ts n x m g (f x ts m) ((h x).at ts m)
bind_out R h ts n (refused (syntax k)) g = begun_more ts n k g ((h g.value).sample (past g.more k))
bind_out R h ts n (refused (deep k)) g = begun_more ts n (k + 1) g ((h g.value).sample (past g.more (k + 1)))

pub fits-bind : {A B : Type 0} {P : Rule A} {R : Rule B} {p : Parser A} {f : A → Parser B} → Fits p P → ((x : A) → Fits (f x) (After P x R)) → Fits (bind p f) R
unfolding bind
fits-bind {R = R} {p = p} hp hf = record {
  at = λ ts n. bind_out R hf ts n (p ts n) (hp.at ts n);
  sample = λ n. let s = hp.sample n in sample_more n s ((hf s.value).sample (past s.more n));
}

pub fits-pure : {A : Type 0} {R : Rule A} (x : A) → ((a : Rest) → R a a x) → Fits (pure x) R
unfolding pure
fits-pure x h = record {
  at = λ ts n. record { used = []; stand = tt; ends = refl; holds = λ tail w. h (rest n tail) };
  sample = λ n. record { more = []; value = x; quiet = refl; holds = λ tail w. h (rest n tail) };
}

pub fits-fail : {A : Type 0} {R : Rule A} → ((n : ℕ) → Sample R n) → Fits (fail {A = A}) R
unfolding fail
fits-fail s = record { at = λ ts n. begun_by ts n (s n); sample = s }

-- the same of a wider rule
found_wider : {A : Type 0} (P R : Rule A) → ((a b : Rest) (x : A) → P a b x → R a b x) → (ts : List Token) (n : ℕ) (o : Out A) → FitsOut P ts n o → FitsOut R ts n o
found_wider P R h ts n (got x m) f = record { used = f.used; stand = f.stand; ends = f.ends; holds = λ tail w. h _ _ _ (f.holds tail w) }
found_wider P R h ts n (refused (syntax k)) f = record { used = f.used; more = f.more; value = f.value; stand = f.stand; ends = f.ends; quiet = f.quiet; holds = λ tail w. h _ _ _ (f.holds tail w) }
found_wider P R h ts n (refused (deep k)) f = record { used = f.used; more = f.more; value = f.value; stand = f.stand; ends = f.ends; quiet = f.quiet; holds = λ tail w. h _ _ _ (f.holds tail w) }

pub fits-wider : {A : Type 0} {P R : Rule A} {p : Parser A} → ((a b : Rest) (x : A) → P a b x → R a b x) → Fits p P → Fits p R
fits-wider {P = P} {R = R} {p = p} h f = record {
  at = λ ts n. found_wider P R h ts n (p ts n) (f.at ts n);
  sample = λ n. let s = f.sample n in record { more = s.more; value = s.value; quiet = s.quiet; holds = λ tail w. h _ _ _ (s.holds tail w) };
}
