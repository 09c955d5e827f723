-- What the turns of a loop read that collects as many as there are.
use Rattle.std.proofs.Common.{◌≡◌, refl, ap, sym, ◌∙◌, ℕ, zero, suc, ◌+◌, ◌-◌, ◌<◌, ◌≤◌, List, [], ◌∷◌, ◌++◌, append_assoc, length, map, Option, Some, None, arith}
use Rattle.std.proofs.lemmas.List.{append-nil, map-append}
use Rattle.sc_tree.specs.declared.token.Token.{Token}
use Rattle.sc_grammar.specs.declared.error.Refused.{Refused}
use Rattle.sc_grammar.specs.declared.error.Refused.TheVariants.{Memory, Syntax, Deep}
use Rattle.sc_grammar.proofs.Reading.{syntax, deep, Fails, Parser, Out, got, refused, Refusal, and_then, with_front, many, many_by, bind, pure}

pub more_left : (i end : ℕ) → i < end → end - i ≡ suc (end - (i + 1))
more_left i end h = omega arith

pub none_left : (i end : ℕ) → end ≤ i → end - i ≡ zero
none_left i end h = omega arith

-- How a loop collects: `add` is what was collected, with one more, and `behind` is what was collected, with all that
-- is read behind it.
pub record Collects {S A : Type 0} (add : S → A → S) (behind : S → Out (List A) → Out S) : Type 0 where
  pub one : (s : S) (x : A) (o : Out (List A)) → behind s (and_then o (λ xs m. got (x ∷ xs) m)) ≡ behind (add s x) o
  pub nothing : (s : S) (m : ℕ) → behind s (got [] m) ≡ got s m
  pub refusal : (s : S) (r : Refusal) → behind s (refused r) ≡ refused r

pub turn_more : {S A : Type 0} {add : S → A → S} {behind : S → Out (List A) → Out S} → Collects add behind → (s : S) (p : Parser (Option A)) (i end : ℕ) (ts : List Token) (n m : ℕ) (x : A) → i < end → p ts n ≡ got (Some x) m → behind s (many_by p (end - i) ts n) ≡ behind (add s x) (many_by p (end - (i + 1)) ts m)
unfolding many_by bind pure
turn_more {behind = behind} c s p i end ts n m x h e = ap (λ k. behind s (many_by p k ts n)) (more_left i end h) ∙ rw e (c.one s x (many_by p (end - (i + 1)) ts m))

pub turn_stop : {S A : Type 0} {add : S → A → S} {behind : S → Out (List A) → Out S} → Collects add behind → (s : S) (p : Parser (Option A)) (i end : ℕ) (ts : List Token) (n m : ℕ) → i < end → p ts n ≡ got None m → behind s (many_by p (end - i) ts n) ≡ got s m
unfolding many_by bind pure
turn_stop {behind = behind} c s p i end ts n m h e = ap (λ k. behind s (many_by p k ts n)) (more_left i end h) ∙ rw e (c.nothing s m)

pub turn_fail : {S A : Type 0} {add : S → A → S} {behind : S → Out (List A) → Out S} → Collects add behind → (s : S) (p : Parser (Option A)) (i end : ℕ) (ts : List Token) (n : ℕ) (r : Refusal) → i < end → p ts n ≡ refused r → behind s (many_by p (end - i) ts n) ≡ refused r
unfolding many_by bind pure
turn_fail {behind = behind} c s p i end ts n r h e = ap (λ k. behind s (many_by p k ts n)) (more_left i end h) ∙ rw e (c.refusal s r)

pub turn_end : {S A : Type 0} {add : S → A → S} {behind : S → Out (List A) → Out S} → Collects add behind → (s : S) (p : Parser (Option A)) (i end : ℕ) (ts : List Token) (n : ℕ) → end ≤ i → behind s (many_by p (end - i) ts n) ≡ got s n
unfolding many_by pure
turn_end {behind = behind} c s p i end ts n h = ap (λ k. behind s (many_by p k ts n)) (none_left i end h) ∙ c.nothing s n

-- a refusal of one is one of them all
pub turn_refused : {S A : Type 0} {add : S → A → S} {behind : S → Out (List A) → Out S} → Collects add behind → (e : Refused) (s : S) (p : Parser (Option A)) (i end : ℕ) (us ts : List Token) (n : ℕ) (o : Out S) → us ≡ ts → o ≡ behind s (many_by p (end - i) ts n) → i < end → Fails e (p us n) → Fails e o
turn_refused c Memory s p i end us ts n o same is lt h = tt
turn_refused c (Syntax k) s p i end us ts n o same is lt h = is ∙ turn_fail c s p i end ts n (syntax k) lt (ap (λ (l : List Token). p l n) (sym same) ∙ h)
turn_refused c (Deep k) s p i end us ts n o same is lt h = is ∙ turn_fail c s p i end ts n (deep k) lt (ap (λ (l : List Token). p l n) (sym same) ∙ h)

-- ---- a list of what is read

abbrev pub pushed : {A : Type 0} → List A → A → List A
pushed front x = front ++ x ∷ []

front_one : {A : Type 0} (front : List A) (x : A) (o : Out (List A)) → with_front front (and_then o (λ xs m. got (x ∷ xs) m)) ≡ with_front (front ++ x ∷ []) o
front_one front x (got xs m) = ap (λ l. got l m) (sym (append_assoc front (x ∷ []) xs))
front_one front x (refused r) = refl

pub in_list : {A : Type 0} → Collects (pushed {A = A}) (with_front {A = A})
in_list = record { one = front_one; nothing = λ front m. ap (λ l. got l m) (append-nil front); refusal = λ front r. refl }

pub many_step : {A : Type 0} (front : List A) (p : Parser (Option A)) (i end : ℕ) (ts : List Token) (n m : ℕ) (x : A) → i < end → p ts n ≡ got (Some x) m → with_front front (many_by p (end - i) ts n) ≡ with_front (front ++ x ∷ []) (many_by p (end - (i + 1)) ts m)
many_step front p i end ts n m x h e = turn_more in_list front p i end ts n m x h e

pub many_stop : {A : Type 0} (front : List A) (p : Parser (Option A)) (i end : ℕ) (ts : List Token) (n m : ℕ) → i < end → p ts n ≡ got None m → with_front front (many_by p (end - i) ts n) ≡ got front m
many_stop front p i end ts n m h e = turn_stop in_list front p i end ts n m h e

pub many_fail : {A : Type 0} (front : List A) (p : Parser (Option A)) (i end : ℕ) (ts : List Token) (n : ℕ) (r : Refusal) → i < end → p ts n ≡ refused r → with_front front (many_by p (end - i) ts n) ≡ refused r
many_fail front p i end ts n r h e = turn_fail in_list front p i end ts n r h e

pub many_end : {A : Type 0} (front : List A) (p : Parser (Option A)) (i end : ℕ) (ts : List Token) (n : ℕ) → end ≤ i → with_front front (many_by p (end - i) ts n) ≡ got front n
many_end front p i end ts n h = turn_end in_list front p i end ts n h

-- what was found, and then what is done with all
pub front_then : {A B : Type 0} (front : List A) (o : Out (List A)) (f : List A → ℕ → Out B) → and_then (with_front front o) f ≡ and_then o (λ xs m. f (front ++ xs) m)
front_then front (got xs m) f = refl
front_then front (refused r) f = refl

pub front_none : {A : Type 0} (o : Out (List A)) → with_front [] o ≡ o
front_none (got xs m) = refl
front_none (refused r) = refl

pub many_starts : {A : Type 0} (p : Parser (Option A)) (ts : List Token) (n : ℕ) → many p ts n ≡ with_front [] (many_by p (length ts - n) ts n)
unfolding many
many_starts p ts n = sym (front_none (many_by p (length ts - n) ts n))

-- the first and those behind it
pub first_more : {A : Type 0} (x : A) (o : Out (List A)) → and_then o (λ xs m. got (x ∷ xs) m) ≡ with_front (x ∷ []) o
first_more x (got xs m) = refl
first_more x (refused r) = refl

pub map_push : {A B : Type 0} (f : A → B) (xs : List A) (x : A) → map f (xs ++ x ∷ []) ≡ map f xs ++ f x ∷ []
map_push f xs x = map-append f xs (x ∷ [])

pub ruleset turns = (many_step, many_stop, many_fail, many_end, front_then, front_none, many_starts, first_more, map_push)
