-- Names added one by one are the distinct ones in order of first appearance, and each has its number.
use Rattle.std.proofs.Common.{◌≡◌, ℕ, zero, suc, ◌+◌, refl, sym, ap, ◌∙◌, arith, Bool, true, false, cond, List, [], ◌∷◌, ◌++◌, Option, Some, None, ⊎_elim}
use Rattle.std.specs.Prelude.{not, ◌&&◌, ◌||◌, filter, slice_get}
use Rattle.std.specs.List.{list_any, position_or_len}
use Rattle.std.specs.Str.{bytes_eq}
use Rattle.std.proofs.lemmas.Bool.{cases_Bool, cond-true, cond-false}
use Rattle.std.proofs.lemmas.Bool.Decides.{same_from_decides}
use Rattle.std.proofs.lemmas.List.{append-nil, append_assoc}
use Rattle.std.proofs.lemmas.List.Elements.{filter_agree}
use Rattle.std.proofs.lemmas.List.Folds.{list_any-append}
use Rattle.std.proofs.lemmas.Slice.Eq.{bytes_eq-Decides}
use Rattle.sc_tree.specs.Names.{Text, number_of, with_name, distinct}

pub bytes-same : (a b : Text) → bytes_eq a b ≡ true → a ≡ b
bytes-same a b e = (bytes_eq-Decides a b).0 e

pub bytes-equal : (a b : Text) → a ≡ b → bytes_eq a b ≡ true
bytes-equal a b e = (bytes_eq-Decides a b).1 e

bytes_eq-sym : (a b : Text) → bytes_eq a b ≡ bytes_eq b a
bytes_eq-sym a b = same_from_decides (bytes_eq a b) (bytes_eq b a) (bytes_eq-Decides a b) ((λ e. sym (bytes-same b a e)), (λ e. bytes-equal b a (sym e)))

-- the names with those that are new of a list, one after the other
abbrev pub all_added : List Text → List Text → List Text
all_added names [] = names
all_added names (x ∷ more) = all_added (with_name x names) more

abbrev is_new : List Text → Text → Bool
is_new names name = not (list_any (bytes_eq name) names)

both-here : (p : Text → Bool) (x : Text) (b : Bool) (fs gs : List Text) → filter p fs ≡ gs → filter p (cond b (x ∷ fs) fs) ≡ cond (b && p x) (x ∷ gs) gs
both-here p x true fs gs e = ap (λ l. cond (p x) (x ∷ l) l) e
both-here p x false fs gs e = e

filter-both : (p q : Text → Bool) (l : List Text) → filter p (filter q l) ≡ filter (λ x. q x && p x) l
filter-both p q [] = refl
filter-both p q (x ∷ rest) = both-here p x (q x) (filter q rest) (filter (λ y. q y && p y) rest) (filter-both p q rest)

filter-all : (l : List Text) → filter (λ _. true) l ≡ l
filter-all [] = refl
filter-all (x ∷ rest) = ap (λ l. x ∷ l) (filter-all rest)

-- what differs from a name that is there already is new where it was
same_is_known : (names : List Text) (x o : Text) (b : Bool) → bytes_eq x o ≡ b → is_new names x ≡ false → (not b && is_new names o) ≡ is_new names o
same_is_known names x o true e known = sym known ∙ ap (is_new names) (bytes-same x o e)
same_is_known names x o false e known = refl

not-or : (a b : Bool) → not (a || (b || false)) ≡ (not b && not a)
not-or true true = refl
not-or true false = refl
not-or false true = refl
not-or false false = refl

new_behind : (names : List Text) (x o : Text) → is_new (names ++ x ∷ []) o ≡ (not (bytes_eq x o) && is_new names o)
new_behind names x o =
    ap not (list_any-append (bytes_eq o) names (x ∷ []))
    ∙ not-or (list_any (bytes_eq o) names) (bytes_eq o x)
    ∙ ap (λ b. not b && is_new names o) (bytes_eq-sym o x)

abbrev rest_of : Text → List Text → List Text
rest_of x more = filter (λ o. not (bytes_eq x o)) (distinct more)

known-step : (names : List Text) (x : Text) (more : List Text) → list_any (bytes_eq x) names ≡ true → filter (is_new names) (distinct more) ≡ filter (is_new names) (x ∷ rest_of x more)
known-step names x more known =
    let old : is_new names x ≡ false = ap not known in
    sym (cond-false (is_new names x) (x ∷ filter (is_new names) (rest_of x more)) (filter (is_new names) (rest_of x more)) old
    ∙ filter-both (is_new names) (λ o. not (bytes_eq x o)) (distinct more)
    ∙ filter_agree (λ o. not (bytes_eq x o) && is_new names o) (is_new names) (λ o. same_is_known names x o (bytes_eq x o) refl old) (distinct more))

new-step : (names : List Text) (x : Text) (more : List Text) → list_any (bytes_eq x) names ≡ false → x ∷ filter (is_new (names ++ x ∷ [])) (distinct more) ≡ filter (is_new names) (x ∷ rest_of x more)
new-step names x more unknown =
    let new : is_new names x ≡ true = ap not unknown in
    sym (cond-true (is_new names x) (x ∷ filter (is_new names) (rest_of x more)) (filter (is_new names) (rest_of x more)) new
    ∙ ap (λ l. x ∷ l) (filter-both (is_new names) (λ o. not (bytes_eq x o)) (distinct more)
    ∙ filter_agree (λ o. not (bytes_eq x o) && is_new names o) (is_new (names ++ x ∷ [])) (λ o. sym (new_behind names x o)) (distinct more)))

added-distinct : (names more : List Text) → all_added names more ≡ names ++ filter (is_new names) (distinct more)
added-distinct names [] = sym (append-nil names)
added-distinct names (x ∷ more) = ⊎_elim
    (λ known.
    let same : with_name x names ≡ names = cond-true (list_any (bytes_eq x) names) names (names ++ x ∷ []) known in
    ap (λ ns. all_added ns more) same ∙ added-distinct names more ∙ ap (λ l. names ++ l) (known-step names x more known))
    (λ unknown.
    let longer : with_name x names ≡ names ++ x ∷ [] = cond-false (list_any (bytes_eq x) names) names (names ++ x ∷ []) unknown in
    ap (λ ns. all_added ns more) longer ∙ added-distinct (names ++ x ∷ []) more
    ∙ append_assoc names (x ∷ []) (filter (is_new (names ++ x ∷ [])) (distinct more))
    ∙ ap (λ l. names ++ l) (new-step names x more unknown))
    (cases_Bool (list_any (bytes_eq x) names))

pub all_added-distinct : (more : List Text) → all_added [] more ≡ distinct more
all_added-distinct more = added-distinct [] more ∙ filter-all (distinct more)

-- ---- numbers

later-place : (a : Bool) (name n : Text) (ns : List Text) (p : ℕ) → slice_get (cond a ns (ns ++ name ∷ [])) p ≡ Some name → slice_get (cond a (n ∷ ns) (n ∷ (ns ++ name ∷ []))) (1 + p) ≡ Some name
later-place true name n ns p e = let next : 1 + p ≡ suc p = omega arith in ap (slice_get (n ∷ ns)) next ∙ e
later-place false name n ns p e = let next : 1 + p ≡ suc p = omega arith in ap (slice_get (n ∷ (ns ++ name ∷ []))) next ∙ e

place-front : (b : Bool) (name n : Text) (ns : List Text) → (b ≡ true → n ≡ name) → slice_get (with_name name ns) (number_of name ns) ≡ Some name →
    slice_get (cond (b || list_any (bytes_eq name) ns) (n ∷ ns) (n ∷ (ns ++ name ∷ []))) (cond (not b) (1 + number_of name ns) 0) ≡ Some name
place-front true name n ns same e = ap (λ x. Some x) (same refl)
place-front false name n ns same e = later-place (list_any (bytes_eq name) ns) name n ns (number_of name ns) e

-- a name has its number among the names with it
pub number-there : (name : Text) (names : List Text) → slice_get (with_name name names) (number_of name names) ≡ Some name
number-there name [] = refl
number-there name (n ∷ ns) = place-front (bytes_eq name n) name n ns (λ e. sym (bytes-same name n e)) (number-there name ns)

-- names keep their numbers where more are added
abbrev pub Begins : List Text → List Text → Type 0
Begins names longer = (more : List Text) × (longer ≡ names ++ more)

pub number-kept : (names more : List Text) (i : ℕ) (x : Text) → slice_get names i ≡ Some x → slice_get (names ++ more) i ≡ Some x
number-kept [] more i x e = cc
number-kept (n ∷ ns) more zero x e = e
number-kept (n ∷ ns) more (suc i) x e = number-kept ns more i x e

pub with_name-begins : (name : Text) (names : List Text) → Begins names (with_name name names)
with_name-begins name names = either (list_any (bytes_eq name) names)
  where
    either : (b : Bool) → Begins names (cond b names (names ++ name ∷ []))
    either true = ([], sym (append-nil names))
    either false = (name ∷ [], refl)

pub begins-on : (a b c : List Text) → Begins a b → Begins b c → Begins a c
begins-on a b c f g = (f.0 ++ g.0, g.1 ∙ ap (λ l. l ++ g.0) f.1 ∙ append_assoc a f.0 g.0)
