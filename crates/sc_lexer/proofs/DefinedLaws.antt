-- Laws of defined names that are kept as a list of names beside a list of numbers.
use Rattle.std.proofs.Common.{◌≡◌, ℕ, zero, suc, ◌+◌, refl, sym, ap, ◌∙◌, arith, Bool, true, false, cond, List, [], ◌∷◌, ◌++◌, length, Some, None, Option, ◌≤◌}
use Rattle.std.specs.Prelude.{not, nat_lt, ℤ, zip, slice_get}
use Rattle.std.specs.List.{list_any, position, position_or_len}
use borrow.Author.Tests.{ltb-false}
use Rattle.std.specs.Str.{bytes_eq}
use Rattle.std.proofs.lemmas.List.{length_push}
use Rattle.sc_tree.specs.Names.{Text, with_name}
use Rattle.sc_lexer.specs.Defined.{defined_value}

some-none : (b : Bool) (v : ℤ) (o : Option ℤ) → cond b (Some v) o ≡ None → (b ≡ false) × (o ≡ None)
some-none true v o e = cc
some-none false v o e = (refl, e)

or-false : (a b : Bool) → a ≡ false → b ≡ false → cond a true b ≡ false
or-false a b e f = rw e f

-- what is not defined is not among the names
pub defined-none : (name : Text) (ns : List Text) (vs : List ℤ) → length ns ≡ length vs → defined_value name (zip ns vs) ≡ None → list_any (bytes_eq name) ns ≡ false
defined-none name [] vs same e = refl
defined-none name (n ∷ ns) [] same e = absurd (omega arith)
defined-none name (n ∷ ns) (v ∷ vs) same e =
    let both = some-none (bytes_eq name n) v (defined_value name (zip ns vs)) e in
    rw both.0 (defined-none name ns vs (omega arith) both.1)

pub zip-push : (ns : List Text) (vs : List ℤ) (n : Text) (v : ℤ) → length ns ≡ length vs → zip (ns ++ n ∷ []) (vs ++ v ∷ []) ≡ zip ns vs ++ (n, v) ∷ []
zip-push [] [] n v same = refl
zip-push [] (w ∷ vs) n v same = absurd (omega arith)
zip-push (m ∷ ns) [] n v same = absurd (omega arith)
zip-push (m ∷ ns) (w ∷ vs) n v same = ap (λ l. (m, w) ∷ l) (zip-push ns vs n v (omega arith))

-- one name more, with its number
pub record Adds (name : Text) (v : ℤ) (ns ms : List Text) (vs ws : List ℤ) : Type 0 where
  pub same : length ms ≡ length ws
  pub pairs : zip ms ws ≡ zip ns vs ++ (name, v) ∷ []

pub defined-added : (name : Text) (v : ℤ) (ns ms : List Text) (vs ws : List ℤ) → length ns ≡ length vs → defined_value name (zip ns vs) ≡ None → ms ≡ with_name name ns → ws ≡ vs ++ v ∷ [] → Adds name v ns ms vs ws
defined-added name v ns ms vs ws same e names values =
    let absent = defined-none name ns vs same e in
    let more : ms ≡ ns ++ name ∷ [] = names ∙ rw absent refl in
    record {
      same = ap length more ∙ length_push ns name ∙ ap (λ k. k + 1) same ∙ sym (length_push vs v) ∙ sym (ap length values);
      pairs = (λ i. zip (more i) (values i)) ∙ zip-push ns vs name v same;
    }

-- where a name stands among the names its number stands among the numbers
value-first : (b : Bool) (v : ℤ) (vs : List ℤ) (o : Option ℤ) (k : ℕ) → o ≡ slice_get vs k → cond b (Some v) o ≡ slice_get (v ∷ vs) (cond (not b) (1 + k) 0)
value-first true v vs o k e = refl
value-first false v vs o k e = let next : 1 + k ≡ suc k = omega arith in e ∙ sym (ap (slice_get (v ∷ vs)) next)

defined-at : (name : Text) (ns : List Text) (vs : List ℤ) → length ns ≡ length vs → defined_value name (zip ns vs) ≡ slice_get vs (position_or_len (bytes_eq name) ns)
defined-at name [] [] same = refl
defined-at name [] (v ∷ vs) same = absurd (omega arith)
defined-at name (n ∷ ns) [] same = absurd (omega arith)
defined-at name (n ∷ ns) (v ∷ vs) same = value-first (bytes_eq name n) v vs _ _ (defined-at name ns vs (omega arith))

some-place : (b : Bool) (x i : ℕ) → cond b (Some x) None ≡ Some i → x ≡ i
some-place true x i e = cc
some-place false x i e = cc

none-place : (b : Bool) (x : ℕ) → cond b (Some x) None ≡ None → b ≡ false
none-place true x e = cc
none-place false x e = refl

past-none : (vs : List ℤ) (i : ℕ) → length vs ≤ i → slice_get vs i ≡ None
past-none [] i h = refl
past-none (v ∷ vs) zero h = absurd (omega arith)
past-none (v ∷ vs) (suc i) h = past-none vs i (omega arith)

pub defined-found : (name : Text) (ns : List Text) (vs : List ℤ) (i : ℕ) → length ns ≡ length vs → position (bytes_eq name) ns ≡ Some i → defined_value name (zip ns vs) ≡ slice_get vs i
defined-found name ns vs i same e = defined-at name ns vs same ∙ ap (slice_get vs) (some-place (nat_lt (position_or_len (bytes_eq name) ns) (length ns)) _ i e)

pub defined-absent : (name : Text) (ns : List Text) (vs : List ℤ) → length ns ≡ length vs → position (bytes_eq name) ns ≡ None → defined_value name (zip ns vs) ≡ None
defined-absent name ns vs same e =
    let past : length ns ≤ position_or_len (bytes_eq name) ns = ltb-false _ _ (none-place (nat_lt (position_or_len (bytes_eq name) ns) (length ns)) _ e) in
    defined-at name ns vs same ∙ past-none vs _ (omega arith)

pub ruleset looks = (defined-found, defined-absent)
