-- Where the marks of a part of a core tree stand among those of the whole.
use Rattle.std.proofs.Common.{◌≡◌, ℕ, zero, suc, ◌+◌, List, [], ◌∷◌, ◌++◌, length, Option, Some, None, slice_get, refl, sym, ap, ◌∙◌, subst, arith, append_assoc}
use Rattle.std.proofs.lemmas.List.{length-append}
use Rattle.sc_core.specs.declared.operation.Operation.{Operation}
use Rattle.sc_core.specs.Core.{Core, constant, step, choice, update, Arguments, none, argument, Does, nothing, break, continue, then_, act, choose, loop, return, Function}
use Rattle.sc_meaning.specs.Points.{one_if_some, size, sizes, size_of, first_from}
use Rattle.meaning_laws.specs.Marks.{Mark, plain, enters, leaves, turn, mark_of, mark_if, marks, marks_all, marks_in, marks_of}

-- the marks are those of the points from k on
abbrev pub StandAt : List Mark → (k : ℕ) → List Mark → Type 0
StandAt all k part = (i : ℕ) (m : Mark) → slice_get part i ≡ Some m → slice_get all (k + i) ≡ Some m

in_front : (a b : List Mark) (i : ℕ) (m : Mark) → slice_get a i ≡ Some m → slice_get (a ++ b) i ≡ Some m
in_front [] b i m h = absurd cc
in_front (x ∷ a) b zero m h = h
in_front (x ∷ a) b (suc i) m h = in_front a b i m h

behind : (a b : List Mark) (i : ℕ) → slice_get (a ++ b) (length a + i) ≡ slice_get b i
behind [] b i = let e : length {A = Mark} [] + i ≡ i = omega arith in ap (λ n. slice_get b n) e
behind (x ∷ a) b i =
    let e : length (x ∷ a) + i ≡ suc (length a + i) = omega arith in
    ap (λ n. slice_get (x ∷ a ++ b) n) e ∙ behind a b i

module _ (all : List Mark) where
  pub front : (k : ℕ) (a b : List Mark) → StandAt all k (a ++ b) → StandAt all k a
  front k a b h i m e = h i m (in_front a b i m e)

  pub back : (k n : ℕ) (a b : List Mark) → length a ≡ n → StandAt all k (a ++ b) → StandAt all (k + n) b
  back k n a b long h i m e =
      let same : k + (length a + i) ≡ k + n + i = omega arith in
      subst (λ j. slice_get all j ≡ Some m) same (h (length a + i) m (behind a b i ∙ e))

  pub first : (k : ℕ) (x : Mark) (b : List Mark) → StandAt all k (x ∷ b) → slice_get all k ≡ Some x
  first k x b h = let same : k + 0 ≡ k = omega arith in subst (λ j. slice_get all j ≡ Some x) same (h 0 x refl)

  pub rest : (k : ℕ) (x : Mark) (b : List Mark) → StandAt all k (x ∷ b) → StandAt all (k + 1) b
  rest k x b h i m e = let same : k + suc i ≡ k + 1 + i = omega arith in subst (λ j. slice_get all j ≡ Some m) same (h (suc i) m e)

-- ---- as many marks as points

if_long : (o : Option Operation) → length (mark_if o) ≡ one_if_some o
if_long None = refl
if_long (Some operation) = refl

mutual
  pub long : (e : Core) → length (marks e) ≡ size e
  long (constant c) = refl
  long (step operation arguments line) =
      let a = long_all arguments in
      let b = length-append (marks_all arguments) (mark_of operation ∷ []) in
      omega arith
  long (choice of_pointer test on off) =
      let a = long test in
      let b = long on in
      let c = long off in
      let d = length-append (marks test) (plain ∷ (marks on ++ marks off)) in
      let e = length-append (marks on) (marks off) in
      omega arith
  long (update pointer operation right undo line) =
      let a = long pointer in
      let b = long right in
      let c = if_long undo in
      let d = length-append (marks pointer) (plain ∷ (marks right ++ mark_of operation ∷ plain ∷ mark_if undo)) in
      let e = length-append (marks right) (mark_of operation ∷ plain ∷ mark_if undo) in
      omega arith

  pub long_all : (arguments : Arguments) → length (marks_all arguments) ≡ sizes arguments
  long_all none = refl
  long_all (argument e more) =
      let a = long e in
      let b = long_all more in
      let c = length-append (marks e) (marks_all more) in
      omega arith

pub long_in : (s : Does) → length (marks_in s) ≡ size_of s
long_in nothing = refl
long_in break = refl
long_in continue = refl
long_in (then_ a b) =
    let c = long_in a in
    let d = long_in b in
    let e = length-append (marks_in a) (marks_in b) in
    omega arith
long_in (act action arguments line) =
    let a = long_all arguments in
    let b = length-append (marks_all arguments) (plain ∷ []) in
    omega arith
long_in (choose of_pointer test on off) =
    let a = long test in
    let b = long_in on in
    let c = long_in off in
    let d = length-append (marks test) (plain ∷ (marks_in on ++ marks_in off)) in
    let e = length-append (marks_in on) (marks_in off) in
    omega arith
long_in (loop mine before body after) =
    let a = long_in before in
    let b = long_in body in
    let c = long_in after in
    let d = length-append (marks_in before) (turn ∷ (marks_in body ++ marks_in after)) in
    let e = length-append (marks_in body) (marks_in after) in
    omega arith
long_in (return e line) =
    let a = long e in
    let b = length-append (marks e) (leaves ∷ []) in
    omega arith

-- ---- functions

pub function_stands : (all : List Mark) (functions : List Function) (k f : ℕ) (g : Function)
    → StandAt all k (marks_of functions) → slice_get functions f ≡ Some g
    → StandAt all (first_from k functions f) (enters ∷ (marks_in g.body ++ leaves ∷ []))
function_stands all [] k f g h e = absurd cc
function_stands all (x ∷ more) k zero g h e =
    let same : x ≡ g = cc in
    subst (λ y. StandAt all k (enters ∷ (marks_in y.body ++ leaves ∷ []))) same own
  where
    own : StandAt all k (enters ∷ (marks_in x.body ++ leaves ∷ []))
    own = front all k (enters ∷ (marks_in x.body ++ leaves ∷ [])) (marks_of more)
        (subst (λ xs. StandAt all k (enters ∷ xs)) (sym (append_assoc (marks_in x.body) (leaves ∷ []) (marks_of more))) h)
function_stands all (x ∷ more) k (suc f) g h e =
    let r = back all (k + 1) (size_of x.body) (marks_in x.body) (leaves ∷ marks_of more) (long_in x.body)
    (rest all k enters (marks_in x.body ++ leaves ∷ marks_of more) h) in
    let t = rest all (k + 1 + size_of x.body) leaves (marks_of more) r in
    let same : k + 1 + size_of x.body + 1 ≡ k + size_of x.body + 2 = omega arith in
    function_stands all more (k + size_of x.body + 2) f g (subst (λ j. StandAt all j (marks_of more)) same t) e
