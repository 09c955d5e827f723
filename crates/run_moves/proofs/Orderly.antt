-- Where an orderly node stands after some of its asks: it asks to pass exactly where it has arrived once more than passed.
use Rattle.std.proofs.Common.{◌≡◌, ℕ, zero, suc, ◌+◌, ◌≤◌, List, [], ◌∷◌, ◌++◌, length, Some, None, Bool, true, false, refl, sym, ap, ◌∙◌, subst, arith}
use Rattle.std.specs.Prelude.{if◌then◌else◌, slice_get}
use Rattle.sc_base.specs.declared.value.End.{End}
use Rattle.sc_base.specs.declared.value.End.TheVariants.{Waiting}
use Rattle.effect_order.specs.Lists.{Each}
use Rattle.resumption.specs.Resumption.{Asks, Makes, Says, Stops, RunOf, Ends, unanswered, after_event, run_of}
use Rattle.sc_isa.specs.Run.{Ask, Issue, Wait, Arrive, Pass, Answer, Landed, Passed, Broken, Halt, Finish, Stuck, UsedUp, NodeDoing}
use Rattle.run_moves.specs.Laws.{IsOrderly}

abbrev pub one_if : Bool → ℕ
one_if true = 1
one_if false = 0

abbrev pub arrives : Ask → ℕ
arrives (Arrive stores) = 1
arrives _ = 0

abbrev pub passes_by : Ask → ℕ
passes_by Pass = 1
passes_by _ = 0

-- asks that are answered
abbrev pub answered : Ask → ℕ
answered Pass = 1
answered (Wait counter) = 1
answered _ = 0

-- the sum over the first k
abbrev pub total : (Ask → ℕ) → ℕ → List Ask → ℕ
total f zero xs = 0
total f (suc k) [] = 0
total f (suc k) (x ∷ xs) = f x + total f k xs

pub total_next : (f : Ask → ℕ) (k : ℕ) (xs : List Ask) (x : Ask) → slice_get xs k ≡ Some x → total f (suc k) xs ≡ total f k xs + f x
total_next f k [] x h = cc
total_next f zero (y ∷ ys) x h = let e : y ≡ x = cc in rw e (omega arith)
total_next f (suc k) (y ∷ ys) x h = let i = total_next f k ys x h in omega arith

pub total_front : (f : Ask → ℕ) (k : ℕ) (xs ys : List Ask) → k ≤ length xs → total f k (xs ++ ys) ≡ total f k xs
total_front f zero xs ys le = refl
total_front f (suc k) [] ys le = absurd (omega arith)
total_front f (suc k) (x ∷ xs) ys le = ap (λ n. f x + n) (total_front f k xs ys (omega arith))

-- no answer says that a barrier is broken
abbrev pub NoneBroken : List Answer → Type 0
NoneBroken answers = Each (λ a. a ≡ Broken → ⊥) answers

abbrev Run : Type 0
Run = RunOf Ask Halt

-- where the node stands after its first k asks
pub record Stands (at_barrier : Bool) (t : NodeDoing) (answers : List Answer) (run : Run) (k : ℕ) : Type 0 where
  pub here : Bool
  pub count : total arrives k run.events + one_if at_barrier ≡ total passes_by k run.events + one_if here
  pub passing : (ask : Ask) → slice_get run.events k ≡ Some ask → here ≡ true → ask ≡ Pass
  pub elsewhere : (ask : Ask) → slice_get run.events k ≡ Some ask → here ≡ false → ask ≡ Pass → ⊥
  pub over : (end : End) → slice_get run.events k ≡ None → run.end ≡ Ends (Finish end) → (here ≡ false) × (end ≡ Waiting → ⊥)
  pub gives_up : slice_get run.events k ≡ Some Pass → length answers ≡ total answered k run.events
      → (run_of t (answers ++ Broken ∷ [])).end ≡ Ends (Finish Waiting)

-- before the first ask, which is another one than to pass
first_other : (t : NodeDoing) (answers : List Answer) (ask : Ask) (run : Run) (rest : List Ask) → run.events ≡ ask ∷ rest → (ask ≡ Pass → ⊥) → Stands false t answers run 0
first_other t answers ask run rest e other = record {
  here = false;
  count = refl;
  passing = λ a h n. cc;
  elsewhere = λ a h n p. let x : slice_get (ask ∷ rest) 0 ≡ Some a = subst (λ u. slice_get u 0 ≡ Some a) e h in let y : ask ≡ a = cc in other (y ∙ p);
  over = λ end h n. let x : slice_get (ask ∷ rest) 0 ≡ None = subst (λ u. slice_get u 0 ≡ None) e h in cc;
  gives_up = λ h n. let x : slice_get (ask ∷ rest) 0 ≡ Some Pass = subst (λ u. slice_get u 0 ≡ Some Pass) e h in let y : ask ≡ Pass = cc in absurd (other y);
}

-- after the last ask nothing is known of the end
short_end : (t : NodeDoing) (answers : List Answer) (ask : Ask) (b : Bool) → total arrives 1 (ask ∷ []) + one_if b ≡ total passes_by 1 (ask ∷ []) + 0
    → Stands b t answers (unanswered ask) 1
short_end t answers ask b c = record {
  here = false;
  count = c;
  passing = λ a h n. cc;
  elsewhere = λ a h n p. cc;
  over = λ end h n. cc;
  gives_up = λ h n. cc;
}

-- one ask later
module _ (b c : Bool) (t rest : NodeDoing) (ask : Ask) (answers as_ : List Answer) (tail : Run) where
  later : (j : ℕ) → Stands c rest as_ tail j
      → arrives ask + (total passes_by j tail.events + one_if b) ≡ passes_by ask + (total passes_by j tail.events + one_if c)
      → (length answers ≡ answered ask + total answered j tail.events → length as_ ≡ total answered j tail.events)
      → (run_of t (answers ++ Broken ∷ [])).end ≡ (run_of rest (as_ ++ Broken ∷ [])).end
      → Stands b t answers (after_event ask tail) (suc j)
  later j s shift fewer same = record {
    here = s.here;
    count = (let a = s.count in omega arith);
    passing = s.passing;
    elsewhere = s.elsewhere;
    over = s.over;
    gives_up = λ h n. same ∙ s.gives_up h (fewer n);
  }

-- before the first ask, which is to pass and was answered
first_pass : (t : NodeDoing) (a : Answer) (as_ : List Answer) (run : Run) (rest : List Ask) → run.events ≡ Pass ∷ rest → Stands true t (a ∷ as_) run 0
first_pass t a as_ run rest e = record {
  here = true;
  count = refl;
  passing = λ x h s. let y : slice_get (Pass ∷ rest) 0 ≡ Some x = subst (λ u. slice_get u 0 ≡ Some x) e h in let z : Pass ≡ x = cc in sym z;
  elsewhere = λ x h s p. cc;
  over = λ end h s. let y : slice_get (Pass ∷ rest) 0 ≡ None = subst (λ u. slice_get u 0 ≡ None) e h in cc;
  gives_up = λ h s. absurd (omega arith);
}

-- where the run has stopped
stopped : (b : Bool) (t : NodeDoing) (answers : List Answer) (halt : Halt) → ((end : End) → halt ≡ Finish end → (b ≡ false) × (end ≡ Waiting → ⊥))
    → Stands b t answers (record { events = []; text = []; end = Ends halt }) 0
stopped b t answers halt h = record {
  here = b;
  count = refl;
  passing = λ x e s. cc;
  elsewhere = λ x e s p. cc;
  over = λ end e s. h end cc;
  gives_up = λ e s. cc;
}

pub stands : (b : Bool) (t : NodeDoing) → IsOrderly b t → (answers : List Answer) → NoneBroken answers → (k : ℕ) → k ≤ length (run_of t answers).events
    → Stands b t answers (run_of t answers) k
unfolding IsOrderly
stands b (Says text rest) o answers n k le =
    let s = stands b rest o answers n k le in
    record { here = s.here; count = s.count; passing = s.passing; elsewhere = s.elsewhere; over = s.over; gives_up = s.gives_up }
stands false (Makes (Issue access) rest) o answers n zero le =
    first_other (Makes (Issue access) rest) answers (Issue access) _ (run_of rest answers).events refl (λ e. cc)
stands false (Makes (Issue access) rest) o answers n (suc j) le =
    later false false (Makes (Issue access) rest) rest (Issue access) answers answers (run_of rest answers) j (stands false rest o answers n j (omega arith)) refl (λ e. omega arith) refl
stands false (Makes (Arrive stores) rest) o answers n zero le =
    first_other (Makes (Arrive stores) rest) answers (Arrive stores) _ (run_of rest answers).events refl (λ e. cc)
stands false (Makes (Arrive stores) rest) o answers n (suc j) le =
    later false true (Makes (Arrive stores) rest) rest (Arrive stores) answers answers (run_of rest answers) j (stands true rest o answers n j (omega arith)) (omega arith) (λ e. omega arith) refl
stands false (Makes (Wait counter) rest) o answers n k le = absurd o
stands false (Makes Pass rest) o answers n k le = absurd o
stands true (Makes ask rest) o answers n k le = absurd o
stands false (Asks (Wait counter) fits go) o [] n zero le =
    first_other (Asks (Wait counter) fits go) [] (Wait counter) _ [] refl (λ e. cc)
stands false (Asks (Wait counter) fits go) o [] n (suc zero) le = short_end (Asks (Wait counter) fits go) [] (Wait counter) false refl
stands false (Asks (Wait counter) fits go) o [] n (suc (suc j)) le = absurd (omega arith)
stands false (Asks (Wait counter) fits go) o (a ∷ as_) n k le =
    by (fits a) refl k le (λ f j l. stands false (go a) (o a f) as_ n.1 j l)
  where
    t : NodeDoing
    t = Asks (Wait counter) fits go

    same : fits a ≡ true → (run_of t (a ∷ (as_ ++ Broken ∷ []))).end ≡ (run_of (go a) (as_ ++ Broken ∷ [])).end
    same f = ap (λ (u : Bool). (if u then after_event (Wait counter) (run_of (go a) (as_ ++ Broken ∷ [])) else unanswered (Wait counter)).end) f

    by : (f : Bool) → fits a ≡ f → (k : ℕ) → k ≤ length (if f then after_event (Wait counter) (run_of (go a) as_) else unanswered (Wait counter)).events
        → (fits a ≡ true → (j : ℕ) → j ≤ length (run_of (go a) as_).events → Stands false (go a) as_ (run_of (go a) as_) j)
        → Stands false t (a ∷ as_) (if f then after_event (Wait counter) (run_of (go a) as_) else unanswered (Wait counter)) k
    by true h zero l rec = first_other t (a ∷ as_) (Wait counter) _ (run_of (go a) as_).events refl (λ e. cc)
    by true h (suc j) l rec =
        later false false t (go a) (Wait counter) (a ∷ as_) as_ (run_of (go a) as_) j (rec h j (omega arith)) refl (λ e. omega arith) (same h)
    by false h zero l rec = first_other t (a ∷ as_) (Wait counter) _ [] refl (λ e. cc)
    by false h (suc zero) l rec = short_end t (a ∷ as_) (Wait counter) false refl
    by false h (suc (suc j)) l rec = absurd (omega arith)
stands true (Asks Pass fits go) o [] n zero le = record {
  here = true;
  count = refl;
  passing = λ a h s. let e : Pass ≡ a = cc in sym e;
  elsewhere = λ a h s p. cc;
  over = λ end h s. cc;
  gives_up = λ h s.
      ap (λ (u : Bool). (if u then after_event Pass (run_of (go Broken) []) else unanswered Pass).end) o.1
      ∙ ap (λ (u : NodeDoing). (run_of u []).end) o.4;
}
stands true (Asks Pass fits go) o [] n (suc zero) le = short_end (Asks Pass fits go) [] Pass true refl
stands true (Asks Pass fits go) o [] n (suc (suc j)) le = absurd (omega arith)
stands true (Asks Pass fits go) o (Landed values ∷ as_) n k le = by (fits (Landed values)) (o.2 values) k le
  where
    t : NodeDoing
    t = Asks Pass fits go

    by : (f : Bool) → f ≡ false → (k : ℕ) → k ≤ length (if f then after_event Pass (run_of (go (Landed values)) as_) else unanswered Pass).events
        → Stands true t (Landed values ∷ as_) (if f then after_event Pass (run_of (go (Landed values)) as_) else unanswered Pass) k
    by true h k l = cc
    by false h zero l = first_pass t (Landed values) as_ (unanswered Pass) [] refl
    by false h (suc zero) l = short_end t (Landed values ∷ as_) Pass true refl
    by false h (suc (suc j)) l = absurd (omega arith)
stands true (Asks Pass fits go) o (Passed ∷ as_) n k le = by (fits Passed) o.0 k le (λ j l. stands false (go Passed) o.3 as_ n.1 j l)
  where
    t : NodeDoing
    t = Asks Pass fits go

    same : fits Passed ≡ true → (run_of t (Passed ∷ (as_ ++ Broken ∷ []))).end ≡ (run_of (go Passed) (as_ ++ Broken ∷ [])).end
    same f = ap (λ (u : Bool). (if u then after_event Pass (run_of (go Passed) (as_ ++ Broken ∷ [])) else unanswered Pass).end) f

    by : (f : Bool) → f ≡ true → (k : ℕ) → k ≤ length (if f then after_event Pass (run_of (go Passed) as_) else unanswered Pass).events
        → ((j : ℕ) → j ≤ length (run_of (go Passed) as_).events → Stands false (go Passed) as_ (run_of (go Passed) as_) j)
        → Stands true t (Passed ∷ as_) (if f then after_event Pass (run_of (go Passed) as_) else unanswered Pass) k
    by true h zero l rec = first_pass t Passed as_ (after_event Pass (run_of (go Passed) as_)) (run_of (go Passed) as_).events refl
    by true h (suc j) l rec =
        later true false t (go Passed) Pass (Passed ∷ as_) as_ (run_of (go Passed) as_) j (rec j (omega arith)) (omega arith) (λ e. omega arith) (same o.0)
    by false h k l rec = cc
stands true (Asks Pass fits go) o (Broken ∷ as_) n k le = absurd (n.0 refl)
stands false (Asks (Issue access) fits go) o answers n k le = elim o [ ]
stands false (Asks (Arrive stores) fits go) o answers n k le = elim o [ ]
stands false (Asks Pass fits go) o answers n k le = elim o [ ]
stands true (Asks (Issue access) fits go) o answers n k le = elim o [ ]
stands true (Asks (Wait counter) fits go) o answers n k le = elim o [ ]
stands true (Asks (Arrive stores) fits go) o answers n k le = elim o [ ]
stands b (Stops Stuck) o answers n zero le = stopped b (Stops Stuck) answers Stuck (λ e h. cc)
stands b (Stops Stuck) o answers n (suc k) le = absurd (omega arith)
stands b (Stops UsedUp) o answers n zero le = stopped b (Stops UsedUp) answers UsedUp (λ e h. cc)
stands b (Stops UsedUp) o answers n (suc k) le = absurd (omega arith)
stands false (Stops (Finish end)) o answers n zero le = stopped false (Stops (Finish end)) answers (Finish end) (λ e h. (refl, λ w. o (let x : end ≡ e = cc in x ∙ w)))
stands false (Stops (Finish end)) o answers n (suc k) le = absurd (omega arith)
stands true (Stops (Finish end)) o answers n k le = elim o [ ]
