-- Lists of nodes by number, and how many of the nodes can go on.
use Rattle.std.proofs.Common.{◌≡◌, ℕ, zero, suc, ◌+◌, ◌-◌, ◌%◌, ◌<◌, ◌≤◌, List, [], ◌∷◌, ◌++◌, get_or, length, Some, Bool, true, false, sym, ap, ◌∙◌, subst, arith}
use Rattle.std.specs.Prelude.{slice_get}
use Rattle.std.specs.Iterator.{Yields}
use Rattle.std.specs.Vec.Iter.{into_iter_items, into_iter_steps}
use Rattle.std.specs.declared.vec.IntoIter.{IntoIter}
use Rattle.sc_layout.specs.Layout.{Arrangement}
use Rattle.sc_layout.specs.Start.{start}
use Rattle.sc_isa.specs.declared.code.Code.{Code}
use Rattle.sc_isa.specs.Sound.{IsSound}
use Rattle.sc_isa.specs.declared.journal.Entry.{Entry}
use Rattle.fabric.specs.Flight.{in_flight}
use Rattle.fabric.specs.State.{State, start_of}
use Rattle.run_moves.specs.Moves.{moves, step_of, steps_below}
use Rattle.run_moves.specs.OfCode.{machine_of}
use Rattle.run_moves.specs.Simulated.{IsPicked}
use Rattle.code_sim.specs.declared.node.Runner.{Runner}
use Rattle.code_sim.specs.Enough.{Suffices}
use Rattle.code_sim.specs.Asking.{IsRunner}
use Rattle.code_sim.specs.UnderWay.{AllPlaced, IsUnderWay, IsStepped, IsMoved, one_if}
use Rattle.code_sim.proofs.Enough.{enough}
use Rattle.code_sim.proofs.Moving.{one_more, all_moves}

-- ---- lists

pub got_at : {A : Type 0} (xs : List A) (i : ℕ) (x : A) → i < length xs → x ≡ get_or xs i x → slice_get xs i ≡ Some x
got_at [] i x h e = absurd (omega arith)
got_at (y ∷ ys) zero x h e = ap (λ z. Some z) (sym e)
got_at (y ∷ ys) (suc i) x h e = got_at ys i x (omega arith) e

-- what holds of each, and of one more put last, by number
pub each_with : {A : Type 0} (P : ℕ → A → Type 0) (xs : List A) (x : A) → ((p : ℕ) (y : A) → slice_get xs p ≡ Some y → P p y) → P (length xs) x
    → (p : ℕ) (y : A) → slice_get (xs ++ x ∷ []) p ≡ Some y → P p y
each_with P [] x each last zero y e = let h : x ≡ y = cc in subst (P 0) h last
each_with P [] x each last (suc p) y e = cc
each_with P (z ∷ zs) x each last zero y e = each 0 y e
each_with P (z ∷ zs) x each last (suc p) y e = each_with (λ i. P (suc i)) zs x (λ i w h. each (suc i) w h) last p y e

-- what holds of the pairs of two lists, and of one pair more put last
pub pairs_with : {A B : Type 0} (R : A → B → Type 0) (xs rest : List A) (ys : List B) (a : A) (b : B) → length ys ≡ length xs
    → ((p : ℕ) (x : A) (y : B) → slice_get (xs ++ a ∷ rest) p ≡ Some x → slice_get ys p ≡ Some y → R x y) → R a b
    → (p : ℕ) (x : A) (y : B) → slice_get (xs ++ a ∷ rest) p ≡ Some x → slice_get (ys ++ b ∷ []) p ≡ Some y → R x y
pairs_with R [] rest [] a b n each last zero x y e f = let h : a ≡ x = cc in let i : b ≡ y = cc in subst (λ z. R z y) h (subst (R a) i last)
pairs_with R [] rest [] a b n each last (suc p) x y e f = cc
pairs_with R [] rest (z ∷ ys) a b n each last p x y e f = absurd (omega arith)
pairs_with R (w ∷ xs) rest [] a b n each last p x y e f = absurd (omega arith)
pairs_with R (w ∷ xs) rest (z ∷ ys) a b n each last zero x y e f = each 0 x y e f
pairs_with R (w ∷ xs) rest (z ∷ ys) a b n each last (suc p) x y e f =
    pairs_with R xs rest ys a b (omega arith) (λ i u v g h. each (suc i) u v g h) last p x y e f

-- what the iterator of a vector has given is a front of its items
pub given_front : {X A : Type 0} (s : IntoIter X A) (xs : List X) (t : IntoIter X A) → Yields into_iter_steps s xs t → into_iter_items s ≡ xs ++ into_iter_items t
given_front s [] t y = ap into_iter_items y
given_front s (x ∷ xs) t y = y.1.0 ∙ ap (λ ys. x ∷ ys) (given_front y.0 xs t y.2)

-- ---- a node under its own budget

module _ (code : Code) (layout : Arrangement) (budget : ℕ) (fabric : State) (nodes : List Runner) (u : IsUnderWay code layout budget fabric nodes)
    (number : ℕ) (runner : Runner) (got : slice_get nodes number ≡ Some runner) where
  its_budget : runner.node.budget ≡ budget
  its_budget = (u.each number runner got).its_budget

  pub by_itself : IsRunner code layout runner.node.budget fabric.past number runner
  by_itself = subst (λ b. IsRunner code layout b fabric.past number runner) (sym its_budget) (u.each number runner got)

  pub for_itself : ((many : ℕ) → Suffices code layout budget many → length (step_of (machine_of layout code budget many) fabric.past number) ≡ 1)
      → (many : ℕ) → Suffices code layout runner.node.budget many → length (step_of (machine_of layout code runner.node.budget many) fabric.past number) ≡ 1
  for_itself h = subst (λ b. (many : ℕ) → Suffices code layout b many → length (step_of (machine_of layout code b many) fabric.past number) ≡ 1) (sym its_budget) h

  pub for_all : (new : State) (changed : Runner) → IsStepped code layout runner.node.budget number fabric new changed → IsStepped code layout budget number fabric new changed
  for_all new changed s = subst (λ b. IsStepped code layout b number fabric new changed) its_budget s

  module _ (may : Bool) (f : (many : ℕ) → Suffices code layout runner.node.budget many → length (step_of (machine_of layout code runner.node.budget many) fabric.past number) ≡ one_if may) where
    steps : (many : ℕ) → Suffices code layout budget many → length (step_of (machine_of layout code budget many) fabric.past number) ≡ one_if may
    steps = subst (λ b. (many : ℕ) → Suffices code layout b many → length (step_of (machine_of layout code b many) fabric.past number) ≡ one_if may) its_budget f

    pub goes : may ≡ true → (many : ℕ) → Suffices code layout budget many → length (step_of (machine_of layout code budget many) fabric.past number) ≡ 1
    goes h = λ many s. steps many s ∙ ap one_if h

    pub counted : may ≡ true → (many : ℕ) → Suffices code layout budget many
        → length (steps_below (machine_of layout code budget many) fabric.past (number + 1)) ≡ length (steps_below (machine_of layout code budget many) fabric.past number) + 1
    counted h = λ many s. one_more (machine_of layout code budget many) fabric.past number
        ∙ ap (λ n. length (steps_below (machine_of layout code budget many) fabric.past number) + n) (goes h many s)

    pub passed_over : may ≡ false → (many : ℕ) → Suffices code layout budget many
        → length (steps_below (machine_of layout code budget many) fabric.past (number + 1)) ≡ length (steps_below (machine_of layout code budget many) fabric.past number)
    passed_over h = λ many s. one_more (machine_of layout code budget many) fabric.past number
        ∙ ap (λ n. length (steps_below (machine_of layout code budget many) fabric.past number) + n) (steps many s ∙ ap one_if h)
        ∙ nothing_more (length (steps_below (machine_of layout code budget many) fabric.past number))
      where
        nothing_more : (n : ℕ) → n + 0 ≡ n
        nothing_more n = omega arith

module _ (code : Code) (layout : Arrangement) (sound : IsSound code layout) (budget : ℕ) (fabric : State) (nodes : List Runner) (u : IsUnderWay code layout budget fabric nodes) (k : ℕ) where
  -- a number below all of those that can go on is reached
  pub not_beyond : (n left : ℕ) → n ≡ length nodes
      → ((many : ℕ) → Suffices code layout budget many → left + length (steps_below (machine_of layout code budget many) fabric.past n) ≡ k)
      → ((many : ℕ) → Suffices code layout budget many → k < length (steps_below (machine_of layout code budget many) fabric.past layout.nodes)) → ⊥
  not_beyond n left e h within =
      let all = enough code layout sound budget in
      let a = h all.0 all.1 in
      let b = within all.0 all.1 in
      let same : n ≡ layout.nodes = e ∙ u.count in
      let c : length (steps_below (machine_of layout code budget all.0) fabric.past n) ≡ length (steps_below (machine_of layout code budget all.0) fabric.past layout.nodes) =
      ap (λ i. length (steps_below (machine_of layout code budget all.0) fabric.past i)) same in
      omega (arith, a, b, c)

  -- a move past those of the nodes is a delivery
  pub is_delivery : (ready : ℕ) → ready ≤ k
      → ((many : ℕ) → Suffices code layout budget many → ready ≡ length (steps_below (machine_of layout code budget many) fabric.past layout.nodes))
      → ((many : ℕ) → Suffices code layout budget many → k < length (moves (machine_of layout code budget many) fabric.past))
      → k - ready < length (in_flight (start_of fabric) fabric.past)
  is_delivery ready le h within =
      let all = enough code layout sound budget in
      let a = h all.0 all.1 in
      let b = within all.0 all.1 in
      let c = all_moves code layout budget fabric nodes u all.0 in
      let d : length (in_flight (start_of fabric) fabric.past) ≡ length (in_flight (start layout) fabric.past) =
      ap (λ (l : Arrangement). length (in_flight (start l) fabric.past)) u.laid.layout_is in
      omega (arith, a, b, c, d, le)

-- ---- a run begins, and goes on by one move

module _ (code : Code) (layout : Arrangement) (budget : ℕ) where
  pub begins : (fabric : State) (nodes : List Runner) → fabric.memory.layout ≡ layout → fabric.book.sites ≡ code.sites → fabric.past ≡ [] → length nodes ≡ layout.nodes
      → ((number : ℕ) (runner : Runner) → slice_get nodes number ≡ Some runner → IsRunner code layout budget [] number runner) → IsUnderWay code layout budget fabric nodes
  begins fabric nodes l s p count each = record {
    laid = record { layout_is = l; sites = s; placed = subst (AllPlaced layout) (sym p) none };
    count = count;
    each = λ number runner e. subst (λ (past : List Entry). IsRunner code layout budget past number runner) (sym p) (each number runner e);
  }
    where
      none : AllPlaced layout []
      none node number access e = cc

  pub one_longer : (k : ℕ) (old new : List Entry) → IsMoved code layout budget k old new → length new ≡ length old + 1
  one_longer k old new m = let e : length new ≡ length (m.entry ∷ old) = ap (λ (l : List Entry). length l) m.later_is in omega (arith, e)

  pub picked_on : (words : ℕ → ℕ) (k count : ℕ) (old new : List Entry) → IsMoved code layout budget k old new → k ≡ words (length old) % count
      → ((many : ℕ) → Suffices code layout budget many → count ≡ length (moves (machine_of layout code budget many) old))
      → ((many : ℕ) → Suffices code layout budget many → IsPicked (machine_of layout code budget many) words old)
      → (many : ℕ) → Suffices code layout budget many → IsPicked (machine_of layout code budget many) words new
  picked_on words k count old new m value counts before = λ many s.
      subst (IsPicked (machine_of layout code budget many) words) (sym m.later_is) (step many s, before many s)
    where
      step : (many : ℕ) → Suffices code layout budget many
          → slice_get (moves (machine_of layout code budget many) old) (words (length old) % length (moves (machine_of layout code budget many) old)) ≡ Some m.entry
      step many s =
          ap (λ n. slice_get (moves (machine_of layout code budget many) old) (words (length old) % n)) (sym (counts many s))
          ∙ ap (slice_get (moves (machine_of layout code budget many) old)) (sym value)
          ∙ m.is_move many s
