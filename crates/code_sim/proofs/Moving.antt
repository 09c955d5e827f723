-- The moves of a run under way: those of the nodes, by number, and the deliveries after them.
use Rattle.std.proofs.Common.{◌≡◌, ℕ, zero, suc, ◌+◌, ◌-◌, ◌<◌, ◌≤◌, List, [], ◌∷◌, ◌++◌, length, map, Some, refl, sym, ap, ◌∙◌, subst, arith, length-append, append_assoc}
use Rattle.std.specs.Prelude.{slice_get, slice_set}
use Rattle.fabric.proofs.Deciding.{decide_eq}
use Rattle.sc_layout.specs.Layout.{Arrangement}
use Rattle.sc_layout.specs.Start.{start}
use Rattle.sc_isa.specs.declared.code.Code.{Code}
use Rattle.sc_isa.specs.declared.journal.Entry.{Entry}
use Rattle.msg_pool.specs.declared.message.Message.{Message}
use Rattle.msg_pool.specs.Pool.{Pending}
use Rattle.fabric.specs.Effects.{effects}
use Rattle.fabric.specs.Flight.{in_flight}
use Rattle.fabric.specs.State.{State, start_of}
use Rattle.fabric.specs.Kept.{IsOfJournal}
use Rattle.fabric.specs.Asked.{Machine}
use Rattle.run_moves.specs.Moves.{moves, steps_below, step_of, delivery}
use Rattle.code_sim.specs.declared.node.Runner.{Runner}
use Rattle.run_moves.specs.OfCode.{machine_of}
use Rattle.code_sim.specs.Enough.{Suffices}
use Rattle.code_sim.specs.Asking.{IsRunner}
use Rattle.code_sim.specs.UnderWay.{AllPlaced, IsUnderWay, IsStepped, IsDelivered, IsMoved}
use Rattle.code_sim.proofs.Others.{runner_same, other_same, delivered_same}

-- ---- lists

add_one : (n : ℕ) → n + 1 ≡ suc n
add_one n = omega arith

got_after : {X : Type 0} (xs rest : List X) (x : X) → slice_get (xs ++ x ∷ rest) (length xs) ≡ Some x
got_after [] rest x = refl
got_after (y ∷ ys) rest x = got_after ys rest x

got_past : {X : Type 0} (xs ys : List X) (k : ℕ) → length xs ≤ k → slice_get (xs ++ ys) k ≡ slice_get ys (k - length xs)
got_past [] ys k le = ap (slice_get ys) (omega arith)
got_past (x ∷ xs) ys zero le = absurd (omega arith)
got_past (x ∷ xs) ys (suc k) le = got_past xs ys k (omega arith) ∙ ap (slice_get ys) (omega arith)

got_mapped : {X Y : Type 0} (f : X → Y) (xs : List X) (k : ℕ) (x : X) → slice_get xs k ≡ Some x → slice_get (map f xs) k ≡ Some (f x)
got_mapped f [] k x e = cc
got_mapped f (y ∷ ys) zero x e = let h : y ≡ x = cc in ap (λ z. Some (f z)) h
got_mapped f (y ∷ ys) (suc k) x e = got_mapped f ys k x e

mapped_length : {X Y : Type 0} (f : X → Y) (xs : List X) → length (map f xs) ≡ length xs
mapped_length f [] = refl
mapped_length f (x ∷ xs) = ap suc (mapped_length f xs)

got_set : (xs : List Runner) (i : ℕ) (v : Runner) (w : Runner) → slice_get (slice_set xs i v) i ≡ Some w → v ≡ w
got_set [] i v w e = cc
got_set (x ∷ xs) zero v w e = cc
got_set (x ∷ xs) (suc i) v w e = got_set xs i v w e

got_other : (xs : List Runner) (i k : ℕ) (v w : Runner) → (i ≡ k → ⊥) → slice_get (slice_set xs i v) k ≡ Some w → slice_get xs k ≡ Some w
got_other [] i k v w ne e = cc
got_other (x ∷ xs) zero zero v w ne e = absurd (ne refl)
got_other (x ∷ xs) zero (suc k) v w ne e = e
got_other (x ∷ xs) (suc i) zero v w ne e = e
got_other (x ∷ xs) (suc i) (suc k) v w ne e = got_other xs i k v w (λ h. ne (ap suc h)) e

set_length : (xs : List Runner) (i : ℕ) (v : Runner) → length (slice_set xs i v) ≡ length xs
set_length [] i v = refl
set_length (x ∷ xs) zero v = refl
set_length (x ∷ xs) (suc i) v = ap suc (set_length xs i v)

pub there_is : (xs : List Runner) (k : ℕ) → k < length xs → (x : Runner) × (slice_get xs k ≡ Some x)
there_is [] k lt = absurd (omega arith)
there_is (y ∷ ys) zero lt = (y, refl)
there_is (y ∷ ys) (suc k) lt = there_is ys k (omega arith)

-- ---- steps by number

pub one_more : (M : Machine) (past : List Entry) (n : ℕ) → length (steps_below M past (n + 1)) ≡ length (steps_below M past n) + length (step_of M past n)
one_more M past n = ap (λ k. length (steps_below M past k)) (add_one n) ∙ length-append (steps_below M past n) (step_of M past n)

step_there : (M : Machine) (past : List Entry) (number : ℕ) (entry : Entry) → step_of M past number ≡ entry ∷ [] → (n : ℕ) → number < n → (rest : List Entry)
    → slice_get (steps_below M past n ++ rest) (length (steps_below M past number)) ≡ Some entry
step_there M past number entry s zero lt rest = absurd (omega arith)
step_there M past number entry s (suc n) lt rest =
    ap (λ l. slice_get l (length (steps_below M past number))) (append_assoc (steps_below M past n) (step_of M past n) rest)
    ∙ decide_eq number n
    (λ e. ap (λ k. slice_get (steps_below M past n ++ (step_of M past n ++ rest)) (length (steps_below M past k))) e
    ∙ ap (λ k. slice_get (steps_below M past n ++ (step_of M past k ++ rest)) (length (steps_below M past n))) (sym e)
    ∙ ap (λ l. slice_get (steps_below M past n ++ (l ++ rest)) (length (steps_below M past n))) s
    ∙ got_after (steps_below M past n) rest entry)
    (λ ne. step_there M past number entry s n (omega arith) (step_of M past n ++ rest))

-- ---- a step of a node

module _ (code : Code) (layout : Arrangement) (budget : ℕ) (old : State) (nodes : List Runner) (u : IsUnderWay code layout budget old nodes) where
  pub step_under_way : (new : State) (number : ℕ) (runner : Runner) → IsStepped code layout budget number old new runner
      → IsUnderWay code layout budget new (slice_set nodes number runner)
  step_under_way new number runner s = record {
    laid = s.laid;
    count = set_length nodes number runner ∙ u.count;
    each = λ k r e.
        decide_eq number k
        (λ same. (let e' : slice_get (slice_set nodes number runner) number ≡ Some r = ap (slice_get (slice_set nodes number runner)) same ∙ e in
        subst (λ i. IsRunner code layout budget new.past i r) same (subst (IsRunner code layout budget new.past number) (got_set nodes number runner r e') s.runner)))
        (λ ne. subst (λ l. IsRunner code layout budget l k r) (sym s.past)
        (runner_same code layout budget old.past (s.entry ∷ old.past) k r (other_same code layout budget old.past s.entry number k s.own ne)
        (u.each k r (got_other nodes number k runner r ne e))));
  }

  pub step_moved : (new : State) (number k : ℕ) (runner : Runner) → number < layout.nodes → IsStepped code layout budget number old new runner
      → ((many : ℕ) → Suffices code layout budget many → k ≡ length (steps_below (machine_of layout code budget many) old.past number))
      → IsMoved code layout budget k old.past new.past
  step_moved new number k runner within s h = record {
    entry = s.entry;
    later_is = s.past;
    is_move = λ many e.
        ap (slice_get (moves (machine_of layout code budget many) old.past)) (h many e)
        ∙ step_there (machine_of layout code budget many) old.past number s.entry (s.is_step many e) layout.nodes within
        (map (delivery (start layout) (effects (start layout) old.past)) (in_flight (start layout) old.past));
  }

  -- ---- a delivery

  pub delivery_under_way : (new : State) (k : ℕ) → IsDelivered old new k → IsUnderWay code layout budget new nodes
  delivery_under_way new k d = record {
    laid = record { layout_is = d.layout ∙ u.laid.layout_is; sites = d.sites ∙ u.laid.sites; placed = subst (AllPlaced layout) (sym d.past) u.laid.placed };
    count = u.count;
    each = λ i r e. subst (λ l. IsRunner code layout budget l i r) (sym d.past)
        (runner_same code layout budget old.past (delivery (start_of old) (effects (start_of old) old.past) d.message ∷ old.past) i r
        (delivered_same code layout budget old.past d.message.issuer d.message.number d.message.cell _ i) (u.each i r e));
  }

  pub delivery_moved : (new : State) (ready k : ℕ) → ready ≤ k → IsDelivered old new (k - ready)
      → ((many : ℕ) → Suffices code layout budget many → ready ≡ length (steps_below (machine_of layout code budget many) old.past layout.nodes))
      → IsMoved code layout budget k old.past new.past
  delivery_moved new ready k le d h = record {
    entry = delivery (start_of old) (effects (start_of old) old.past) d.message;
    later_is = d.past;
    is_move = λ many e.
        (let M : Machine = machine_of layout code budget many in
        let r : ready ≡ length (steps_below M old.past layout.nodes) = h many e in
        got_past (steps_below M old.past layout.nodes) (map (delivery (start layout) (effects (start layout) old.past)) (in_flight (start layout) old.past)) k (omega arith)
        ∙ got_mapped (delivery (start layout) (effects (start layout) old.past)) (in_flight (start layout) old.past) (k - length (steps_below M old.past layout.nodes)) d.message
        (ap (λ i. slice_get (in_flight (start layout) old.past) (k - i)) (sym r)
        ∙ subst (λ (l : Arrangement). slice_get (in_flight (start l) old.past) (k - ready) ≡ Some d.message) u.laid.layout_is d.is)
        ∙ subst (λ (l : Arrangement). Some (delivery (start layout) (effects (start layout) old.past) d.message) ≡ Some (delivery (start l) (effects (start l) old.past) d.message))
        (sym u.laid.layout_is) refl);
  }

  -- ---- how many moves there are

  pub flying : IsOfJournal old → length old.pool.pending ≡ length (in_flight (start layout) old.past)
  flying j =
      sym (mapped_length (λ (p : Pending). p.message) old.pool.pending)
      ∙ ap (λ (l : List Message). length l) j.messages
      ∙ ap (λ (l : Arrangement). length (in_flight (start l) old.past)) u.laid.layout_is

  pub all_moves : (many : ℕ) → length (moves (machine_of layout code budget many) old.past)
      ≡ length (steps_below (machine_of layout code budget many) old.past layout.nodes) + length (in_flight (start layout) old.past)
  all_moves many =
      length-append (steps_below (machine_of layout code budget many) old.past layout.nodes) (map (delivery (start layout) (effects (start layout) old.past)) (in_flight (start layout) old.past))
      ∙ ap (λ n. length (steps_below (machine_of layout code budget many) old.past layout.nodes) + n)
      (mapped_length (delivery (start layout) (effects (start layout) old.past)) (in_flight (start layout) old.past))
