-- The test of what the fabric keeps is exact.
use Rattle.std.proofs.Common.{◌≡◌, inl, inr, ⊎_elim, ℕ, zero, suc, ◌+◌, ◌<◌, ◌≤◌, List, [], ◌∷◌, Option, Some, None, Bool, true, not, ◌&&◌, ◌||◌, ◌==◌, refl, sym, ap, ◌∙◌, subst, arith}
use Rattle.std.specs.Prelude.{is_some, is_none, nat_lt, nat_le}
use Rattle.std.proofs.lemmas.Bool.{eq-eqb, eqb-true, and_parts, and_from, or_cases, or_left, or_right, ltb-true, lt-ltb, leb-true, le-leb}
use Rattle.sc_base.specs.declared.value.Value.{Value}
use Rattle.sc_base.specs.declared.value.Place.{Place}
use Rattle.sc_base.specs.declared.value.End.{End}
use Rattle.sc_base.specs.declared.value.End.TheVariants.{Ended, Fault, Cut, Waiting}
use Rattle.effect_order.specs.Effect.{Effect}
use Rattle.effect_order.proofs.Equal.{value_is, value_self}
use Rattle.sc_isa.specs.declared.access.Access.{Access}
use Rattle.sc_isa.specs.declared.access.Track.{Track}
use Rattle.sc_isa.specs.declared.journal.Entry.{Entry}
use Rattle.sc_isa.specs.declared.journal.Entry.TheVariants.{Issued, Delivered, Waited, Arrived, Passed, Finished}
use Rattle.fabric.specs.Access.{is_counter, is_store, is_covered}
use Rattle.fabric.specs.Effects.{access_at, issues, effects, at_delivery}
use Rattle.fabric.specs.Barriers.{arrivals, passes, released, stores_at, finished}
use Rattle.fabric.specs.Outstanding.{outstanding}
use Rattle.fabric.specs.Wired.{AllDone, Running, Going, DeliveryWired, PassWired, IsBroken, EntryWired, Wired}
use Rattle.fabric.specs.WiredTest.{all_below, any_below, is_running, is_going, has_value, is_delivery, is_done, is_landed, is_clear, is_pass, stands_next, is_broken, entry_wired, wired}
use Rattle.fabric.proofs.Deciding.{decide_on, decide_eq, decide_lt}
use Rattle.fabric.proofs.Done.{all_done, done_all}

-- ---- tests of numbers

pub below_all : (n : ℕ) (test : ℕ → Bool) → all_below n test ≡ true → (k : ℕ) → k < n → test k ≡ true
below_all zero test h k b = absurd (omega arith)
below_all (suc n) test h k b =
    let a = and_parts (test n) (all_below n test) h in
    decide_eq k n (λ same. subst (λ x. test x ≡ true) (sym same) a.0) (λ differ. below_all n test a.1 k (omega arith))

pub all_from : (n : ℕ) (test : ℕ → Bool) → ((k : ℕ) → k < n → test k ≡ true) → all_below n test ≡ true
all_from zero test f = refl
all_from (suc n) test f = and_from (test n) (all_below n test) (f n (omega arith)) (all_from n test (λ k b. f k (omega arith)))

-- some number below the bound passes
pub record Found (n : ℕ) (test : ℕ → Bool) : Type 0 where
  pub at : ℕ
  pub within : at < n
  pub passes_it : test at ≡ true

pub found_any : (n : ℕ) (test : ℕ → Bool) → any_below n test ≡ true → Found n test
found_any zero test h = cc
found_any (suc n) test h =
    ⊎_elim (λ a. record { at = n; within = omega arith; passes_it = a })
    (λ b. let f = found_any n test b in let w : f.at < n = f.within in record { at = f.at; within = omega arith; passes_it = f.passes_it })
    (or_cases (test n) (any_below n test) h)

pub any_found : (n : ℕ) (test : ℕ → Bool) (k : ℕ) → k < n → test k ≡ true → any_below n test ≡ true
any_found zero test k b h = absurd (omega arith)
any_found (suc n) test k b h =
    decide_eq k n
    (λ same. or_left (test n) (any_below n test) (subst (λ x. test x ≡ true) same h))
    (λ differ. or_right (test n) (any_below n test) (any_found n test k (omega arith) h))

-- ---- nodes

none_is : (o : Option End) → is_none o ≡ true → o ≡ None
none_is None h = refl
none_is (Some e) h = cc

running_of : (nodes : ℕ) (past : List Entry) (node : ℕ) → is_running nodes past node ≡ true → Running nodes past node
running_of nodes past node h =
    let a = and_parts (nat_lt node nodes) (is_none (finished node past)) h in
    record { node_within = ltb-true node nodes a.0; not_finished = none_is (finished node past) a.1 }

of_running : (nodes : ℕ) (past : List Entry) (node : ℕ) → Running nodes past node → is_running nodes past node ≡ true
of_running nodes past node r = and_from (nat_lt node nodes) (is_none (finished node past)) (lt-ltb node nodes r.node_within) (rw r.not_finished refl)

going_of : (nodes : ℕ) (past : List Entry) (node : ℕ) → is_going nodes past node ≡ true → Going nodes past node
going_of nodes past node h =
    let a = and_parts (is_running nodes past node) (arrivals node past == passes node past) h in
    record { running = running_of nodes past node a.0; at_no_barrier = eqb-true _ _ a.1 }

of_going : (nodes : ℕ) (past : List Entry) (node : ℕ) → Going nodes past node → is_going nodes past node ≡ true
of_going nodes past node g =
    and_from (is_running nodes past node) (arrivals node past == passes node past) (of_running nodes past node g.running) (eq-eqb _ _ g.at_no_barrier)

-- ---- entries

delivery_of : (start : Place → Value) (nodes : ℕ) (past : List Entry) (node number cell : ℕ) (value : Value) (o : Option Access) (e : Option Effect)
    → node < nodes → access_at node number past ≡ o → at_delivery start o node number cell (effects start past) ≡ e → has_value value e ≡ true
    → DeliveryWired start nodes past node number cell value
delivery_of start nodes past node number cell value None e w at d h = let x : None ≡ e = d in absurd (no_value e (sym x) h)
  where
    no_value : (e : Option Effect) → e ≡ None → has_value value e ≡ true → ⊥
    no_value None s h = cc
    no_value (Some f) s h = cc
delivery_of start nodes past node number cell value (Some a) None w at d h = cc
delivery_of start nodes past node number cell value (Some a) (Some e) w at d h =
    record { node_within = w; access = a; issued = at; part = e; is_due = d; its_value = value_is value e.value h }

is_delivery_of : (start : Place → Value) (nodes : ℕ) (past : List Entry) (node number cell : ℕ) (value : Value) → is_delivery start nodes past node number cell value ≡ true
    → DeliveryWired start nodes past node number cell value
is_delivery_of start nodes past node number cell value h =
    let a = and_parts (nat_lt node nodes) (has_value value (at_delivery start (access_at node number past) node number cell (effects start past))) h in
    delivery_of start nodes past node number cell value (access_at node number past) (at_delivery start (access_at node number past) node number cell (effects start past))
    (ltb-true node nodes a.0) refl refl a.1

of_delivery : (start : Place → Value) (nodes : ℕ) (past : List Entry) (node number cell : ℕ) (value : Value)
    → DeliveryWired start nodes past node number cell value → is_delivery start nodes past node number cell value ≡ true
of_delivery start nodes past node number cell value d =
    and_from (nat_lt node nodes) (has_value value (at_delivery start (access_at node number past) node number cell (effects start past)))
    (lt-ltb node nodes d.node_within) (rw (d.issued, d.is_due) (value_self value d.part.value d.its_value))

done_of : (start : Place → Value) (past : List Entry) (on : Track → Bool) (node : ℕ) → is_done start past on node ≡ true → AllDone start past on node
done_of start past on node h = all_done start on node past (eqb-true (outstanding start (λ other. other == node) on past) 0 h)

of_done : (start : Place → Value) (nodes : ℕ) (past : List Entry) (on : Track → Bool) (node : ℕ) → Wired start nodes past → AllDone start past on node → is_done start past on node ≡ true
of_done start nodes past on node w d = eq-eqb (outstanding start (λ other. other == node) on past) 0 (done_all start nodes on node past w d)

-- where the m-th release is not passed yet, all covered parts have occurred, and the stores that it waits for
pub record Cleared (start : Place → Value) (nodes : ℕ) (past : List Entry) (m : ℕ) : Type 0 where
  pub covered_done : released past < m → (other : ℕ) → other < nodes → AllDone start past is_covered other
  pub stores_done : released past < m → stores_at m past ≡ true → (other : ℕ) → other < nodes → AllDone start past is_store other

cleared_of : (start : Place → Value) (nodes : ℕ) (past : List Entry) (m : ℕ) → is_clear start nodes past m ≡ true → Cleared start nodes past m
cleared_of start nodes past m h =
    ⊎_elim
    (λ passed. let le : m ≤ released past = leb-true m (released past) passed in
    record { covered_done = λ before. absurd (omega arith); stores_done = λ before. absurd (omega arith) })
    (λ now. let a = and_parts (is_landed start nodes past is_covered) (not (stores_at m past) || is_landed start nodes past is_store) now in
    record {
      covered_done = λ before other within. done_of start past is_covered other (below_all nodes (is_done start past is_covered) a.0 other within);
      stores_done = λ before waits other within.
          ⊎_elim (λ none. (let x : not true ≡ true = ap not (sym waits) ∙ none in cc))
          (λ all. done_of start past is_store other (below_all nodes (is_done start past is_store) all other within))
          (or_cases (not (stores_at m past)) (is_landed start nodes past is_store) a.1);
    })
    (or_cases (nat_le m (released past)) (is_landed start nodes past is_covered && (not (stores_at m past) || is_landed start nodes past is_store)) h)

of_cleared : (start : Place → Value) (nodes : ℕ) (past : List Entry) (m : ℕ) → Wired start nodes past → Cleared start nodes past m → is_clear start nodes past m ≡ true
of_cleared start nodes past m w c =
    decide_lt (released past) m
    (λ before. or_right (nat_le m (released past)) (is_landed start nodes past is_covered && (not (stores_at m past) || is_landed start nodes past is_store))
    (and_from (is_landed start nodes past is_covered) (not (stores_at m past) || is_landed start nodes past is_store)
    (all_from nodes (is_done start past is_covered) (λ other within. of_done start nodes past is_covered other w (c.covered_done before other within)))
    (decide_on (stores_at m past)
    (λ waits. or_right (not (stores_at m past)) (is_landed start nodes past is_store)
    (all_from nodes (is_done start past is_store) (λ other within. of_done start nodes past is_store other w (c.stores_done before waits other within))))
    (λ none. or_left (not (stores_at m past)) (is_landed start nodes past is_store) (ap not none)))))
    (λ passed. or_left (nat_le m (released past)) (is_landed start nodes past is_covered && (not (stores_at m past) || is_landed start nodes past is_store)) (le-leb m (released past) passed))

pass_of : (start : Place → Value) (nodes : ℕ) (past : List Entry) (node : ℕ) → is_pass start nodes past node ≡ true → PassWired start nodes past node
pass_of start nodes past node h =
    let m : ℕ = passes node past + 1 in
    let a = and_parts (is_running nodes past node) (all_below nodes (λ other. nat_le m (arrivals other past)) && is_clear start nodes past m) h in
    let b = and_parts (all_below nodes (λ other. nat_le m (arrivals other past))) (is_clear start nodes past m) a.1 in
    let c = cleared_of start nodes past m b.1 in
    record {
      running = running_of nodes past node a.0;
      all_arrived = λ other within. leb-true m (arrivals other past) (below_all nodes (λ other. nat_le m (arrivals other past)) b.0 other within);
      covered_done = c.covered_done;
      stores_done = c.stores_done;
    }

of_pass : (start : Place → Value) (nodes : ℕ) (past : List Entry) (node : ℕ) → Wired start nodes past → PassWired start nodes past node → is_pass start nodes past node ≡ true
of_pass start nodes past node w p =
    let m : ℕ = passes node past + 1 in
    and_from (is_running nodes past node) (all_below nodes (λ other. nat_le m (arrivals other past)) && is_clear start nodes past m) (of_running nodes past node p.running)
    (and_from (all_below nodes (λ other. nat_le m (arrivals other past))) (is_clear start nodes past m)
    (all_from nodes (λ other. nat_le m (arrivals other past)) (λ other within. le-leb m (arrivals other past) (p.all_arrived other within)))
    (of_cleared start nodes past m w (record { covered_done = p.covered_done; stores_done = p.stores_done })))

broken_of : (nodes : ℕ) (past : List Entry) (node : ℕ) → is_broken nodes past node ≡ true → IsBroken nodes past node
broken_of nodes past node h =
    let others : ℕ → Bool = λ other. stands_next past other || is_some (finished other past) in
    let gone : ℕ → Bool = λ other. is_some (finished other past) in
    let a = and_parts (stands_next past node) (all_below nodes others && any_below nodes gone) h in
    let b = and_parts (all_below nodes others) (any_below nodes gone) a.1 in
    let f = found_any nodes gone b.1 in
    record {
      stands = eqb-true _ _ a.0;
      others = λ other within. ⊎_elim (λ s. inl (eqb-true _ _ s)) (λ g. inr g) (or_cases (stands_next past other) (is_some (finished other past)) (below_all nodes others b.0 other within));
      gone = f.at;
      gone_within = f.within;
      is_gone = f.passes_it;
    }

of_broken : (nodes : ℕ) (past : List Entry) (node : ℕ) → IsBroken nodes past node → is_broken nodes past node ≡ true
of_broken nodes past node b =
    let others : ℕ → Bool = λ other. stands_next past other || is_some (finished other past) in
    let gone : ℕ → Bool = λ other. is_some (finished other past) in
    and_from (stands_next past node) (all_below nodes others && any_below nodes gone) (eq-eqb _ _ b.stands)
    (and_from (all_below nodes others) (any_below nodes gone)
    (all_from nodes others (λ other within. ⊎_elim (λ s. or_left (stands_next past other) (is_some (finished other past)) (eq-eqb _ _ s))
    (λ g. or_right (stands_next past other) (is_some (finished other past)) g) (b.others other within)))
    (any_found nodes gone b.gone b.gone_within b.is_gone))

entry_of : (start : Place → Value) (nodes : ℕ) (past : List Entry) (entry : Entry) → entry_wired start nodes past entry ≡ true → EntryWired start nodes past entry
entry_of start nodes past (Issued node number access) h =
    let a = and_parts (is_going nodes past node) (number == issues node past) h in
    record { going = going_of nodes past node a.0; numbered = eqb-true _ _ a.1 }
entry_of start nodes past (Delivered node number cell value) h = is_delivery_of start nodes past node number cell value h
entry_of start nodes past (Waited node counter) h =
    let a = and_parts (is_going nodes past node) (is_done start past (is_counter counter) node) h in
    record { going = going_of nodes past node a.0; all_done = done_of start past (is_counter counter) node a.1 }
entry_of start nodes past (Arrived node stores) h = going_of nodes past node h
entry_of start nodes past (Passed node) h = pass_of start nodes past node h
entry_of start nodes past (Finished node Ended) h = going_of nodes past node h
entry_of start nodes past (Finished node (Fault kind line)) h = going_of nodes past node h
entry_of start nodes past (Finished node Cut) h = going_of nodes past node h
entry_of start nodes past (Finished node Waiting) h =
    let a = and_parts (is_running nodes past node) (is_broken nodes past node) h in
    record { running = running_of nodes past node a.0; broken = broken_of nodes past node a.1 }

of_entry : (start : Place → Value) (nodes : ℕ) (past : List Entry) → Wired start nodes past → (entry : Entry) → EntryWired start nodes past entry → entry_wired start nodes past entry ≡ true
of_entry start nodes past w (Issued node number access) h =
    and_from (is_going nodes past node) (number == issues node past) (of_going nodes past node h.going) (eq-eqb _ _ h.numbered)
of_entry start nodes past w (Delivered node number cell value) h = of_delivery start nodes past node number cell value h
of_entry start nodes past w (Waited node counter) h =
    and_from (is_going nodes past node) (is_done start past (is_counter counter) node) (of_going nodes past node h.going) (of_done start nodes past (is_counter counter) node w h.all_done)
of_entry start nodes past w (Arrived node stores) h = of_going nodes past node h
of_entry start nodes past w (Passed node) h = of_pass start nodes past node w h
of_entry start nodes past w (Finished node Ended) h = of_going nodes past node h
of_entry start nodes past w (Finished node (Fault kind line)) h = of_going nodes past node h
of_entry start nodes past w (Finished node Cut) h = of_going nodes past node h
of_entry start nodes past w (Finished node Waiting) h =
    and_from (is_running nodes past node) (is_broken nodes past node) (of_running nodes past node h.running) (of_broken nodes past node h.broken)

pub wired_of : (start : Place → Value) (nodes : ℕ) (past : List Entry) → wired start nodes past ≡ true → Wired start nodes past
wired_of start nodes [] h = tt
wired_of start nodes (entry ∷ past) h =
    let a = and_parts (entry_wired start nodes past entry) (wired start nodes past) h in
    (entry_of start nodes past entry a.0, wired_of start nodes past a.1)

pub of_wired : (start : Place → Value) (nodes : ℕ) (past : List Entry) → Wired start nodes past → wired start nodes past ≡ true
of_wired start nodes [] h = refl
of_wired start nodes (entry ∷ past) h =
    and_from (entry_wired start nodes past entry) (wired start nodes past) (of_entry start nodes past h.1 entry h.0) (of_wired start nodes past h.1)
