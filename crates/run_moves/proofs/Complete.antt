-- A run by picks is legal, and with no move left it is complete, where it is known of each node what it does next.
use Rattle.std.proofs.Common.{◌≡◌, ◌⊎◌, ℕ, zero, suc, ◌+◌, ◌<◌, ◌≤◌, List, [], ◌∷◌, ◌++◌, length, map, reverse, Option, Some, None, Bool, true, false, refl, ap, ◌∙◌, subst, inl, inr, ⊎_elim, arith}
use Rattle.std.specs.Prelude.{slice_get, IsSome, is_some, ◌%◌}
use Rattle.std.proofs.lemmas.Bool.{cases_lt}
use Rattle.sc_base.specs.declared.value.End.{End}
use Rattle.sc_base.specs.declared.value.End.TheVariants as kind
use Rattle.effect_order.specs.Lists.{In}
use Rattle.resumption.specs.Resumption.{Ends, run_of}
use Rattle.sc_isa.specs.Run.{Ask, Issue, Wait, Arrive, Pass, Broken, Finish}
use Rattle.sc_isa.specs.declared.access.Track.{Track}
use Rattle.sc_isa.specs.declared.journal.Entry.{Entry}
use Rattle.sc_isa.specs.declared.journal.Entry.TheVariants.{Issued, Waited, Arrived, Passed, Finished}
use Rattle.fabric.specs.Access.{any_track, is_counter, is_covered, is_store}
use Rattle.fabric.specs.Effects.{issues, effects}
use Rattle.fabric.specs.Flight.{in_flight, flying_count}
use Rattle.fabric.specs.Barriers.{arrivals, passes, released, finished}
use Rattle.fabric.specs.Wired.{Running, Going, AllDone, StandsNext}
use Rattle.fabric.specs.WiredTest.{any_below}
use Rattle.fabric.specs.Asked.{Machine, answers, run_so_far, asked, next_ask}
use Rattle.fabric.specs.Legal.{EntryAllowed, LegalPast, CompletePast}
use Rattle.fabric.proofs.Barrier.{stand}
use Rattle.fabric.proofs.Gaps.{done_of_none}
use Rattle.fabric.proofs.Tested.{Found, found_any, any_found}
use Rattle.run_moves.specs.Moves.{moves, steps_below, delivery}
use Rattle.run_moves.specs.Simulated.{IsPicked}
use Rattle.run_moves.specs.Laws.{AllOrderly, IsKnown, asks, ends, SimulatedRunsAreComplete}
use Rattle.run_moves.proofs.Allowed.{to, from}
use Rattle.run_moves.proofs.Picked.{got_in}
use Rattle.run_moves.proofs.Orderly.{one_if, stands, Stands}
use Rattle.run_moves.proofs.Journal.{counted, Counted, none_broken}

pub legal_of : (machine : Machine) (picks : ℕ → ℕ) (past : List Entry) → IsPicked machine picks past → LegalPast machine past
legal_of machine picks [] p = record { wired = tt; asked = tt }
legal_of machine picks (e ∷ past) p =
    let l = legal_of machine picks past p.1 in
    let m = to machine past l e (got_in (moves machine past) (picks (length past) % length (moves machine past)) e p.0) in
    record { wired = (m.wired, l.wired); asked = (m.asked, l.asked) }

no_right : {X : Type 0} (xs ys : List X) → xs ++ ys ≡ [] → ys ≡ []
no_right [] ys e = e
no_right (x ∷ xs) ys e = cc

none_mapped : {X Y : Type 0} (f : X → Y) (xs : List X) → map f xs ≡ [] → xs ≡ []
none_mapped f [] e = refl
none_mapped f (x ∷ xs) e = cc

none_got : {X : Type 0} (xs : List X) (k : ℕ) → k ≤ length xs → slice_get xs k ≡ None → length xs ≡ k
none_got [] k le h = omega arith
none_got (x ∷ xs) zero le h = cc
none_got (x ∷ xs) (suc k) le h = let i = none_got xs k (omega arith) h in omega arith

module _ (machine : Machine) (past : List Entry) (legal : LegalPast machine past) (orderly : AllOrderly machine) (over : moves machine past ≡ [])
    (known : (node : ℕ) → node < machine.nodes → IsKnown machine past node) where
  impossible : (entry : Entry) → EntryAllowed machine past entry → ⊥
  impossible entry m = subst (In entry) over (from machine past legal entry m)

  none_flies : in_flight machine.start past ≡ []
  none_flies = none_mapped (delivery machine.start (effects machine.start past)) (in_flight machine.start past) (no_right (steps_below machine past machine.nodes) _ over)

  done : (on : Track → Bool) (node : ℕ) → AllDone machine.start past on node
  done on node = done_of_none machine.start machine.nodes on past legal.wired (ap (flying_count (λ other. true) on) none_flies) node

  -- what is known of a node that has not finished: it stands at a barrier that it can't pass
  record Held (node : ℕ) : Type 0 where
    pub running : Running machine.nodes past node
    pub passing : next_ask machine node past ≡ Some Pass
    pub at : arrivals node past ≡ passes node past + 1
    pub gives_up : (run_of (machine.starts node) (answers machine node past ++ Broken ∷ [])).end ≡ Ends (Finish kind.Waiting)

  held : (node : ℕ) → node < machine.nodes → finished node past ≡ None → Held node
  held node within f = by (next_ask machine node past) refl s.here refl
    where
      c : Counted machine node past
      c = counted machine node past legal.asked

      s : Stands false (machine.starts node) (answers machine node past) (run_so_far machine node past) (asked node past)
      s = stands false (machine.starts node) (orderly node within) (answers machine node past) (none_broken machine node past f) (asked node past) c.few

      running : Running machine.nodes past node
      running = record { node_within = within; not_finished = f }

      going : s.here ≡ false → Going machine.nodes past node
      going h = record { running = running; at_no_barrier = (let a = s.count in let b = c.arrived in let d = c.passed in let e = ap one_if h in omega arith) }

      free : (ask : Ask) → next_ask machine node past ≡ Some ask → s.here ≡ false → ⊥
      free (Issue access) h n = impossible (Issued node (issues node past) access) (record { wired = record { going = going n; numbered = refl }; asked = h })
      free (Wait counter) h n = impossible (Waited node counter) (record { wired = record { going = going n; all_done = done (is_counter counter) node }; asked = h })
      free (Arrive stores) h n = impossible (Arrived node stores) (record { wired = going n; asked = h })
      free Pass h n = s.elsewhere Pass h n refl

      finishes : (end : End) → (end ≡ kind.Waiting → ⊥) → s.here ≡ false → next_ask machine node past ≡ None → (run_so_far machine node past).end ≡ Ends (Finish end) → ⊥
      finishes kind.Waiting o n h e = o refl
      finishes kind.Ended o n h e = impossible (Finished node kind.Ended) (record { wired = going n; asked = record { nothing_more = none_got _ (asked node past) c.few h; ends = e } })
      finishes kind.Cut o n h e = impossible (Finished node kind.Cut) (record { wired = going n; asked = record { nothing_more = none_got _ (asked node past) c.few h; ends = e } })
      finishes (kind.Fault k l) o n h e = impossible (Finished node (kind.Fault k l)) (record { wired = going n; asked = record { nothing_more = none_got _ (asked node past) c.few h; ends = e } })

      none_left : next_ask machine node past ≡ None → IsKnown machine past node → ⊥
      none_left h (asks i) = let x : is_some {T = Ask} None ≡ true = subst (λ o. IsSome o) h i in cc
      none_left h (ends end e) = let o = s.over end h e in finishes end o.1 o.0 h e

      by : (o : Option Ask) → next_ask machine node past ≡ o → (here : Bool) → s.here ≡ here → Held node
      by None h here n = absurd (none_left h (known node within))
      by (Some ask) h false n = absurd (free ask h n)
      by (Some ask) h true n =
          let p : next_ask machine node past ≡ Some Pass = h ∙ ap (λ u. Some u) (s.passing ask h n) in
          record {
            running = running;
            passing = p;
            at = (let a = s.count in let b = c.arrived in let d = c.passed in let e = ap one_if n in omega arith);
            gives_up = s.gives_up p (c.answers_are f);
          }

  passes_if : (node : ℕ) → Held node → ((other : ℕ) → other < machine.nodes → passes node past + 1 ≤ arrivals other past) → ⊥
  passes_if node h all =
      impossible (Passed node)
      (record { wired = record { running = h.running; all_arrived = all; covered_done = λ first other lt. done is_covered other; stores_done = λ first st other lt. done is_store other }; asked = h.passing })

  -- it stands at the next barrier to be released
  next : (node : ℕ) → Held node → StandsNext past node
  next node h =
      let s = stand machine.start machine.nodes past legal.wired node h.running.node_within in
      let low = s.passed_below in let at = h.at in
      ⊎_elim
      (λ lt. absurd (passes_if node h (λ other l. let r = (stand machine.start machine.nodes past legal.wired other l).reached in omega arith)))
      (λ ge. omega arith)
      (cases_lt (passes node past) (released past))

  abbrev is_over : ℕ → Bool
  is_over node = is_some (finished node past)

  none_over : ((k : ℕ) → k < machine.nodes → is_over k ≡ false) → (node : ℕ) → node < machine.nodes → finished node past ≡ None
  none_over h node lt = by (finished node past) (h node lt)
    where
      by : (o : Option End) → is_some o ≡ false → o ≡ None
      by None e = refl
      by (Some x) e = cc

  held_not : (node : ℕ) → Held node → ⊥
  held_not node h = by (any_below machine.nodes is_over) refl
    where
      each : (other : ℕ) → other < machine.nodes → StandsNext past other ⊎ IsSome (finished other past)
      each other lt = which (finished other past) refl
        where
          which : (o : Option End) → finished other past ≡ o → StandsNext past other ⊎ IsSome (finished other past)
          which None e = inl (next other (held other lt e))
          which (Some x) e = inr (rw e refl)

      by : (b : Bool) → any_below machine.nodes is_over ≡ b → ⊥
      by true e =
          let g : Found machine.nodes is_over = found_any machine.nodes is_over e in
          impossible (Finished node kind.Waiting) (record {
            wired = record { running = h.running; broken = record { stands = next node h; others = each; gone = g.at; gone_within = g.within; is_gone = g.passes_it } };
            asked = record { passing = h.passing; ends = h.gives_up };
          })
      by false e =
          passes_if node h (λ other lt.
          let n = next other (held other lt (none_over (λ k l. false_of (is_over k) (λ t. let x = any_found machine.nodes is_over k l t in not_both _ x e)) other lt)) in
          let m = next node h in let a = h.at in omega arith)
        where
          false_of : (b : Bool) → (b ≡ true → ⊥) → b ≡ false
          false_of true f = absurd (f refl)
          false_of false f = refl

          not_both : (b : Bool) → b ≡ true → b ≡ false → ⊥
          not_both b x y = cc

  pub complete : CompletePast machine past
  complete = record {
    all_finished = λ node lt. finishes node lt (finished node past) refl;
    all_occurred = λ node lt. done any_track node;
  }
    where
      finishes : (node : ℕ) → node < machine.nodes → (o : Option End) → finished node past ≡ o → IsSome (finished node past)
      finishes node lt None e = absurd (held_not node (held node lt e))
      finishes node lt (Some x) e = rw e refl

pub simulated_runs_are_complete : SimulatedRunsAreComplete
simulated_runs_are_complete machine picks journal orderly s known =
    let l = legal_of machine picks (reverse journal) s.picked in
    (l, complete machine (reverse journal) l orderly s.is_over known)
