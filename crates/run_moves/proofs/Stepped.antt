-- The next entry of a node is exactly what it asks for and the fabric allows.
use Rattle.std.proofs.Common.{◌≡◌, ℕ, zero, suc, List, [], ◌∷◌, length, Option, Some, None, Bool, true, false, ◌==◌, refl, sym, ap, subst, inl, inr, arith, eqb-true, eq-eqb}
use Rattle.std.specs.Prelude.{if◌then◌else◌, slice_get}
use Rattle.std.proofs.lemmas.Bool.{and_parts, and_from}
use Rattle.sc_base.specs.declared.value.Value.{Value}
use Rattle.sc_base.specs.declared.value.Place.{Place}
use Rattle.sc_base.specs.declared.value.End.{End}
use Rattle.sc_base.specs.declared.value.End.TheVariants as kind
use Rattle.effect_order.specs.Lists.{In}
use Rattle.resumption.specs.Resumption.{RunEnd, Ends, Short}
use Rattle.sc_isa.specs.Run.{Ask, Issue, Wait, Arrive, Pass, Halt, Finish, Stuck, UsedUp}
use Rattle.sc_isa.specs.declared.journal.Entry.{Entry}
use Rattle.sc_isa.specs.declared.journal.Entry.TheVariants.{Issued, Waited, Arrived, Passed, Finished}
use Rattle.fabric.specs.Effects.{issues}
use Rattle.fabric.specs.Asked.{Machine, run_so_far, asked, next_ask, FinishAsked}
use Rattle.fabric.specs.Wired.{EntryWired, Wired}
use Rattle.fabric.specs.WiredTest.{entry_wired, is_pass}
use Rattle.fabric.specs.Legal.{EntryAllowed}
use Rattle.fabric.proofs.Tested.{wired_of, of_wired}
use Rattle.run_moves.specs.Moves.{where_wired, ends_waiting, gives_up, step_asked, step_over, step_or_over, step_of}
use Rattle.run_moves.proofs.Members.{in_if, if_in}
use Rattle.run_moves.proofs.Broken.{broken_not_passed}

-- ---- the test of one entry

pub test_to : (start : Place → Value) (nodes : ℕ) (past : List Entry) (e : Entry) → Wired start nodes past → entry_wired start nodes past e ≡ true → EntryWired start nodes past e
test_to start nodes past e w h = (wired_of start nodes (e ∷ past) (and_from (entry_wired start nodes past e) _ h (of_wired start nodes past w))).0

pub test_from : (start : Place → Value) (nodes : ℕ) (past : List Entry) (e : Entry) → Wired start nodes past → EntryWired start nodes past e → entry_wired start nodes past e ≡ true
test_from start nodes past e w h = (and_parts (entry_wired start nodes past e) _ (of_wired start nodes (e ∷ past) (h, w))).0

-- ---- ends

waiting_is : (end : RunEnd Halt) → ends_waiting end ≡ true → end ≡ Ends (Finish kind.Waiting)
waiting_is (Ends (Finish kind.Waiting)) h = refl
waiting_is (Ends (Finish kind.Ended)) h = cc
waiting_is (Ends (Finish kind.Cut)) h = cc
waiting_is (Ends (Finish (kind.Fault k l))) h = cc
waiting_is (Ends Stuck) h = cc
waiting_is (Ends UsedUp) h = cc
waiting_is Short h = cc

past_end : {X : Type 0} (xs : List X) (k : ℕ) (x : X) → length xs ≡ k → slice_get xs k ≡ Some x → ⊥
past_end [] k x e g = cc
past_end (y ∷ ys) zero x e g = absurd (omega arith)
past_end (y ∷ ys) (suc k) x e g = past_end ys k x (omega arith) g

module _ (machine : Machine) (past : List Entry) (wired : Wired machine.start machine.nodes past) (node : ℕ) where
  abbrev May : Entry → Type 0
  May entry = EntryAllowed machine past entry

  -- ---- what is listed is allowed

  listed : (e entry : Entry) → In entry (where_wired machine past e) → EntryWired machine.start machine.nodes past entry × (entry ≡ e)
  listed e entry i =
      let r = in_if (entry_wired machine.start machine.nodes past e) e entry i in
      (subst (EntryWired machine.start machine.nodes past) (sym r.1) (test_to machine.start machine.nodes past e wired r.0), r.1)

  asked_to : (ask : Ask) (entry : Entry) → next_ask machine node past ≡ Some ask → In entry (step_asked machine past node ask) → May entry
  asked_to (Issue access) entry h i = let r = listed (Issued node (issues node past) access) entry i in subst May (sym r.1) (record { wired = subst (EntryWired machine.start machine.nodes past) r.1 r.0; asked = h })
  asked_to (Wait counter) entry h i = let r = listed (Waited node counter) entry i in subst May (sym r.1) (record { wired = subst (EntryWired machine.start machine.nodes past) r.1 r.0; asked = h })
  asked_to (Arrive stores) entry h i = let r = listed (Arrived node stores) entry i in subst May (sym r.1) (record { wired = subst (EntryWired machine.start machine.nodes past) r.1 r.0; asked = h })
  asked_to Pass entry h i = by (is_pass machine.start machine.nodes past node) refl i
    where
      waits : (g : Bool) → gives_up machine past node ≡ g → In entry (if g then where_wired machine past (Finished node kind.Waiting) else []) → May entry
      waits true e j =
          let r = listed (Finished node kind.Waiting) entry j in
          subst May (sym r.1) (record { wired = subst (EntryWired machine.start machine.nodes past) r.1 r.0; asked = record { passing = h; ends = waiting_is _ e } })
      waits false e j = absurd j

      by : (b : Bool) → is_pass machine.start machine.nodes past node ≡ b
          → In entry (if b then Passed node ∷ [] else if gives_up machine past node then where_wired machine past (Finished node kind.Waiting) else []) → May entry
      by true e (inl q) = subst May (sym q) (record { wired = test_to machine.start machine.nodes past (Passed node) wired e; asked = h })
      by true e (inr q) = absurd q
      by false e j = waits (gives_up machine past node) refl j

  over_to : (end : RunEnd Halt) (entry : Entry) → (run_so_far machine node past).end ≡ end → length (run_so_far machine node past).events ≡ asked node past
      → In entry (step_over machine past node end) → May entry
  over_to (Ends (Finish kind.Waiting)) entry h n i = absurd i
  over_to (Ends (Finish kind.Ended)) entry h n i = let r = listed (Finished node kind.Ended) entry i in subst May (sym r.1) (record { wired = subst (EntryWired machine.start machine.nodes past) r.1 r.0; asked = record { nothing_more = n; ends = h } })
  over_to (Ends (Finish kind.Cut)) entry h n i = let r = listed (Finished node kind.Cut) entry i in subst May (sym r.1) (record { wired = subst (EntryWired machine.start machine.nodes past) r.1 r.0; asked = record { nothing_more = n; ends = h } })
  over_to (Ends (Finish (kind.Fault k l))) entry h n i = let r = listed (Finished node (kind.Fault k l)) entry i in subst May (sym r.1) (record { wired = subst (EntryWired machine.start machine.nodes past) r.1 r.0; asked = record { nothing_more = n; ends = h } })
  over_to (Ends Stuck) entry h n i = absurd i
  over_to (Ends UsedUp) entry h n i = absurd i
  over_to Short entry h n i = absurd i

  pub step_to : (entry : Entry) → In entry (step_of machine past node) → May entry
  step_to entry i = by (next_ask machine node past) refl i
    where
      over : (b : Bool) → (length (run_so_far machine node past).events == asked node past) ≡ b
          → In entry (if b then step_over machine past node (run_so_far machine node past).end else []) → May entry
      over true e j = over_to (run_so_far machine node past).end entry refl (eqb-true _ _ e) j
      over false e j = absurd j

      by : (o : Option Ask) → next_ask machine node past ≡ o → In entry (step_or_over machine past node o) → May entry
      by (Some ask) h j = asked_to ask entry h j
      by None h j = over (length (run_so_far machine node past).events == asked node past) refl j

  -- ---- what is allowed is listed

  pub lists : (e : Entry) → EntryWired machine.start machine.nodes past e → In e (where_wired machine past e)
  lists e w = if_in (entry_wired machine.start machine.nodes past e) e (test_from machine.start machine.nodes past e wired w)

  by_ask : (ask : Ask) (entry : Entry) → next_ask machine node past ≡ Some ask → In entry (step_asked machine past node ask) → In entry (step_of machine past node)
  by_ask ask entry h i = subst (λ o. In entry (step_or_over machine past node o)) (sym h) i

  pub issue_from : (access : _) (number : ℕ) → May (Issued node number access) → In (Issued node number access) (step_of machine past node)
  issue_from access number m =
      subst (λ n. In (Issued node n access) (step_of machine past node)) (sym m.wired.numbered)
      (by_ask (Issue access) (Issued node (issues node past) access) m.asked (lists (Issued node (issues node past) access) (subst (λ n. EntryWired machine.start machine.nodes past (Issued node n access)) m.wired.numbered m.wired)))

  pub wait_from : (counter : ℕ) → May (Waited node counter) → In (Waited node counter) (step_of machine past node)
  wait_from counter m = by_ask (Wait counter) (Waited node counter) m.asked (lists (Waited node counter) m.wired)

  pub arrive_from : (stores : Bool) → May (Arrived node stores) → In (Arrived node stores) (step_of machine past node)
  arrive_from stores m = by_ask (Arrive stores) (Arrived node stores) m.asked (lists (Arrived node stores) m.wired)

  pub pass_from : May (Passed node) → In (Passed node) (step_of machine past node)
  pass_from m = by_ask Pass (Passed node) m.asked (by (is_pass machine.start machine.nodes past node) (test_from machine.start machine.nodes past (Passed node) wired m.wired))
    where
      by : (b : Bool) → b ≡ true → In (Passed node) (if b then Passed node ∷ [] else if gives_up machine past node then where_wired machine past (Finished node kind.Waiting) else [])
      by true e = inl refl
      by false e = absurd cc

  pub waiting_from : May (Finished node kind.Waiting) → In (Finished node kind.Waiting) (step_of machine past node)
  waiting_from m = by_ask Pass (Finished node kind.Waiting) m.asked.passing (by (is_pass machine.start machine.nodes past node) refl)
    where
      waits : (g : Bool) → g ≡ true → In (Finished node kind.Waiting) (if g then where_wired machine past (Finished node kind.Waiting) else [])
      waits true e = lists (Finished node kind.Waiting) m.wired
      waits false e = absurd cc

      by : (b : Bool) → is_pass machine.start machine.nodes past node ≡ b
          → In (Finished node kind.Waiting) (if b then Passed node ∷ [] else if gives_up machine past node then where_wired machine past (Finished node kind.Waiting) else [])
      by true e = absurd (broken_not_passed machine.start machine.nodes past node wired m.wired.broken (test_to machine.start machine.nodes past (Passed node) wired e))
      by false e = waits (gives_up machine past node) (ap ends_waiting m.asked.ends)

  none_next : (o : Option Ask) → next_ask machine node past ≡ o → length (run_so_far machine node past).events ≡ asked node past → o ≡ None
  none_next None h n = refl
  none_next (Some ask) h n = absurd (past_end (run_so_far machine node past).events (asked node past) ask n h)

  pub finish_from : (end : End) → (end ≡ kind.Waiting → ⊥) → EntryWired machine.start machine.nodes past (Finished node end) → FinishAsked machine past node (Finish end)
      → In (Finished node end) (step_of machine past node)
  finish_from end other w f =
      subst (λ o. In (Finished node end) (step_or_over machine past node o)) (sym (none_next (next_ask machine node past) refl f.nothing_more))
      (by (length (run_so_far machine node past).events == asked node past) (eq-eqb _ _ f.nothing_more))
    where
      kinds : (end : End) → (end ≡ kind.Waiting → ⊥) → In (Finished node end) (where_wired machine past (Finished node end)) → In (Finished node end) (step_over machine past node (Ends (Finish end)))
      kinds kind.Waiting o i = absurd (o refl)
      kinds kind.Ended o i = i
      kinds kind.Cut o i = i
      kinds (kind.Fault k l) o i = i

      by : (b : Bool) → b ≡ true → In (Finished node end) (if b then step_over machine past node (run_so_far machine node past).end else [])
      by true e = subst (λ r. In (Finished node end) (step_over machine past node r)) (sym f.ends) (kinds end other (lists (Finished node end) w))
      by false e = absurd cc
