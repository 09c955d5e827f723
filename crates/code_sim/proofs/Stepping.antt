-- What a node asks is its next step: which entry, and when it is allowed.
use Rattle.std.proofs.Common.{◌≡◌, ℕ, ◌+◌, ◌<◌, ◌≤◌, List, [], ◌∷◌, ◌++◌, length, Option, Some, None, Bool, true, false, ◌==◌, ◌&&◌, refl, sym, ap, ◌∙◌, subst, arith, eq-eqb, length-append}
use Rattle.std.specs.Prelude.{if◌then◌else◌, slice_get, is_none, nat_lt, nat_le}
use Rattle.resumption.specs.Resumption.{RunOf, RunEnd, Ends, Short, run_of}
use Rattle.sc_base.specs.declared.value.End.{End}
use Rattle.sc_base.specs.declared.value.End.TheVariants as kind
use Rattle.sc_layout.specs.Layout.{Arrangement}
use Rattle.sc_layout.specs.Start.{start}
use Rattle.sc_isa.specs.declared.code.Code.{Code}
use Rattle.sc_isa.specs.declared.access.Access.{Access}
use Rattle.sc_isa.specs.declared.journal.Entry.{Entry}
use Rattle.sc_isa.specs.declared.journal.Entry.TheVariants.{Issued, Waited, Arrived, Passed, Finished}
use Rattle.sc_isa.specs.Run.{Ask, Issue, Wait, Arrive, Pass, Answer, Broken, Halt, Finish, Stuck, UsedUp, node_asks, code_run}
use Rattle.node_machine.specs.declared.node.Asked.{Asked}
use Rattle.node_machine.specs.declared.node.Asked.TheVariants as event
use Rattle.node_machine.specs.declared.node.Node.{Node}
use Rattle.node_machine.specs.Nodes.{plain_answers}
use Rattle.fabric.specs.Access.{is_counter}
use Rattle.fabric.specs.Effects.{issues}
use Rattle.fabric.specs.Outstanding.{outstanding}
use Rattle.fabric.specs.Barriers.{arrivals, passes, finished}
use Rattle.fabric.specs.Wired.{Wired, EntryWired, Running, Going}
use Rattle.fabric.specs.WiredTest.{is_done, is_pass, is_broken, is_running, is_clear, all_below}
use Rattle.fabric.specs.Asked.{Machine, answers, run_so_far, asked, next_ask}
use Rattle.run_moves.specs.Moves.{where_wired, gives_up, ends_waiting, step_asked, step_over, step_or_over, step_of}
use Rattle.run_moves.proofs.Stepped.{test_from}
use Rattle.run_moves.proofs.Orderly.{arrives, passes_by, total, total_front, stands, Stands, one_if}
use Rattle.run_moves.proofs.Journal.{none_broken}
use Rattle.run_moves.proofs.Calm.{code_is_orderly}
use Rattle.run_moves.specs.OfCode.{machine_of}
use Rattle.code_sim.specs.Enough.{Suffices}
use Rattle.code_sim.specs.Asking.{asks_of, IsAsking}
use Rattle.code_sim.proofs.Runs.{RunIs, run_is, broken_run, stands_at_pass}
use Rattle.code_sim.proofs.Shown.{same_shown, asks_length, arrivals_asked, passes_asked}

-- ---- what a run so far says

abbrev pub ask_is : Asked → Option Ask
ask_is (event.Issue access) = Some (Issue access)
ask_is (event.Wait counter) = Some (Wait counter)
ask_is (event.Arrive stores) = Some (Arrive stores)
ask_is event.Pass = Some Pass
ask_is (event.Finish end) = None

abbrev pub at_barrier : Asked → ℕ
at_barrier event.Pass = 1
at_barrier _ = 0

got_last : (xs zs : List Ask) (y : Ask) → slice_get ((xs ++ y ∷ []) ++ zs) (length xs) ≡ Some y
got_last [] zs y = refl
got_last (x ∷ xs) zs y = got_last xs zs y

got_end : (xs : List Ask) (y : Ask) → slice_get (xs ++ y ∷ []) (length xs) ≡ Some y
got_end [] y = refl
got_end (x ∷ xs) y = got_end xs y

got_none : (xs : List Ask) → slice_get xs (length xs) ≡ None
got_none [] = refl
got_none (x ∷ xs) = got_none xs

regrouped : (xs zs : List Ask) (y : Ask) → (xs ++ y ∷ []) ++ zs ≡ xs ++ y ∷ zs
regrouped [] zs y = refl
regrouped (x ∷ xs) zs y = ap (λ l. x ∷ l) (regrouped xs zs y)

and_none : (xs : List Ask) → xs ≡ xs ++ []
and_none [] = refl
and_none (x ∷ xs) = ap (λ l. x ∷ l) (and_none xs)

abbrev Run : Type 0
Run = RunOf Ask Halt

next_is : (run : Run) (asks : List Ask) (printed : List ℕ) (ask : Asked) → RunIs run asks printed ask → slice_get run.events (length asks) ≡ ask_is ask
next_is run asks printed (event.Issue access) r = ap (λ (u : Run). slice_get u.events (length asks)) r.1 ∙ got_last asks r.0.events (Issue access)
next_is run asks printed (event.Arrive stores) r = ap (λ (u : Run). slice_get u.events (length asks)) r.1 ∙ got_last asks r.0.events (Arrive stores)
next_is run asks printed (event.Wait counter) r = ap (λ (u : Run). slice_get u.events (length asks)) r ∙ got_end asks (Wait counter)
next_is run asks printed event.Pass r = ap (λ (u : Run). slice_get u.events (length asks)) r ∙ got_end asks Pass
next_is run asks printed (event.Finish end) r = ap (λ (u : Run). slice_get u.events (length asks)) r ∙ got_none asks

front_is : (run : Run) (asks : List Ask) (printed : List ℕ) (ask : Asked) → RunIs run asks printed ask → (rest : List Ask) × (run.events ≡ asks ++ rest)
front_is run asks printed (event.Issue access) r = (Issue access ∷ r.0.events, ap (λ (u : Run). u.events) r.1 ∙ regrouped asks r.0.events (Issue access))
front_is run asks printed (event.Arrive stores) r = (Arrive stores ∷ r.0.events, ap (λ (u : Run). u.events) r.1 ∙ regrouped asks r.0.events (Arrive stores))
front_is run asks printed (event.Wait counter) r = (Wait counter ∷ [], ap (λ (u : Run). u.events) r)
front_is run asks printed event.Pass r = (Pass ∷ [], ap (λ (u : Run). u.events) r)
front_is run asks printed (event.Finish end) r = ([], ap (λ (u : Run). u.events) r ∙ and_none asks)

-- ---- a node that runs

module _ (code : Code) (layout : Arrangement) (budget many : ℕ) (s : Suffices code layout budget many) (past : List Entry) (node : ℕ) (within : node < layout.nodes)
    (wired : Wired (start layout) layout.nodes past) (n : Node) (ask : Asked) (own : n.own ≡ node) (its_budget : n.budget ≡ budget)
    (answered : plain_answers n.answers.items ≡ answers (machine_of layout code budget 0) node past) (x : IsAsking code layout budget past node n ask) where
  abbrev machine : Machine
  machine = machine_of layout code budget many

  shown_is : plain_answers n.answers.items ≡ answers machine node past
  shown_is = answered ∙ sym (same_shown code layout budget many node past)

  pub so_far : RunIs (run_so_far machine node past) (asks_of node past) n.printed.items ask
  so_far = subst (λ (l : List Answer). RunIs (code_run code layout node budget many l) (asks_of node past) n.printed.items ask) shown_is
      (run_is code layout budget many s node within n ask (asks_of node past) own its_budget x.next)

  pub next : next_ask machine node past ≡ ask_is ask
  next = ap (slice_get (run_so_far machine node past).events) (sym (asks_length node past)) ∙ next_is _ (asks_of node past) n.printed.items ask so_far

  front : (rest : List Ask) × ((run_so_far machine node past).events ≡ asks_of node past ++ rest)
  front = front_is _ (asks_of node past) n.printed.items ask so_far

  few : asked node past ≤ length (run_so_far machine node past).events
  few = let e = ap length front.1 in let l = length-append (asks_of node past) front.0 in let k = asks_length node past in omega arith

  st : Stands false (machine.starts node) (answers machine node past) (run_so_far machine node past) (asked node past)
  st = stands false (node_asks code layout node budget many) (code_is_orderly code layout node budget many) (answers machine node past)
      (none_broken machine node past x.runs) (asked node past) few

  counted : (f : Ask → ℕ) → total f (asked node past) (run_so_far machine node past).events ≡ total f (length (asks_of node past)) (asks_of node past)
  counted f =
      ap (total f (asked node past)) front.1
      ∙ total_front f (asked node past) (asks_of node past) front.0 (let k = asks_length node past in omega arith)
      ∙ ap (λ k. total f k (asks_of node past)) (sym (asks_length node past))

  by_here : (here : Bool) → st.here ≡ here → arrivals node past ≡ passes node past + one_if here
  by_here here h =
      let c = st.count in let a = counted arrives in let b = counted passes_by in let d = arrivals_asked node past in let e = passes_asked node past in
      let i = ap one_if h in omega arith

  no_pass : (a : Ask) → next_ask machine node past ≡ Some a → (a ≡ Pass → ⊥) → arrivals node past ≡ passes node past
  no_pass a h other = by st.here refl
    where
      by : (here : Bool) → st.here ≡ here → arrivals node past ≡ passes node past
      by true e = absurd (other (st.passing a h e))
      by false e = let r = by_here false e in omega arith

  one_pass : next_ask machine node past ≡ Some Pass → arrivals node past ≡ passes node past + 1
  one_pass h = by st.here refl
    where
      by : (here : Bool) → st.here ≡ here → arrivals node past ≡ passes node past + 1
      by true e = by_here true e
      by false e = absurd (st.elsewhere Pass h e refl)

  pub running : Running layout.nodes past node
  running = record { node_within = within; not_finished = x.runs }

  where_yes : (e : Entry) → EntryWired machine.start machine.nodes past e → where_wired machine past e ≡ e ∷ []
  where_yes e w = ap (λ (b : Bool). if b then e ∷ [] else []) (test_from machine.start machine.nodes past e wired w)

  by_ask : (a : Ask) → next_ask machine node past ≡ Some a → step_of machine past node ≡ step_asked machine past node a
  by_ask a h = ap (step_or_over machine past node) h

-- what is known of it, at each thing that it may ask
pub record IsIssuing (machine : Machine) (past : List Entry) (node : ℕ) (access : Access) : Type 0 where
  pub going : Going machine.nodes past node
  pub asks : next_ask machine node past ≡ Some (Issue access)
  pub step : step_of machine past node ≡ Issued node (issues node past) access ∷ []

pub record IsArriving (machine : Machine) (past : List Entry) (node : ℕ) (stores : Bool) : Type 0 where
  pub going : Going machine.nodes past node
  pub asks : next_ask machine node past ≡ Some (Arrive stores)
  pub step : step_of machine past node ≡ Arrived node stores ∷ []

pub record IsWaiting (machine : Machine) (past : List Entry) (node counter : ℕ) : Type 0 where
  pub going : Going machine.nodes past node
  pub asks : next_ask machine node past ≡ Some (Wait counter)
  pub step : step_of machine past node ≡ (if outstanding machine.start (λ other. other == node) (is_counter counter) past == 0 then Waited node counter ∷ [] else [])

pub record IsPassing (machine : Machine) (past : List Entry) (node : ℕ) : Type 0 where
  pub running : Running machine.nodes past node
  pub at : arrivals node past ≡ passes node past + 1
  pub step : step_of machine past node ≡ (if is_pass machine.start machine.nodes past node then Passed node ∷ []
      else where_wired machine past (Finished node kind.Waiting))

pub record IsFinishing (machine : Machine) (past : List Entry) (node : ℕ) (end : End) : Type 0 where
  pub going : Going machine.nodes past node
  pub other : end ≡ kind.Waiting → ⊥
  pub step : step_of machine past node ≡ Finished node end ∷ []

module _ (code : Code) (layout : Arrangement) (budget many : ℕ) (s : Suffices code layout budget many) (past : List Entry) (node : ℕ) (within : node < layout.nodes)
    (wired : Wired (start layout) layout.nodes past) (n : Node) (own : n.own ≡ node) (its_budget : n.budget ≡ budget)
    (answered : plain_answers n.answers.items ≡ answers (machine_of layout code budget 0) node past) where
  abbrev M : Machine
  M = machine_of layout code budget many

  pub issuing : (access : Access) → IsAsking code layout budget past node n (event.Issue access) → IsIssuing M past node access
  issuing access x =
      let h = next code layout budget many s past node within wired n (event.Issue access) own its_budget answered x in
      let g : Going layout.nodes past node = record {
        running = running code layout budget many s past node within wired n (event.Issue access) own its_budget answered x;
        at_no_barrier = no_pass code layout budget many s past node within wired n (event.Issue access) own its_budget answered x (Issue access) h (λ e. cc);
      } in
      record {
        going = g;
        asks = h;
        step = by_ask code layout budget many s past node within wired n (event.Issue access) own its_budget answered x (Issue access) h
            ∙ where_yes code layout budget many s past node within wired n (event.Issue access) own its_budget answered x (Issued node (issues node past) access)
            (record { going = g; numbered = refl });
      }

  pub arriving : (stores : Bool) → IsAsking code layout budget past node n (event.Arrive stores) → IsArriving M past node stores
  arriving stores x =
      let h = next code layout budget many s past node within wired n (event.Arrive stores) own its_budget answered x in
      let g : Going layout.nodes past node = record {
        running = running code layout budget many s past node within wired n (event.Arrive stores) own its_budget answered x;
        at_no_barrier = no_pass code layout budget many s past node within wired n (event.Arrive stores) own its_budget answered x (Arrive stores) h (λ e. cc);
      } in
      record {
        going = g;
        asks = h;
        step = by_ask code layout budget many s past node within wired n (event.Arrive stores) own its_budget answered x (Arrive stores) h
            ∙ where_yes code layout budget many s past node within wired n (event.Arrive stores) own its_budget answered x (Arrived node stores) g;
      }

  pub waiting : (counter : ℕ) → IsAsking code layout budget past node n (event.Wait counter) → IsWaiting M past node counter
  waiting counter x =
      let h = next code layout budget many s past node within wired n (event.Wait counter) own its_budget answered x in
      let g : Going layout.nodes past node = record {
        running = running code layout budget many s past node within wired n (event.Wait counter) own its_budget answered x;
        at_no_barrier = no_pass code layout budget many s past node within wired n (event.Wait counter) own its_budget answered x (Wait counter) h (λ e. cc);
      } in
      record {
        going = g;
        asks = h;
        step = by_ask code layout budget many s past node within wired n (event.Wait counter) own its_budget answered x (Wait counter) h
            ∙ ap (λ (b : Bool). if b && is_done M.start past (is_counter counter) node then Waited node counter ∷ [] else [])
            (test_from M.start M.nodes past (Arrived node true) wired g);
      }

  pub passing : IsAsking code layout budget past node n event.Pass → IsPassing M past node
  passing x =
      let h = next code layout budget many s past node within wired n event.Pass own its_budget answered x in
      record {
        running = running code layout budget many s past node within wired n event.Pass own its_budget answered x;
        at = one_pass code layout budget many s past node within wired n event.Pass own its_budget answered x h;
        step = by_ask code layout budget many s past node within wired n event.Pass own its_budget answered x Pass h
            ∙ ap (λ (g : Bool). if is_pass M.start M.nodes past node then Passed node ∷ [] else if g then where_wired M past (Finished node kind.Waiting) else [])
            (ap ends_waiting up);
      }
    where
      shown : plain_answers n.answers.items ≡ answers M node past
      shown = answered ∙ sym (same_shown code layout budget many node past)

      b : (instructions : ℕ) × ((more : ℕ) → code_run code layout n.own n.budget (instructions + more) (plain_answers n.answers.items ++ Broken ∷ [])
          ≡ record { events = asks_of node past ++ Pass ∷ []; text = n.printed.items ++ []; end = Ends (Finish kind.Waiting) })
      b = broken_run code layout n (asks_of node past) x.at (stands_at_pass n.standing x.standing)

      up : (run_of (M.starts node) (answers M node past ++ Broken ∷ [])).end ≡ Ends (Finish kind.Waiting)
      up =
          ap (λ (l : List Answer). (code_run code layout node budget many (l ++ Broken ∷ [])).end) (sym shown)
          ∙ ap (λ (u : RunOf Ask Halt). u.end) (sym (s.same node (b.0 + many) (plain_answers n.answers.items ++ Broken ∷ []) within (omega arith)))
          ∙ ap (λ k. (code_run code layout k budget (b.0 + many) (plain_answers n.answers.items ++ Broken ∷ [])).end) (sym own)
          ∙ ap (λ k. (code_run code layout n.own k (b.0 + many) (plain_answers n.answers.items ++ Broken ∷ [])).end) (sym its_budget)
          ∙ ap (λ (u : RunOf Ask Halt). u.end) (b.1 many)

  pub finishing : (end : End) → IsAsking code layout budget past node n (event.Finish end) → IsFinishing M past node end
  finishing end x =
      let h = next code layout budget many s past node within wired n (event.Finish end) own its_budget answered x in
      let r = so_far code layout budget many s past node within wired n (event.Finish end) own its_budget answered x in
      let o = (st code layout budget many s past node within wired n (event.Finish end) own its_budget answered x).over end h (ap (λ (u : RunOf Ask Halt). u.end) r) in
      let at = by_here code layout budget many s past node within wired n (event.Finish end) own its_budget answered x false o.0 in
      let g : Going layout.nodes past node = record {
        running = running code layout budget many s past node within wired n (event.Finish end) own its_budget answered x;
        at_no_barrier = omega arith;
      } in
      let all : length (run_so_far M node past).events ≡ asked node past = ap (λ (u : RunOf Ask Halt). length u.events) r ∙ asks_length node past in
      record {
        going = g;
        other = o.1;
        step = ap (step_or_over M past node) h
            ∙ ap (λ (b : Bool). if b then step_over M past node (run_so_far M node past).end else []) (eq-eqb _ _ all)
            ∙ ap (λ (e : RunEnd Halt). step_over M past node e) (ap (λ (u : RunOf Ask Halt). u.end) r)
            ∙ kinds end o.1 g;
      }
    where
      yes_at : (e : Entry) → EntryWired M.start M.nodes past e → where_wired M past e ≡ e ∷ []
      yes_at e w = ap (λ (b : Bool). if b then e ∷ [] else []) (test_from M.start M.nodes past e wired w)

      kinds : (end : End) → (end ≡ kind.Waiting → ⊥) → Going layout.nodes past node → step_over M past node (Ends (Finish end)) ≡ Finished node end ∷ []
      kinds kind.Waiting o g = absurd (o refl)
      kinds kind.Ended o g = yes_at (Finished node kind.Ended) g
      kinds kind.Cut o g = yes_at (Finished node kind.Cut) g
      kinds (kind.Fault k l) o g = yes_at (Finished node (kind.Fault k l)) g

-- a node that has finished takes no step
module _ (machine : Machine) (past : List Entry) (node : ℕ) (end : End) (f : finished node past ≡ Some end) where
  stopped : is_running machine.nodes past node ≡ false
  stopped = ap (λ (o : Option End). nat_lt node machine.nodes && is_none o) f ∙ and_false (nat_lt node machine.nodes)
    where
      and_false : (b : Bool) → (b && false) ≡ false
      and_false true = refl
      and_false false = refl

  no_pass_here : is_pass machine.start machine.nodes past node ≡ false
  no_pass_here = ap (λ (r : Bool). r && (all_below machine.nodes (λ other. nat_le (passes node past + 1) (arrivals other past)) && is_clear machine.start machine.nodes past (passes node past + 1))) stopped

  no_end : where_wired machine past (Finished node kind.Waiting) ≡ []
  no_end = ap (λ (r : Bool). if r && is_broken machine.nodes past node then Finished node kind.Waiting ∷ [] else []) stopped

  none_asked : (ask : Ask) → step_asked machine past node ask ≡ []
  none_asked (Issue access) =
      ap (λ (r : Bool). if (r && (arrivals node past == passes node past)) && (issues node past == issues node past) then Issued node (issues node past) access ∷ [] else []) stopped
  none_asked (Wait counter) =
      ap (λ (r : Bool). if (r && (arrivals node past == passes node past)) && is_done machine.start past (is_counter counter) node then Waited node counter ∷ [] else []) stopped
  none_asked (Arrive stores) = ap (λ (r : Bool). if r && (arrivals node past == passes node past) then Arrived node stores ∷ [] else []) stopped
  none_asked Pass =
      ap (λ (b : Bool). if b then Passed node ∷ [] else if gives_up machine past node then where_wired machine past (Finished node kind.Waiting) else []) no_pass_here
      ∙ either (gives_up machine past node) (where_wired machine past (Finished node kind.Waiting)) no_end
    where
      either : (g : Bool) (es : List Entry) → es ≡ [] → (if g then es else []) ≡ []
      either true es e = e
      either false es e = refl

  none_ended : (halt : RunEnd Halt) → step_over machine past node halt ≡ []
  none_ended (Ends (Finish kind.Waiting)) = refl
  none_ended (Ends (Finish kind.Ended)) = ap (λ (r : Bool). if r && (arrivals node past == passes node past) then Finished node kind.Ended ∷ [] else []) stopped
  none_ended (Ends (Finish kind.Cut)) = ap (λ (r : Bool). if r && (arrivals node past == passes node past) then Finished node kind.Cut ∷ [] else []) stopped
  none_ended (Ends (Finish (kind.Fault k l))) = ap (λ (r : Bool). if r && (arrivals node past == passes node past) then Finished node (kind.Fault k l) ∷ [] else []) stopped
  none_ended (Ends Stuck) = refl
  none_ended (Ends UsedUp) = refl
  none_ended Short = refl

  none_or : (o : Option Ask) → step_or_over machine past node o ≡ []
  none_or (Some ask) = none_asked ask
  none_or None = either (length (run_so_far machine node past).events == asked node past) (step_over machine past node (run_so_far machine node past).end) (none_ended (run_so_far machine node past).end)
    where
      either : (g : Bool) (es : List Entry) → es ≡ [] → (if g then es else []) ≡ []
      either true es e = e
      either false es e = refl

  pub no_step : step_of machine past node ≡ []
  no_step = none_or (next_ask machine node past)
