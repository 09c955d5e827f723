-- Each step of a node: what the fabric needs for it, and what is kept of the node after it.
use Rattle.std.proofs.Common.{◌≡◌, ℕ, ◌+◌, ◌<◌, ◌≤◌, List, [], ◌∷◌, ◌++◌, length, Some, None, Bool, true, false, ◌==◌, ◌||◌, refl, sym, ap, ◌∙◌, subst, arith, eq-eqb, eqb-true}
use Rattle.std.specs.Prelude.{if◌then◌else◌, is_some}
use Rattle.sc_base.specs.declared.value.Value.{Value}
use Rattle.sc_base.specs.declared.value.End.{End}
use Rattle.sc_base.specs.declared.value.End.TheVariants as kind
use Rattle.sc_layout.specs.Layout.{Arrangement, IsLayout}
use Rattle.sc_layout.specs.Start.{start}
use Rattle.sc_isa.specs.declared.access.Access.{Access}
use Rattle.sc_isa.specs.declared.code.Code.{Code}
use Rattle.sc_isa.specs.declared.journal.Entry.{Entry}
use Rattle.sc_isa.specs.declared.journal.Entry.TheVariants.{Issued, Waited, Arrived, Passed, Finished}
use Rattle.sc_isa.specs.Run.{Ask, Issue, Wait, Arrive, Pass, Answer, Landed, Passed as PassedIt, Broken}
use Rattle.sc_isa.specs.Sound.{IsSound}
use Rattle.node_machine.specs.declared.node.Asked.{Asked}
use Rattle.node_machine.specs.declared.node.Asked.TheVariants as event
use Rattle.node_machine.specs.declared.node.Answer.{Answer as Given}
use Rattle.node_machine.specs.declared.node.Answer.TheVariants as given
use Rattle.node_machine.specs.declared.node.Node.{Node}
use Rattle.node_machine.specs.declared.node.Standing.{Standing}
use Rattle.node_machine.specs.declared.node.Standing.TheVariants as stands
use Rattle.node_machine.specs.Nodes.{IsAt, IsNext, HasCounters, plain_answers}
use Rattle.node_machine.specs.Standings.{asked_at, ask_of, end_of, HasEnded, FitsAsk}
use Rattle.fabric.specs.Access.{is_counter}
use Rattle.fabric.specs.Effects.{issues, landed}
use Rattle.fabric.specs.Outstanding.{outstanding}
use Rattle.fabric.specs.Barriers.{arrivals, passes, finished}
use Rattle.fabric.specs.Wired.{Wired, EntryWired, PassWired, IsBroken, Running, Going}
use Rattle.fabric.specs.WiredTest.{is_pass, entry_wired}
use Rattle.fabric.specs.Causes.{may_pass}
use Rattle.fabric.proofs.Done.{all_done}
use Rattle.fabric.proofs.Landing.{book_counts}
use Rattle.sync_book.specs.Book.{broken_by, outstanding as in_books}
use Rattle.sc_isa.specs.Landing.{Landing}
use Rattle.sc_isa.specs.Fitting.{fits_all}
use Rattle.fabric.specs.Asked.{Machine, answers, asked}
use Rattle.fabric.specs.State.{State, start_of, nodes_of, IsAccess}
use Rattle.fabric.specs.Kept.{IsOfJournal}
use Rattle.run_moves.specs.Moves.{step_of, where_wired}
use Rattle.run_moves.proofs.Stepped.{test_from, test_to}
use Rattle.code_sim.specs.declared.node.Runner.{Runner}
use Rattle.run_moves.specs.OfCode.{machine_of}
use Rattle.code_sim.specs.Enough.{Suffices}
use Rattle.code_sim.specs.Asking.{asks_of, shown, IsAsking, IsOver, GoesOn, IsRunner, IsAnswered, HasGivenUp}
use Rattle.code_sim.specs.UnderWay.{AllPlaced, IsLaid, IsOwn, IsStepped, one_if}
use Rattle.code_sim.proofs.Enough.{enough}
use Rattle.code_sim.proofs.Runs.{ended_so, stands_at_pass}
use Rattle.code_sim.proofs.Stepping.{IsIssuing, IsArriving, IsWaiting, IsPassing, IsFinishing, issuing, arriving, waiting, passing, finishing, no_step}
use Rattle.code_sim.proofs.Placing.{is_access, known_counter, placed_too}
use Rattle.code_sim.proofs.Fitting.{landed_fits, on_way}
use Rattle.code_sim.proofs.Barriers.{passes_wired, wired_passes, broken_wired, wired_broken}

-- ---- what was asked, by where the node stands

issue_at : (s : Standing) (access : Access) → event.Issue access ≡ asked_at s → ask_of s ≡ Issue access ∷ []
issue_at stands.Between access e = cc
issue_at (stands.Issued other after) access e = cc
issue_at (stands.Waits counter) access e = cc
issue_at (stands.Arrives stores) access e = cc
issue_at stands.Passes access e = cc
issue_at (stands.Ended end) access e = cc
issue_at stands.Stuck access e = cc

wait_at : (s : Standing) (counter : ℕ) → event.Wait counter ≡ asked_at s → s ≡ stands.Waits counter
wait_at stands.Between counter e = cc
wait_at (stands.Issued other after) counter e = cc
wait_at (stands.Waits c) counter e = cc
wait_at (stands.Arrives stores) counter e = cc
wait_at stands.Passes counter e = cc
wait_at (stands.Ended end) counter e = cc
wait_at stands.Stuck counter e = cc

arrive_at : (s : Standing) (stores : Bool) → event.Arrive stores ≡ asked_at s → s ≡ stands.Arrives stores
arrive_at stands.Between stores e = cc
arrive_at (stands.Issued other after) stores e = cc
arrive_at (stands.Waits c) stores e = cc
arrive_at (stands.Arrives b) stores e = cc
arrive_at stands.Passes stores e = cc
arrive_at (stands.Ended end) stores e = cc
arrive_at stands.Stuck stores e = cc

pub issue_answered : (layout : Arrangement) (s : Standing) (access : Access) (asks : List Ask) → event.Issue access ≡ asked_at s → FitsAsk layout s asks given.Issued
issue_answered layout stands.Between access asks e = cc
issue_answered layout (stands.Issued other after) access asks e = tt
issue_answered layout (stands.Waits counter) access asks e = cc
issue_answered layout (stands.Arrives stores) access asks e = cc
issue_answered layout stands.Passes access asks e = cc
issue_answered layout (stands.Ended end) access asks e = cc
issue_answered layout stands.Stuck access asks e = cc

-- ---- a node of a run under way

module _ (code : Code) (layout : Arrangement) (sound : IsSound code layout) (budget number : ℕ) (within : number < layout.nodes) (fabric : State) (laid : IsLaid code layout fabric)
    (j : IsOfJournal fabric) (runner : Runner) (x : IsRunner code layout budget fabric.past number runner) where
  abbrev past : List Entry
  past = fabric.past

  pub wired : Wired (start layout) layout.nodes fabric.past
  wired = subst (λ (l : Arrangement). Wired (start l) l.nodes fabric.past) laid.layout_is j.wired

  pub asking : (ask : Asked) → runner.asks ≡ Some ask → IsAsking code layout budget fabric.past number runner.node ask
  asking ask e = subst (GoesOn code layout budget fabric.past number runner.node) e x.goes

  pub over : runner.asks ≡ None → IsOver code layout budget fabric.past number runner.node
  over e = subst (GoesOn code layout budget fabric.past number runner.node) e x.goes

  abbrev some : ℕ
  some = (enough code layout sound budget).0

  some_enough : Suffices code layout budget (enough code layout sound budget).0
  some_enough = (enough code layout sound budget).1

  -- the facts of a node, of the layout and of the fabric alike
  pub to_fabric_going : Going layout.nodes fabric.past number → Going (nodes_of fabric) fabric.past number
  to_fabric_going g = subst (λ (l : Arrangement). Going l.nodes fabric.past number) (sym laid.layout_is) g

  pub to_fabric_running : Running layout.nodes fabric.past number → Running (nodes_of fabric) fabric.past number
  to_fabric_running g = subst (λ (l : Arrangement). Running l.nodes fabric.past number) (sym laid.layout_is) g

  -- ---- what it asks, at a number of instructions that is enough

  pub issues_it : (many : ℕ) → Suffices code layout budget many → (access : Access) → runner.asks ≡ Some (event.Issue access) → IsIssuing (machine_of layout code budget many) fabric.past number access
  issues_it many s access e = issuing code layout budget many s fabric.past number within wired runner.node x.own x.its_budget x.answered access (asking (event.Issue access) e)

  pub arrives_it : (many : ℕ) → Suffices code layout budget many → (stores : Bool) → runner.asks ≡ Some (event.Arrive stores) → IsArriving (machine_of layout code budget many) fabric.past number stores
  arrives_it many s stores e = arriving code layout budget many s fabric.past number within wired runner.node x.own x.its_budget x.answered stores (asking (event.Arrive stores) e)

  pub waits_it : (many : ℕ) → Suffices code layout budget many → (counter : ℕ) → runner.asks ≡ Some (event.Wait counter) → IsWaiting (machine_of layout code budget many) fabric.past number counter
  waits_it many s counter e = waiting code layout budget many s fabric.past number within wired runner.node x.own x.its_budget x.answered counter (asking (event.Wait counter) e)

  pub passes_it : (many : ℕ) → Suffices code layout budget many → runner.asks ≡ Some event.Pass → IsPassing (machine_of layout code budget many) fabric.past number
  passes_it many s e = passing code layout budget many s fabric.past number within wired runner.node x.own x.its_budget x.answered (asking event.Pass e)

  pub finishes_it : (many : ℕ) → Suffices code layout budget many → (end : End) → runner.asks ≡ Some (event.Finish end) → IsFinishing (machine_of layout code budget many) fabric.past number end
  finishes_it many s end e = finishing code layout budget many s fabric.past number within wired runner.node x.own x.its_budget x.answered end (asking (event.Finish end) e)

  -- ---- what the fabric wants

  pub issue_going : (access : Access) → runner.asks ≡ Some (event.Issue access) → Going (nodes_of fabric) fabric.past number
  issue_going access e = to_fabric_going (issues_it some some_enough access e).going

  pub issue_access : IsLayout layout → (access : Access) → runner.asks ≡ Some (event.Issue access) → IsAccess layout code.sites access
  issue_access l access e =
      is_access code layout sound number budget some within (answers (machine_of layout code budget some) number fabric.past) (asked number fabric.past) access l
      (issues_it some some_enough access e).asks

  pub wait_going : (counter : ℕ) → runner.asks ≡ Some (event.Wait counter) → Going (nodes_of fabric) fabric.past number
  wait_going counter e = to_fabric_going (waits_it some some_enough counter e).going

  pub wait_counter : (counter : ℕ) → runner.asks ≡ Some (event.Wait counter) → counter ≤ code.sites
  wait_counter counter e =
      known_counter code layout sound number budget some within (answers (machine_of layout code budget some) number fabric.past) (asked number fabric.past) counter
      (waits_it some some_enough counter e).asks

  pub arrive_going : (stores : Bool) → runner.asks ≡ Some (event.Arrive stores) → Going (nodes_of fabric) fabric.past number
  arrive_going stores e = to_fabric_going (arrives_it some some_enough stores e).going

  pub pass_running : runner.asks ≡ Some event.Pass → Running (nodes_of fabric) fabric.past number
  pass_running e = to_fabric_running (passes_it some some_enough e).running

  pub pass_at : runner.asks ≡ Some event.Pass → arrivals number fabric.past ≡ passes number fabric.past + 1
  pass_at e = (passes_it some some_enough e).at

  pub finish_going : (end : End) → runner.asks ≡ Some (event.Finish end) → Going (nodes_of fabric) fabric.past number
  finish_going end e = to_fabric_going (finishes_it some some_enough end e).going

  pub finish_wired : (end : End) → runner.asks ≡ Some (event.Finish end) → EntryWired (start_of fabric) (nodes_of fabric) fabric.past (Finished number end)
  finish_wired end e = by end (finishes_it some some_enough end e).other (finish_going end e)
    where
      by : (end : End) → (end ≡ kind.Waiting → ⊥) → Going (nodes_of fabric) fabric.past number → EntryWired (start_of fabric) (nodes_of fabric) fabric.past (Finished number end)
      by kind.Waiting o g = absurd (o refl)
      by kind.Ended o g = g
      by kind.Cut o g = g
      by (kind.Fault k l) o g = g

  -- what of it holds of the fabric's own layout
  pub issue_there : IsLayout layout → (access : Access) → runner.asks ≡ Some (event.Issue access) → IsAccess fabric.memory.layout fabric.book.sites access
  issue_there l access e =
      subst (λ k. IsAccess fabric.memory.layout k access) (sym laid.sites)
      (subst (λ (a : Arrangement). IsAccess a code.sites access) (sym laid.layout_is) (issue_access l access e))

  pub counter_there : (counter : ℕ) → runner.asks ≡ Some (event.Wait counter) → counter ≤ fabric.book.sites
  counter_there counter e = subst (λ k. counter ≤ k) (sym laid.sites) (wait_counter counter e)

  -- ---- where it stands, and what fits there

  pub its_place : (ask : Asked) → runner.asks ≡ Some ask → IsAt code layout runner.node (asks_of number fabric.past)
  its_place ask e = (asking ask e).at

  pub issue_fits : (access : Access) → runner.asks ≡ Some (event.Issue access) → FitsAsk layout runner.node.standing (asks_of number fabric.past) given.Issued
  issue_fits access e = issue_answered layout runner.node.standing access (asks_of number fabric.past) (asking (event.Issue access) e).standing

  pub arrive_fits : (stores : Bool) → runner.asks ≡ Some (event.Arrive stores) → FitsAsk layout runner.node.standing (asks_of number fabric.past) given.Arrived
  arrive_fits stores e =
      subst (λ (s : Standing). FitsAsk layout s (asks_of number fabric.past) given.Arrived) (sym (arrive_at runner.node.standing stores (asking (event.Arrive stores) e).standing)) tt

  pub stands_to_pass : runner.asks ≡ Some event.Pass → runner.node.standing ≡ stands.Passes
  stands_to_pass e = stands_at_pass runner.node.standing (asking event.Pass e).standing

  pub pass_fits : runner.asks ≡ Some event.Pass → FitsAsk layout runner.node.standing (asks_of number fabric.past) given.Passed
  pass_fits e = subst (λ (s : Standing). FitsAsk layout s (asks_of number fabric.past) given.Passed) (sym (stands_to_pass e)) tt

  -- ---- what is kept of it

  -- it was answered, and asks again
  answered_runner : (entry : Entry) (answer : Given) (new : Runner) → IsAnswered code layout runner.node (asks_of number fabric.past) answer new
      → asks_of number (entry ∷ fabric.past) ≡ asks_of number fabric.past ++ ask_of runner.node.standing
      → shown code layout budget (entry ∷ fabric.past) number ≡ shown code layout budget fabric.past number ++ plain_answers (answer ∷ [])
      → finished number (entry ∷ fabric.past) ≡ None
      → IsRunner code layout budget (entry ∷ fabric.past) number new
  answered_runner entry answer new a asks shown_is none = record {
    own = a.own ∙ x.own;
    its_budget = a.budget ∙ x.its_budget;
    counters = a.counters;
    answered = a.answers ∙ ap (λ (l : List Answer). l ++ plain_answers (answer ∷ [])) x.answered ∙ sym shown_is;
    goes = subst (GoesOn code layout budget (entry ∷ fabric.past) number new.node) (sym a.asks)
        (record {
          at = subst (IsAt code layout new.node) (sym asks) a.at;
          next = subst (λ (l : List Ask). IsNext code layout new.node l a.ask) (sym asks) a.next;
          standing = a.standing;
          room = a.room;
          runs = none;
        });
  }

  -- the step was taken
  stepped : (later : State) (entry : Entry) (new : Runner) → later.past ≡ entry ∷ fabric.past → later.memory.layout ≡ fabric.memory.layout → later.book.sites ≡ fabric.book.sites
      → IsOwn number entry → ((many : ℕ) → Suffices code layout budget many → step_of (machine_of layout code budget many) fabric.past number ≡ entry ∷ [])
      → AllPlaced layout (entry ∷ fabric.past) → IsRunner code layout budget (entry ∷ fabric.past) number new
      → IsStepped code layout budget number fabric later new
  stepped later entry new p l b own s placed r = record {
    entry = entry;
    past = p;
    own = own;
    is_step = s;
    laid = record { layout_is = l ∙ laid.layout_is; sites = b ∙ laid.sites; placed = subst (AllPlaced layout) (sym p) placed };
    runner = subst (λ (l : List Entry). IsRunner code layout budget l number new) (sym p) r;
  }

  self : (number == number) ≡ true
  self = eq-eqb number number refl

  no_more : (l : List Answer) → l ≡ l ++ []
  no_more [] = refl
  no_more (y ∷ ys) = ap (λ (l : List Answer). y ∷ l) (no_more ys)

  pub issued : (later : State) (count : ℕ) (access : Access) (new : Runner) → runner.asks ≡ Some (event.Issue access) → count ≡ issues number fabric.past → IsLayout layout
      → later.past ≡ Issued number count access ∷ fabric.past → later.memory.layout ≡ fabric.memory.layout → later.book.sites ≡ fabric.book.sites
      → IsAnswered code layout runner.node (asks_of number fabric.past) given.Issued new → IsStepped code layout budget number fabric later new
  issued later count access new e c layouts p l b a =
      stepped later (Issued number count access) new p l b refl
      (λ many s. (issues_it many s access e).step ∙ ap (λ k. Issued number k access ∷ []) (sym c))
      (placed_too layout fabric.past number count access laid.placed (issue_access layouts access e).placed)
      (answered_runner (Issued number count access) given.Issued new a
      (ap (λ (t : Bool). if t then asks_of number fabric.past ++ Issue access ∷ [] else asks_of number fabric.past) self
      ∙ ap (λ (y : List Ask). asks_of number fabric.past ++ y) (sym (issue_at runner.node.standing access (asking (event.Issue access) e).standing)))
      (no_more (shown code layout budget fabric.past number)) (asking (event.Issue access) e).runs)

  pub arrived : (later : State) (stores : Bool) (new : Runner) → runner.asks ≡ Some (event.Arrive stores)
      → later.past ≡ Arrived number stores ∷ fabric.past → later.memory.layout ≡ fabric.memory.layout → later.book.sites ≡ fabric.book.sites
      → IsAnswered code layout runner.node (asks_of number fabric.past) given.Arrived new → IsStepped code layout budget number fabric later new
  arrived later stores new e p l b a =
      stepped later (Arrived number stores) new p l b refl (λ many s. (arrives_it many s stores e).step) laid.placed
      (answered_runner (Arrived number stores) given.Arrived new a
      (ap (λ (t : Bool). if t then asks_of number fabric.past ++ Arrive stores ∷ [] else asks_of number fabric.past) self
      ∙ ap (λ (s : Standing). asks_of number fabric.past ++ ask_of s) (sym (arrive_at runner.node.standing stores (asking (event.Arrive stores) e).standing)))
      (no_more (shown code layout budget fabric.past number)) (asking (event.Arrive stores) e).runs)

  -- the wait is over
  pub none_outstanding : (counter : ℕ) → runner.asks ≡ Some (event.Wait counter)
      → ((many : ℕ) → Suffices code layout budget many → length (step_of (machine_of layout code budget many) fabric.past number) ≡ 1)
      → outstanding (start layout) (λ other. other == number) (is_counter counter) fabric.past ≡ 0
  none_outstanding counter e h =
      by (outstanding (start layout) (λ other. other == number) (is_counter counter) fabric.past == 0) refl
      (sym (ap (λ (l : List Entry). length l) (waits_it some some_enough counter e).step) ∙ h some some_enough)
    where
      by : (t : Bool) → (outstanding (start layout) (λ other. other == number) (is_counter counter) fabric.past == 0) ≡ t
          → length (if t then Waited number counter ∷ [] else []) ≡ 1 → outstanding (start layout) (λ other. other == number) (is_counter counter) fabric.past ≡ 0
      by true q i = eqb-true _ _ q
      by false q i = absurd (omega arith)

  pub none_there : (counter : ℕ) → runner.asks ≡ Some (event.Wait counter)
      → ((many : ℕ) → Suffices code layout budget many → length (step_of (machine_of layout code budget many) fabric.past number) ≡ 1)
      → outstanding (start_of fabric) (λ other. other == number) (is_counter counter) fabric.past ≡ 0
  none_there counter e h =
      subst (λ (l : Arrangement). outstanding (start l) (λ other. other == number) (is_counter counter) fabric.past ≡ 0) (sym laid.layout_is) (none_outstanding counter e h)

  pub wait_fits : (counter : ℕ) → runner.asks ≡ Some (event.Wait counter) → outstanding (start layout) (λ other. other == number) (is_counter counter) fabric.past ≡ 0
      → (l : Landing) → l.values ≡ landed (start layout) number counter fabric.past → FitsAsk layout runner.node.standing (asks_of number fabric.past) (given.Landed l)
  wait_fits counter e none l v =
      subst (λ (s : Standing). FitsAsk layout s (asks_of number fabric.past) (given.Landed l)) (sym (wait_at runner.node.standing counter (asking (event.Wait counter) e).standing))
      (ap (fits_all layout (on_way layout number counter fabric.past)) v
      ∙ landed_fits layout number counter fabric.past wired laid.placed (all_done (start layout) (is_counter counter) number fabric.past none))

  pub waited : (later : State) (counter : ℕ) (l : Landing) (new : Runner) → runner.asks ≡ Some (event.Wait counter)
      → outstanding (start layout) (λ other. other == number) (is_counter counter) fabric.past ≡ 0 → l.values ≡ landed (start layout) number counter fabric.past
      → later.past ≡ Waited number counter ∷ fabric.past → later.memory.layout ≡ fabric.memory.layout → later.book.sites ≡ fabric.book.sites
      → IsAnswered code layout runner.node (asks_of number fabric.past) (given.Landed l) new → IsStepped code layout budget number fabric later new
  waited later counter l new e none v p ml b a =
      stepped later (Waited number counter) new p ml b refl
      (λ many s. (waits_it many s counter e).step ∙ ap (λ (t : Bool). if t then Waited number counter ∷ [] else []) (eq-eqb _ 0 none)) laid.placed
      (answered_runner (Waited number counter) (given.Landed l) new a
      (ap (λ (t : Bool). if t then asks_of number fabric.past ++ Wait counter ∷ [] else asks_of number fabric.past) self
      ∙ ap (λ (s : Standing). asks_of number fabric.past ++ ask_of s) (sym (wait_at runner.node.standing counter (asking (event.Wait counter) e).standing)))
      (ap (λ (t : Bool). if t then shown code layout budget fabric.past number ++ Landed (landed (start layout) number counter fabric.past) ∷ [] else shown code layout budget fabric.past number) self
      ∙ ap (λ (vs : List Value). shown code layout budget fabric.past number ++ Landed vs ∷ []) (sym v))
      (asking (event.Wait counter) e).runs)

  -- ---- barriers

  running_is : runner.asks ≡ Some event.Pass → Running (nodes_of fabric) fabric.past number
  running_is e = pass_running e

  pub is_pass_so : (b : Bool) → runner.asks ≡ Some event.Pass → may_pass fabric.book number ≡ b → is_pass (start layout) layout.nodes fabric.past number ≡ b
  is_pass_so true e h =
      test_from (start layout) layout.nodes fabric.past (Passed number) wired
      (subst (λ (l : Arrangement). PassWired (start l) l.nodes fabric.past number) laid.layout_is (passes_wired fabric j number (running_is e) (pass_at e) h))
  is_pass_so false e h = by (is_pass (start layout) layout.nodes fabric.past number) refl
    where
      by : (t : Bool) → is_pass (start layout) layout.nodes fabric.past number ≡ t → t ≡ false
      by false q = refl
      by true q =
          let w : PassWired (start layout) layout.nodes fabric.past number = test_to (start layout) layout.nodes fabric.past (Passed number) wired q in
          let m = wired_passes fabric j number (running_is e) (pass_at e) (subst (λ (l : Arrangement). PassWired (start l) l.nodes fabric.past number) (sym laid.layout_is) w) in
          (let z : true ≡ false = sym m ∙ h in cc)

  -- what the step is where the barrier is not passed
  given_up_step : (many : ℕ) → Suffices code layout budget many → runner.asks ≡ Some event.Pass → may_pass fabric.book number ≡ false
      → step_of (machine_of layout code budget many) fabric.past number
      ≡ (if entry_wired (start layout) layout.nodes fabric.past (Finished number kind.Waiting) then Finished number kind.Waiting ∷ [] else [])
  given_up_step many s e h =
      (passes_it many s e).step
      ∙ ap (λ (t : Bool). if t then Passed number ∷ [] else where_wired (machine_of layout code budget many) fabric.past (Finished number kind.Waiting)) (is_pass_so false e h)

  pub waiting_wired : runner.asks ≡ Some event.Pass → may_pass fabric.book number ≡ false
      → ((many : ℕ) → Suffices code layout budget many → length (step_of (machine_of layout code budget many) fabric.past number) ≡ 1)
      → entry_wired (start layout) layout.nodes fabric.past (Finished number kind.Waiting) ≡ true
  waiting_wired e h one =
      by (entry_wired (start layout) layout.nodes fabric.past (Finished number kind.Waiting))
      (sym (ap (λ (l : List Entry). length l) (given_up_step some some_enough e h)) ∙ one some some_enough)
    where
      by : (t : Bool) → length (if t then Finished number kind.Waiting ∷ [] else []) ≡ 1 → t ≡ true
      by true i = refl
      by false i = absurd (omega arith)

  pub waiting_finish : runner.asks ≡ Some event.Pass → may_pass fabric.book number ≡ false
      → ((many : ℕ) → Suffices code layout budget many → length (step_of (machine_of layout code budget many) fabric.past number) ≡ 1)
      → EntryWired (start_of fabric) (nodes_of fabric) fabric.past (Finished number kind.Waiting)
  waiting_finish e h one =
      subst (λ (l : Arrangement). EntryWired (start l) l.nodes fabric.past (Finished number kind.Waiting)) (sym laid.layout_is)
      (test_to (start layout) layout.nodes fabric.past (Finished number kind.Waiting) wired (waiting_wired e h one))

  pub passed : (later : State) (new : Runner) → runner.asks ≡ Some event.Pass → may_pass fabric.book number ≡ true
      → later.past ≡ Passed number ∷ fabric.past → later.memory.layout ≡ fabric.memory.layout → later.book.sites ≡ fabric.book.sites
      → IsAnswered code layout runner.node (asks_of number fabric.past) given.Passed new → IsStepped code layout budget number fabric later new
  passed later new e h p l b a =
      stepped later (Passed number) new p l b refl
      (λ many s. (passes_it many s e).step
      ∙ ap (λ (t : Bool). if t then Passed number ∷ [] else where_wired (machine_of layout code budget many) fabric.past (Finished number kind.Waiting)) (is_pass_so true e h)) laid.placed
      (answered_runner (Passed number) given.Passed new a
      (ap (λ (t : Bool). if t then asks_of number fabric.past ++ Pass ∷ [] else asks_of number fabric.past) self
      ∙ ap (λ (s : Standing). asks_of number fabric.past ++ ask_of s) (sym (stands_at_pass runner.node.standing (asking event.Pass e).standing)))
      (ap (λ (t : Bool). if t then shown code layout budget fabric.past number ++ PassedIt ∷ [] else shown code layout budget fabric.past number) self)
      (asking event.Pass e).runs)

  pub gave_up : (later : State) (new : Runner) → runner.asks ≡ Some event.Pass → may_pass fabric.book number ≡ false
      → ((many : ℕ) → Suffices code layout budget many → length (step_of (machine_of layout code budget many) fabric.past number) ≡ 1)
      → later.past ≡ Finished number kind.Waiting ∷ fabric.past → later.memory.layout ≡ fabric.memory.layout → later.book.sites ≡ fabric.book.sites
      → HasGivenUp code layout runner.node (asks_of number fabric.past) new → IsStepped code layout budget number fabric later new
  gave_up later new e h one p l b a =
      stepped later (Finished number kind.Waiting) new p l b refl
      (λ many s. given_up_step many s e h ∙ ap (λ (t : Bool). if t then Finished number kind.Waiting ∷ [] else []) (waiting_wired e h one)) laid.placed
      (record {
        own = a.own ∙ x.own;
        its_budget = a.budget ∙ x.its_budget;
        counters = a.counters;
        answered = a.answers ∙ ap (λ (l : List Answer). l ++ Broken ∷ []) x.answered
            ∙ sym (ap (λ (t : Bool). if t then shown code layout budget fabric.past number ++ Broken ∷ [] else shown code layout budget fabric.past number) self);
        goes = subst (GoesOn code layout budget (Finished number kind.Waiting ∷ fabric.past) number new.node) (sym a.asks)
            (record {
              asked = asks_of number fabric.past ++ Pass ∷ [];
              at = a.at;
              ended = subst HasEnded (sym a.ended) tt;
              finished = ap (λ (t : Bool). if t then Some kind.Waiting else finished number fabric.past) self ∙ ap (λ (s : Standing). Some (end_of s)) (sym a.ended);
            });
      })

  pub ended : (later : State) (end : End) (new : Runner) → runner.asks ≡ Some (event.Finish end)
      → later.past ≡ Finished number end ∷ fabric.past → later.memory.layout ≡ fabric.memory.layout → later.book.sites ≡ fabric.book.sites
      → new.asks ≡ None → new.node ≡ runner.node → IsStepped code layout budget number fabric later new
  ended later end new e p l b none same =
      stepped later (Finished number end) new p l b refl (λ many s. (finishes_it many s end e).step) laid.placed
      (record {
        own = ap (λ (n : Node). n.own) same ∙ x.own;
        its_budget = ap (λ (n : Node). n.budget) same ∙ x.its_budget;
        counters = subst (HasCounters code) (sym same) x.counters;
        answered = ap (λ (n : Node). plain_answers n.answers.items) same ∙ x.answered ∙ sym (unchanged end (finishes_it some some_enough end e).other);
        goes = subst (GoesOn code layout budget (Finished number end ∷ fabric.past) number new.node) (sym none)
            (record {
              asked = asks_of number fabric.past;
              at = subst (λ (n : Node). IsAt code layout n (asks_of number fabric.past)) (sym same) (asking (event.Finish end) e).at;
              ended = subst HasEnded (sym stands_so) tt;
              finished = ap (λ (t : Bool). if t then Some end else finished number fabric.past) self ∙ ap (λ (s : Standing). Some (end_of s)) (sym stands_so);
            });
      })
    where
      stands_so : new.node.standing ≡ stands.Ended end
      stands_so =
          ap (λ (n : Node). n.standing) same
          ∙ ended_so runner.node.standing end (asking (event.Finish end) e).standing (asking (event.Finish end) e).next.1

      unchanged : (end : End) → (end ≡ kind.Waiting → ⊥) → shown code layout budget (Finished number end ∷ fabric.past) number ≡ shown code layout budget fabric.past number
      unchanged kind.Waiting o = absurd (o refl)
      unchanged kind.Ended o = refl
      unchanged kind.Cut o = refl
      unchanged (kind.Fault k l) o = refl

  -- ---- whether what is asked is allowed

  pub may_issue : (many : ℕ) → Suffices code layout budget many → (access : Access) → runner.asks ≡ Some (event.Issue access)
      → length (step_of (machine_of layout code budget many) fabric.past number) ≡ 1
  may_issue many s access e = ap (λ (l : List Entry). length l) (issues_it many s access e).step

  pub may_arrive : (many : ℕ) → Suffices code layout budget many → (stores : Bool) → runner.asks ≡ Some (event.Arrive stores)
      → length (step_of (machine_of layout code budget many) fabric.past number) ≡ 1
  may_arrive many s stores e = ap (λ (l : List Entry). length l) (arrives_it many s stores e).step

  pub may_end : (many : ℕ) → Suffices code layout budget many → (end : End) → runner.asks ≡ Some (event.Finish end)
      → length (step_of (machine_of layout code budget many) fabric.past number) ≡ 1
  may_end many s end e = ap (λ (l : List Entry). length l) (finishes_it many s end e).step

  pub may_not : (many : ℕ) → runner.asks ≡ None → length (step_of (machine_of layout code budget many) fabric.past number) ≡ 0
  may_not many e = ap (λ (l : List Entry). length l) (no_step (machine_of layout code budget many) fabric.past number (end_of runner.node.standing) (over e).finished)

  pub may_wait : (many : ℕ) → Suffices code layout budget many → (counter : ℕ) → runner.asks ≡ Some (event.Wait counter)
      → length (step_of (machine_of layout code budget many) fabric.past number) ≡ one_if (in_books fabric.book number counter == 0)
  may_wait many s counter e =
      ap (λ (l : List Entry). length l) (waits_it many s counter e).step
      ∙ by (outstanding (start layout) (λ other. other == number) (is_counter counter) fabric.past == 0) (in_books fabric.book number counter == 0)
      (ap (λ n. n == 0) (subst (λ (l : Arrangement). outstanding (start l) (λ other. other == number) (is_counter counter) fabric.past ≡ in_books fabric.book number counter) laid.layout_is
      (book_counts fabric j number counter (subst (λ (l : Arrangement). number < l.nodes) (sym laid.layout_is) within) (subst (λ k. counter ≤ k) (sym laid.sites) (wait_counter counter e)))))
    where
      by : (t u : Bool) → t ≡ u → length (if t then Waited number counter ∷ [] else []) ≡ one_if u
      by true true h = refl
      by false false h = refl
      by true false h = cc
      by false true h = cc

  pub may_leave : (many : ℕ) → Suffices code layout budget many → runner.asks ≡ Some event.Pass
      → length (step_of (machine_of layout code budget many) fabric.past number) ≡ one_if (may_pass fabric.book number || is_some (broken_by fabric.book))
  may_leave many s e = by (may_pass fabric.book number) refl (is_some (broken_by fabric.book)) refl
    where
      M : Machine
      M = machine_of layout code budget many

      wired_so : (t : Bool) → may_pass fabric.book number ≡ false → is_some (broken_by fabric.book) ≡ t
          → entry_wired (start layout) layout.nodes fabric.past (Finished number kind.Waiting) ≡ t
      wired_so true h q =
          test_from (start layout) layout.nodes fabric.past (Finished number kind.Waiting) wired
          (record {
            running = (passes_it many s e).running;
            broken = subst (λ (l : Arrangement). IsBroken l.nodes fabric.past number) laid.layout_is
                (broken_wired fabric j number (running_is e) (pass_at e) h q);
          })
      wired_so false h q = wrong (entry_wired (start layout) layout.nodes fabric.past (Finished number kind.Waiting)) refl
        where
          wrong : (t : Bool) → entry_wired (start layout) layout.nodes fabric.past (Finished number kind.Waiting) ≡ t → t ≡ false
          wrong false i = refl
          wrong true i =
              let w = test_to (start layout) layout.nodes fabric.past (Finished number kind.Waiting) wired i in
              let m = wired_broken fabric j number (running_is e) (pass_at e) (subst (λ (l : Arrangement). IsBroken l.nodes fabric.past number) (sym laid.layout_is) w.broken) in
              (let z : true ≡ false = sym m ∙ q in cc)

      by : (a : Bool) → may_pass fabric.book number ≡ a → (b : Bool) → is_some (broken_by fabric.book) ≡ b
          → length (step_of (machine_of layout code budget many) fabric.past number) ≡ one_if (a || b)
      by true h b q =
          ap (λ (l : List Entry). length l) ((passes_it many s e).step
          ∙ ap (λ (t : Bool). if t then Passed number ∷ [] else where_wired (machine_of layout code budget many) fabric.past (Finished number kind.Waiting)) (is_pass_so true e h))
      by false h b q =
          ap (λ (l : List Entry). length l) (given_up_step many s e h ∙ ap (λ (t : Bool). if t then Finished number kind.Waiting ∷ [] else []) (wired_so b h q)) ∙ lengths b
        where
          lengths : (b : Bool) → length (if b then Finished number kind.Waiting ∷ [] else []) ≡ one_if b
          lengths true = refl
          lengths false = refl

-- a node that has finished takes no step, so one that may take a step has not
pub not_over : (code : Code) (layout : Arrangement) → IsSound code layout → (budget number : ℕ) (past : List Entry) (runner : Runner) → IsRunner code layout budget past number runner
    → ((many : ℕ) → Suffices code layout budget many → length (step_of (machine_of layout code budget many) past number) ≡ 1) → runner.asks ≡ None → ⊥
not_over code layout sound budget number past runner x one e =
    let some = enough code layout sound budget in
    let over : IsOver code layout budget past number runner.node = subst (GoesOn code layout budget past number runner.node) e x.goes in
    let none = ap (λ (l : List Entry). length l) (no_step (machine_of layout code budget some.0) past number (end_of runner.node.standing) over.finished) in
    let got = one some.0 some.1 in
    omega (arith, none, got)
