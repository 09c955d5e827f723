-- Legal pasts of typed sources are lawful, by induction over the past: what cells hold is lawful since each written
-- value was, so each answer is, and so each request of the node that was answered.
use Rattle.std.proofs.Common.{◌≡◌, ◌≢◌, ℕ, ◌+◌, ◌<◌, ◌≤◌, inl, inr, Option, Some, None, Bool, true, false, if◌then◌else◌, List, [], ◌∷◌, ◌++◌, length, slice_get, eq-eqb, refl, sym, subst, arith}
use Rattle.std.specs.Prelude.{nat_lt, IsSome}
use Rattle.std.specs.List.{All}
use Rattle.std.proofs.lemmas.Bool.{cases_eq, ne_eqb, ltb-true, lt-ltb}
use Rattle.std.proofs.lemmas.List.Elements.{All-nil, All-cons, All-contains_itself}
use Rattle.std.proofs.lemmas.Option.{slice_get_within, get_or_from_slice_get}
use Rattle.resumption.specs.Resumption.{run_of}
use Rattle.sc_base.specs.declared.value.End.{End}
use Rattle.sc_base.specs.declared.value.End.TheVariants.{Ended, Fault, Cut, Waiting}
use Rattle.sc_base.specs.declared.value.Place.{Place}
use Rattle.sc_base.specs.declared.value.Value.{Value}
use Rattle.sc_layout.specs.Layout.{Arrangement}
use Rattle.sc_layout.specs.Place.{IsPlace}
use Rattle.sc_isa.proofs.Exact.{exact}
use Rattle.effect_order.specs.Effect.{Effect}
use Rattle.effect_order.specs.Transfer.{part_value}
use Rattle.sc_core.specs.Core.{Program}
use Rattle.sc_core.specs.Forms.{exposes_of}
use Rattle.sc_meaning.specs.declared.request.Request.{Request}
use Rattle.sc_meaning.specs.declared.request.Request.TheVariants.{Read, Write, Get, Sync as SyncRequest}
use Rattle.sc_meaning.specs.declared.event.SourceEvent.{SourceEvent}
use Rattle.sc_meaning.specs.declared.event.SourceEvent.TheVariants.{Do, Issue, Effect as Part, Sync, Arrive, Release, End as Over}
use Rattle.sc_meaning.specs.Asking.{Shown, Landed, Passed, Broken}
use Rattle.sc_meaning.specs.Parts.{is_split}
use Rattle.sc_meaning.specs.Past.{Processes, or_zero, effects, releases, arrivals, made, ended, issued_since, got, gets_among, answers, run_so_far, request_at}
use Rattle.sc_meaning.specs.History.{AllDone, IsNext, ReadAllowed, WriteAllowed, IssueAllowed, EffectAllowed, SyncAllowed, ArriveAllowed, ReleaseAllowed, WaitingAllowed, barrier_of, Allowed, Legal}
use Rattle.sc_meaning.specs.Source.{processes_of}
use Rattle.value_soundness.specs.Lawful.{IsLawfulAt, IsLawfulRequest, IsLawfulEffect, RunsLawfully}
use Rattle.value_soundness.specs.Laws.{IsLaidSource, IsLawfulPast}
use Rattle.value_soundness.proofs.Memories.{AreLawful}
use Rattle.value_soundness.proofs.Sources.{promises, runs}
use Rattle.value_soundness.proofs.Answered.{at_once, leads_fit, gets_after}
use Rattle.value_soundness.proofs.Gets.{get_front, get_back, no_more, lawful_fit, lawful_names, got_lawful}
use Rattle.value_soundness.proofs.Effects.{held_lawful, part_placed, written_lawful, get_lawful}
use Rattle.value_soundness.proofs.Standings.{View, Stands, is_barrier, stands_other, stands_effect, stands_write, stands_issue, stands_read, stands_sync, stands_arrive, stands_release, stands_waiting, stands_end}

-- what the past says of the node
abbrev pub view_of : Processes → ℕ → List SourceEvent → View
view_of processes node past = record {
  given = answers processes node past;
  made = made node past;
  ended = ended node past;
  arrivals = arrivals node past;
  releases = releases past;
  issued = issued_since node past;
}

-- an event is some node's, and another's for all others
each_node : (own : ℕ) (P : ℕ → Type 0) → P own → ((node : ℕ) → own ≢ node → P node) → (node : ℕ) → P node
each_node own P here there node = elim (cases_eq own node) [ inl e ↦ subst P e here | inr apart ↦ there node apart ]

-- ---- what each event changes

module _ (processes : Processes) (past : List SourceEvent) where
  abbrev seen : ℕ → View
  seen node = view_of processes node past

  abbrev now : ℕ → SourceEvent → View
  now node event = view_of processes node (event ∷ past)

  read_own : (o number : ℕ) (place : Place) (value : Value)
      → now o (Do o number false place value) ≡ record (seen o) {
        given = (seen o).given ++ Shown value ∷ [];
        made =
            (seen o).made + 1;
      }
  read_own o number place value = rw (eq-eqb o o refl) refl

  read_other : (o number node : ℕ) (place : Place) (value : Value) → o ≢ node
      → now node (Do o number false place value) ≡ seen node
  read_other o number node place value apart = rw (ne_eqb o node apart) refl

  write_own : (o number : ℕ) (place : Place) (value : Value)
      → now o (Do o number true place value) ≡ record (seen o) { made = (seen o).made + 1 }
  write_own o number place value = rw (eq-eqb o o refl) refl

  write_other : (o number node : ℕ) (place : Place) (value : Value) → o ≢ node
      → now node (Do o number true place value) ≡ seen node
  write_other o number node place value apart = rw (ne_eqb o node apart) refl

  issue_own : (o number : ℕ) → now o (Issue o number)
      ≡ record (seen o) { made = (seen o).made + 1; issued = (seen o).issued ++ number ∷ [] }
  issue_own o number = rw (eq-eqb o o refl) refl

  issue_other : (o number node : ℕ) → o ≢ node → now node (Issue o number) ≡ seen node
  issue_other o number node apart = rw (ne_eqb o node apart) refl

  abbrev landing : ℕ → List Value
  landing node =
      got node (effects past) (gets_among (run_of (processes.starts node) (answers processes node past)).events
      (issued_since node past))

  sync_own : (o number : ℕ) → now o (Sync o number)
      ≡ record (seen o) { given = (seen o).given ++ Landed (landing o) ∷ []; made = (seen o).made + 1; issued = [] }
  sync_own o number = rw (eq-eqb o o refl) refl

  sync_other : (o number node : ℕ) → o ≢ node → now node (Sync o number) ≡ seen node
  sync_other o number node apart = rw (ne_eqb o node apart) refl

  arrive_own : (o number : ℕ) (stores : Bool) → now o (Arrive o number stores)
      ≡ record (seen o) { made = (seen o).made + 1; arrivals = (seen o).arrivals + 1 }
  arrive_own o number stores = rw (eq-eqb o o refl) refl

  arrive_other : (o number node : ℕ) (stores : Bool) → o ≢ node → now node (Arrive o number stores) ≡ seen node
  arrive_other o number node stores apart = rw (ne_eqb o node apart) refl

  release_at : (number node : ℕ) → arrivals node past ≡ number → now node (Release number)
      ≡ record (seen node) { given = (seen node).given ++ Passed ∷ []; releases = (seen node).releases + 1 }
  release_at number node e = rw (eq-eqb (arrivals node past) number e) refl

  waiting_own : (o : ℕ) → now o (Over o Waiting)
      ≡ record (seen o) { given = (seen o).given ++ Broken ∷ []; ended = Some Waiting }
  waiting_own o = rw (eq-eqb o o refl) refl

  waiting_other : (o node : ℕ) → o ≢ node → now node (Over o Waiting) ≡ seen node
  waiting_other o node apart = rw (ne_eqb o node apart) refl

  abbrev IsOtherEnd : End → Type 0
  IsOtherEnd Waiting = ⊥
  IsOtherEnd _ = Unit {0}

  end_own : (o : ℕ) (end : End) → IsOtherEnd end → now o (Over o end) ≡ record (seen o) { ended = Some end }
  end_own o Ended h = rw (eq-eqb o o refl) refl
  end_own o (Fault kind line) h = rw (eq-eqb o o refl) refl
  end_own o Cut h = rw (eq-eqb o o refl) refl
  end_own o Waiting h = absurd h

  end_other : (o node : ℕ) (end : End) → IsOtherEnd end → o ≢ node → now node (Over o end) ≡ seen node
  end_other o node Ended h apart = rw (ne_eqb o node apart) refl
  end_other o node (Fault kind line) h apart = rw (ne_eqb o node apart) refl
  end_other o node Cut h apart = rw (ne_eqb o node apart) refl
  end_other o node Waiting h apart = absurd h

-- ---- the induction

module _ (layout : Arrangement) (program : Program) (budget : ℕ) (source : IsLaidSource layout program) where
  abbrev exposed : List ℕ
  exposed = exposes_of program

  abbrev processes : Processes
  processes = processes_of layout program budget

  abbrev StandsAfter : ℕ → List SourceEvent → Type 0
  StandsAfter node past =
      Stands layout exposed node (processes.starts node) (view_of processes node past) (effects past)

  -- what is kept along a past
  record IsKept (past : List SourceEvent) : Type 0 where
    pub cells : All (IsLawfulEffect layout exposed) (effects past)
    pub nodes : (node : ℕ) → node < layout.nodes → StandsAfter node past

  run_lawful : (past : List SourceEvent) (node : ℕ) → node < layout.nodes → StandsAfter node past
      → RunsLawfully layout exposed (run_so_far processes node past)
  run_lawful past node below s =
      runs layout exposed (processes.starts node) [] (answers processes node past)
      (promises layout program exposed node budget source below (All-contains_itself exposed)) s.names

  request_lawful : (past : List SourceEvent) (node number : ℕ) (request : Request) → node < layout.nodes
      → StandsAfter node past
      → slice_get (run_so_far processes node past).events number ≡ Some request → IsLawfulRequest layout exposed request
  request_lawful past node number request below s e =
      let requests = (run_so_far processes node past).events in
      subst (IsLawfulRequest layout exposed) (get_or_from_slice_get requests number request request e)
      ((run_lawful past node below s).requests number request (slice_get_within requests number request e))

  -- the past with one more event, which has no effect
  still : (past : List SourceEvent) (event : SourceEvent) → effects (event ∷ past) ≡ effects past → IsKept past
      → ((node : ℕ) → node < layout.nodes → Stands layout exposed node (processes.starts node)
      (view_of processes node (event ∷ past)) (effects past)) → IsKept (event ∷ past)
  still past event none kept nodes = record {
    cells = subst (All (IsLawfulEffect layout exposed)) (sym none) kept.cells;
    nodes = λ node below. subst (λ (es : List Effect). Stands layout exposed node (processes.starts node)
        (view_of processes node (event ∷ past)) es) (sym none) (nodes node below);
  }

  as_seen : (node : ℕ) (v w : View) (effs : List Effect) → v ≡ w
      → Stands layout exposed node (processes.starts node) w effs
      → Stands layout exposed node (processes.starts node) v effs
  as_seen node v w effs e s = subst (λ (v : View). Stands layout exposed node (processes.starts node) v effs) (sym e) s

  -- ---- reads and writes

  next_at : (past : List SourceEvent) (node number : ℕ) (request : Request) → IsNext processes past node number request
      → slice_get (run_so_far processes node past).events (made node past) ≡ Some request
  next_at past node number request h =
      subst (λ n. slice_get (run_so_far processes node past).events n ≡ Some request) h.numbered h.next

  apart_from : (o node : ℕ) → o ≢ node → o ≡ node → ⊥
  apart_from o node h e = h e

  read_kept : (past : List SourceEvent) (o number : ℕ) (place : Place) (value : Value)
      → ReadAllowed processes past o number place value → IsKept past → IsKept (Do o number false place value ∷ past)
  read_kept past o number place value h kept =
      let below = h.is_next.goes_on.node_within in
      let s = kept.nodes o below in
      let placed : IsPlace layout place = request_lawful past o number (Read place h.line) below s h.is_next.next in
      let lawful : IsLawfulAt layout exposed place value =
      subst (λ (v : Value). IsLawfulAt layout exposed place v) (sym h.shows) (held_lawful layout exposed
      (effects past) place kept.cells placed) in
      let e : Effect = record { node = o; number = number; cell = 0; wrote = false; place = place; value = value } in
      record {
        cells = All-cons (IsLawfulEffect layout exposed) e (effects past)
            (record { placed = placed; lawful = lawful }) kept.cells;
        nodes = each_node o (λ node. node < layout.nodes → StandsAfter node (Do o number false place value ∷ past))
            (λ own. as_seen o _ _ (e ∷ effects past) (read_own processes past o number place value)
            (stands_read layout exposed o (processes.starts o) (view_of processes o past)
            (effects past) e s place h.line value
            (next_at past o number (Read place h.line) h.is_next) h.is_next.goes_on.released
            ((exact layout place value).1 lawful.fits) lawful.names h.is_next.numbered))
            (λ node apart within. as_seen node _ _ (e ∷ effects past)
            (read_other processes past o number node place value apart)
            (stands_other layout exposed node (processes.starts node) (view_of processes node past)
            (effects past) e apart
            (kept.nodes node within)));
      }

  write_kept : (past : List SourceEvent) (o number : ℕ) (place : Place) (value : Value)
      → WriteAllowed processes past o number place value → IsKept past → IsKept (Do o number true place value ∷ past)
  write_kept past o number place value h kept =
      let below = h.is_next.goes_on.node_within in
      let s = kept.nodes o below in
      let lawful = request_lawful past o number (Write place value h.line) below s h.is_next.next in
      let e : Effect = record { node = o; number = number; cell = 0; wrote = true; place = place; value = value } in
      record {
        cells = All-cons (IsLawfulEffect layout exposed) e (effects past)
            (record { placed = lawful.0; lawful = lawful.1 }) kept.cells;
        nodes = each_node o (λ node. node < layout.nodes → StandsAfter node (Do o number true place value ∷ past))
            (λ own. as_seen o _ _ (e ∷ effects past) (write_own processes past o number place value)
            (stands_write layout exposed o (processes.starts o) (view_of processes o past)
            (effects past) e s place value h.line
            (next_at past o number (Write place value h.line) h.is_next) h.is_next.goes_on.released h.is_next.numbered))
            (λ node apart within. as_seen node _ _ (e ∷ effects past)
            (write_other processes past o number node place value apart)
            (stands_other layout exposed node (processes.starts node) (view_of processes node past)
            (effects past) e apart
            (kept.nodes node within)));
      }

  -- ---- transfers

  issue_kept : (past : List SourceEvent) (o number : ℕ) → IssueAllowed processes past o number → IsKept past
      → IsKept (Issue o number ∷ past)
  issue_kept past o number h kept =
      let s = kept.nodes o h.is_next.goes_on.node_within in
      still past (Issue o number) refl kept
      (each_node o (λ node. node < layout.nodes → Stands layout exposed node (processes.starts node)
      (view_of processes node (Issue o number ∷ past)) (effects past))
      (λ own. as_seen o _ _ (effects past) (issue_own processes past o number)
      (stands_issue layout exposed o (processes.starts o) (view_of processes o past) (effects past) s h.request number
      (next_at past o number h.request h.is_next) h.is_next.goes_on.released h.issued h.is_next.numbered))
      (λ node apart within. as_seen node _ _ (effects past) (issue_other processes past o number node apart)
      (kept.nodes node within)))

  record WasMade (past : List SourceEvent) (node number : ℕ) (request : Request) : Type 0 where
    pub below : number < made node past
    pub at : slice_get (run_so_far processes node past).events number ≡ Some request

  was_made : (past : List SourceEvent) (node number : ℕ) (request : Request) (b : Bool)
      → nat_lt number (made node past) ≡ b
      → (if b then slice_get (run_so_far processes node past).events number else None) ≡ Some request
      → WasMade past node number request
  was_made past node number request true e h = record { below = ltb-true number (made node past) e; at = h }
  was_made past node number request false e h = absurd (cc)

  -- it is among what the node has made
  in_done : (past : List SourceEvent) (node number : ℕ) (request : Request) (s : StandsAfter node past)
      → WasMade past node number request
      → slice_get s.done number ≡ Some request
  in_done past node number request s w =
      let few = w.below in let many = s.made_is in
      get_back s.done s.later number request (omega (arith, few, many))
      (subst (λ (rs : List Request). slice_get rs number ≡ Some request) s.run_is w.at)

  effect_lawful : (past : List SourceEvent) (o number cell : ℕ) (wrote : Bool) (place : Place) (value : Value)
      (h : EffectAllowed processes past o number cell wrote place value) → IsKept past → (s : StandsAfter o past)
      → slice_get s.done number ≡ Some h.request → IsLawfulRequest layout exposed h.request → IsPlace layout place
      → IsLawfulAt layout exposed place value
  effect_lawful past o number cell false place value h kept s at lawful placed =
      subst (λ (v : Value). IsLawfulAt layout exposed place v) (sym (h.reads refl))
      (held_lawful layout exposed (effects past) place kept.cells placed)
  effect_lawful past o number cell true place value h kept s at lawful placed =
      written_lawful layout exposed o s.done
      (effects past) number cell h.request place value lawful s.parts kept.cells at
      h.issued h.its_place (h.writes refl)

  effect_kept : (past : List SourceEvent) (o number cell : ℕ) (wrote : Bool) (place : Place) (value : Value)
      → EffectAllowed processes past o number cell wrote place value → IsKept past
      → IsKept (Part o number cell wrote place value ∷ past)
  effect_kept past o number cell wrote place value h kept =
      let s = kept.nodes o h.node_within in
      let w = was_made past o number h.request (nat_lt number (made o past)) refl h.made_before in
      let at = in_done past o number h.request s w in
      let asked = request_lawful past o number h.request h.node_within s w.at in
      let placed = part_placed layout exposed h.request cell wrote place asked h.issued h.its_place in
      let e : Effect = record { node = o; number = number; cell = cell; wrote = wrote; place = place; value = value } in
      record {
        cells = All-cons (IsLawfulEffect layout exposed) e (effects past)
            (record {
              placed = placed;
              lawful = effect_lawful past o number cell wrote place value h kept s at asked
                  placed;
            }) kept.cells;
        nodes = each_node o (λ node. node < layout.nodes
            → StandsAfter node (Part o number cell wrote place value ∷ past))
            (λ own. stands_effect layout exposed o (processes.starts o) (view_of processes o past) (effects past) e s
            (λ own. (h.request, at, λ issued. h.its_place)))
            (λ node apart within. stands_other layout exposed node (processes.starts node)
            (view_of processes node past) (effects past) e apart
            (kept.nodes node within));
      }

  -- ---- syncs

  some_of : (o : Option Value) → IsSome o → (value : Value) × (o ≡ Some value)
  some_of None h = absurd (cc)
  some_of (Some value) h = (value, refl)

  got_there : (past : List SourceEvent) (node : ℕ) (s : StandsAfter node past) → AllDone processes is_split node past
      → All (IsLawfulEffect layout exposed) (effects past) → (n line : ℕ) (place : Place)
      → slice_get s.done n ≡ Some (Get place line)
      → IsLawfulAt layout exposed place (or_zero (part_value node n 0 false (effects past)))
  got_there past node s done cells n line place at =
      let many = s.made_is in
      let few : n < length s.done = slice_get_within s.done n (Get place line) at in
      let below : n < made node past = omega (arith, few, many) in
      let here : slice_get (run_so_far processes node past).events n ≡ Some (Get place line) =
      subst (λ (rs : List Request). slice_get rs n ≡ Some (Get place line)) (sym s.run_is)
      (get_front s.done s.later n (Get place line) at) in
      let asked : request_at processes node n past ≡ Some (Get place line) = rw (lt-ltb n
      (made node past) below) here in
      let v = some_of (part_value node n 0 false (effects past)) (done n (Get place line) asked refl 0 false refl) in
      get_lawful layout exposed node s.done (effects past) n line place v.0 s.parts cells at v.1

  sync_kept : (past : List SourceEvent) (o number : ℕ) → SyncAllowed processes past o number → IsKept past
      → IsKept (Sync o number ∷ past)
  sync_kept past o number h kept =
      let s = kept.nodes o h.is_next.goes_on.node_within in
      let values : AreLawful layout exposed (gets_after [] s.done) (landing processes past o) =
      subst (λ (rs : List Request). AreLawful layout exposed (gets_after [] s.done) (got o (effects past)
      (gets_among rs (issued_since o past))))
      (sym s.run_is)
      (got_lawful layout exposed o (effects past) s.done s.later s.gets (got_there past o s h.all_done kept.cells)) in
      still past (Sync o number) refl kept
      (each_node o (λ node. node < layout.nodes → Stands layout exposed node (processes.starts node)
      (view_of processes node (Sync o number ∷ past)) (effects past))
      (λ own. as_seen o _ _ (effects past) (sync_own processes past o number)
      (stands_sync layout exposed o (processes.starts o) (view_of processes o past) (effects past) s h.line
      (landing processes past o)
      (next_at past o number (SyncRequest h.line) h.is_next) h.is_next.goes_on.released
      (lawful_fit layout exposed (gets_after [] s.done) (landing processes past o) values)
      (lawful_names layout exposed (gets_after [] s.done) (landing processes past o) values)))
      (λ node apart within. as_seen node _ _ (effects past) (sync_other processes past o number node apart)
      (kept.nodes node within)))

  -- ---- barriers

  of_barrier : (stores : Bool) (line : ℕ) → is_barrier (barrier_of stores line) ≡ true
  of_barrier true line = refl
  of_barrier false line = refl

  arrive_kept : (past : List SourceEvent) (o number : ℕ) (stores : Bool) → ArriveAllowed processes past o number stores
      → IsKept past → IsKept (Arrive o number stores ∷ past)
  arrive_kept past o number stores h kept =
      let s = kept.nodes o h.is_next.goes_on.node_within in
      still past (Arrive o number stores) refl kept
      (each_node o (λ node. node < layout.nodes → Stands layout exposed node (processes.starts node)
      (view_of processes node (Arrive o number stores ∷ past)) (effects past))
      (λ own. as_seen o _ _ (effects past) (arrive_own processes past o number stores)
      (stands_arrive layout exposed o (processes.starts o) (view_of processes o past) (effects past) s
      (barrier_of stores h.line)
      (next_at past o number (barrier_of stores h.line) h.is_next)
      (of_barrier stores h.line) h.is_next.goes_on.released))
      (λ node apart within. as_seen node _ _ (effects past) (arrive_other processes past o number node stores apart)
      (kept.nodes node within)))

  release_kept : (past : List SourceEvent) (number : ℕ) → ReleaseAllowed processes past number → IsKept past
      → IsKept (Release number ∷ past)
  release_kept past number h kept = still past (Release number) refl kept
      (λ node below.
      (let s = kept.nodes node below in
      let few = h.all_arrived node below in
      let is = h.numbered in
      let arrived : releases past + 1 ≤ arrivals node past = omega (arith, few, is) in
      let running = h.none_ended node below in
      let at : arrivals node past ≡ number = exactly node s running arrived is in
      as_seen node _ _ (effects past) (release_at processes past number node at)
      (stands_release layout exposed node (processes.starts node) (view_of processes node past)
      (effects past) s running arrived)))
    where
      exactly : (node : ℕ) → StandsAfter node past → ended node past ≡ None → releases past + 1 ≤ arrivals node past
          → number ≡ releases past + 1 → arrivals node past ≡ number
      exactly node s running arrived is = elim (s.stays running) [
        | inl free ↦ absurd (let no : ⊥ = omega (arith, free, arrived) in no)
        | inr b ↦ (let at = b.behind in omega (arith, at, is))
      ]

  -- ---- ends

  waiting_kept : (past : List SourceEvent) (o : ℕ) → WaitingAllowed processes past o → IsKept past
      → IsKept (Over o Waiting ∷ past)
  waiting_kept past o h kept =
      let s = kept.nodes o h.node_within in
      still past (Over o Waiting) refl kept
      (each_node o (λ node. node < layout.nodes → Stands layout exposed node (processes.starts node)
      (view_of processes node (Over o Waiting ∷ past)) (effects past))
      (λ own. as_seen o _ _ (effects past) (waiting_own processes past o)
      (stands_waiting layout exposed o (processes.starts o) (view_of processes o past)
      (effects past) s h.running h.at_barrier))
      (λ node apart within. as_seen node _ _ (effects past) (waiting_other processes past o node apart)
      (kept.nodes node within)))

  end_kept : (past : List SourceEvent) (o : ℕ) (end : End) → IsOtherEnd processes past end → IsKept past
      → IsKept (Over o end ∷ past)
  end_kept past o end is kept =
      still past (Over o end) refl kept
      (each_node o (λ node. node < layout.nodes → Stands layout exposed node (processes.starts node)
      (view_of processes node (Over o end ∷ past)) (effects past))
      (λ own. as_seen o _ _ (effects past) (end_own processes past o end is)
      (stands_end layout exposed o (processes.starts o) (view_of processes o past) (effects past) end
      (kept.nodes o own)))
      (λ node apart within. as_seen node _ _ (effects past) (end_other processes past o node end is apart)
      (kept.nodes node within)))

  -- ---- all pasts

  event_kept : (event : SourceEvent) (past : List SourceEvent) → Allowed processes past event → IsKept past
      → IsKept (event ∷ past)
  event_kept (Do o number false place value) past h kept = read_kept past o number place value h kept
  event_kept (Do o number true place value) past h kept = write_kept past o number place value h kept
  event_kept (Issue o number) past h kept = issue_kept past o number h kept
  event_kept (Part o number cell wrote place value) past h kept = effect_kept past o number cell wrote place value h
      kept
  event_kept (Sync o number) past h kept = sync_kept past o number h kept
  event_kept (Arrive o number stores) past h kept = arrive_kept past o number stores h kept
  event_kept (Release number) past h kept = release_kept past number h kept
  event_kept (Over o Waiting) past h kept = waiting_kept past o h kept
  event_kept (Over o Ended) past h kept = end_kept past o Ended tt kept
  event_kept (Over o (Fault kind line)) past h kept = end_kept past o (Fault kind line) tt kept
  event_kept (Over o Cut) past h kept = end_kept past o Cut tt kept

  nothing_yet : IsKept []
  nothing_yet = record {
    cells = All-nil (IsLawfulEffect layout exposed);
    nodes = λ node below. record {
      events = [];
      rest = processes.starts node;
      leads = at_once;
      promises = promises layout program exposed node budget source below (All-contains_itself exposed);
      names = All-nil _;
      done = [];
      later = (run_of (processes.starts node) []).events;
      run_is = refl;
      made_is = refl;
      answered = omega arith;
      gets = no_more;
      parts = All-nil _;
      kept = omega arith;
      stays = λ running. inl (omega arith);
    };
  }

  kept_along : (past : List SourceEvent) → Legal processes past → IsKept past
  kept_along [] h = nothing_yet
  kept_along (event ∷ past) h = event_kept event past h.0 (kept_along past h.1)

  pub past_lawful : (past : List SourceEvent) → Legal processes past → IsLawfulPast layout exposed processes past
  past_lawful past h =
      let kept = kept_along past h in record {
        effects = kept.cells;
        nodes = λ node below.
            (let s = kept.nodes node below in
            record { fits = leads_fit s.leads; names = s.names; run = run_lawful past node below s });
      }
