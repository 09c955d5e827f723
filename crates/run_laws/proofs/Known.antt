-- Where a run by picks of sound code is over, it is known of each node what it does next; so the run is whole.
use Rattle.std.proofs.Common.{◌≡◌, ◌≢◌, ⊎_elim, ℕ, zero, suc, ◌+◌, ◌<◌, ◌≤◌, ◌==◌, List, [], ◌∷◌, ◌++◌, length, map, reverse, Option, Some, None, Bool, true, false, if◌then◌else◌, slice_get, refl, sym, ap, ◌∙◌, subst, arith, le_refl, length-append}
use Rattle.std.specs.Prelude.{IsSome}
use Rattle.std.proofs.lemmas.Bool.{cases_lt}
use Rattle.resumption.specs.Resumption.{RunEnd, Ends, Short, RunOf}
use Rattle.sc_base.specs.declared.value.End.TheVariants as kind
use Rattle.sc_base.specs.declared.value.Place.{Place}
use Rattle.sc_layout.specs.Layout.{Arrangement}
use Rattle.sc_layout.specs.Start.{start}
use Rattle.sc_isa.specs.declared.access.Access.{Access}
use Rattle.sc_isa.specs.declared.access.Access.TheVariants as access
use Rattle.sc_isa.specs.declared.access.Track.{Track}
use Rattle.sc_isa.specs.declared.code.Code.{Code}
use Rattle.sc_isa.specs.declared.journal.Entry.{Entry}
use Rattle.sc_isa.specs.declared.journal.Entry.TheVariants.{Issued, Delivered, Waited, Arrived, Passed, Finished}
use Rattle.sc_isa.specs.declared.code.FnRow.{FnRow}
use Rattle.sc_isa.specs.Begin.{entry, begins_at, begin}
use Rattle.sc_isa.specs.Fitting.{fits}
use Rattle.sc_isa.specs.Laws.{Settles}
use Rattle.sc_isa.specs.Run.{Ask, Issue, Wait, Arrive, Pass, Answer, Halt, Finish, Stuck, UsedUp, code_run}
use Rattle.sc_isa.specs.Sound.{IsPlaced, IsSound}
use Rattle.sc_isa.specs.State.{Flight}
use Rattle.sc_isa.proofs.Settling.{more_same, settles, soundly}
use Rattle.sc_core.specs.Core.{Program}
use Rattle.fabric.specs.Access.{any_track}
use Rattle.fabric.specs.Effects.{access_at, effects}
use Rattle.fabric.specs.Flight.{in_flight, flying_count}
use Rattle.fabric.specs.Wired.{AllDone}
use Rattle.fabric.specs.Asked.{Machine, answers, run_so_far, asked}
use Rattle.fabric.specs.Legal.{LegalPast}
use Rattle.fabric.proofs.Gaps.{done_of_none}
use Rattle.run_moves.specs.Moves.{moves, steps_below, delivery}
use Rattle.run_moves.specs.Laws.{IsKnown, asks, ends}
use Rattle.run_moves.proofs.Calm.{code_is_orderly}
use Rattle.run_moves.proofs.Complete.{legal_of, simulated_runs_are_complete}
use Rattle.source_order.proofs.Numbers.{issued_at}
use Rattle.source_order.proofs.Stands.{wired_at}
use Rattle.node_emit.specs.Oracles.{Oracle, at_first}
use Rattle.forgotten_marks.proofs.Promised.{all_objects, fits_names}
use Rattle.run_moves.specs.OfCode.{machine_of}
use Rattle.code_requests.specs.Laws.{oracle_in}
use Rattle.code_requests.proofs.Listed.{and_ask, asks_in, asks_begin}
use Rattle.code_requests.proofs.Answers.{answers_are}
use Rattle.code_requests.proofs.EffectsFit.{reads_fit}
use Rattle.code_requests.proofs.Requested.{access_asked, asks_placed, front_in, asks_fit_in}
use Rattle.code_requests.proofs.Telling.{FitAsks}
use Rattle.run_laws.specs.Laws.{CodeRunsAreWhole}
use Rattle.run_laws.proofs.Flights.{InStep}
use Rattle.run_laws.proofs.GoesOn.{goes_beyond}

-- ---- where no move is left nothing is in flight

no_right : {X : Type 0} (xs ys : List X) → xs ++ ys ≡ [] → ys ≡ []
no_right [] ys e = e
no_right (x ∷ xs) ys e = cc

none_mapped : {X Y : Type 0} (f : X → Y) (xs : List X) → map f xs ≡ [] → xs ≡ []
none_mapped f [] e = refl
none_mapped f (x ∷ xs) e = cc

all_done : (machine : Machine) (past : List Entry) → LegalPast machine past → moves machine past ≡ [] → (node : ℕ)
    → AllDone machine.start past any_track node
all_done machine past legal over node =
    let none = none_mapped (delivery machine.start (effects machine.start past)) (in_flight machine.start past) (no_right (steps_below machine past machine.nodes) _ over) in
    done_of_none machine.start machine.nodes any_track past legal.wired (ap (flying_count (λ other. true) any_track) none) node

-- ---- the asks of the journal are no fewer than those that are counted

more_asks : (b : Bool) (ask : Ask) (A : List Ask) (n : ℕ) → n ≤ length A
    → (if b then n + 1 else n) ≤ length (and_ask A (if b then Some ask else None))
more_asks true ask A n h = let l = length-append A (ask ∷ []) in omega (arith, h, l)
more_asks false ask A n h = h

longer : (o : Option Ask) (A : List Ask) (n : ℕ) → n ≤ length A → n ≤ length (and_ask A o)
longer (Some ask) A n h = let l = length-append A (ask ∷ []) in omega (arith, h, l)
longer None A n h = h

few_asked : (node : ℕ) (past : List Entry) → asked node past ≤ length (asks_in node past)
few_asked node [] = omega arith
few_asked node (Issued other number a ∷ past) = more_asks (other == node) (Issue a) (asks_in node past) (asked node past) (few_asked node past)
few_asked node (Delivered other number cell value ∷ past) = few_asked node past
few_asked node (Waited other counter ∷ past) = more_asks (other == node) (Wait counter) (asks_in node past) (asked node past) (few_asked node past)
few_asked node (Arrived other stores ∷ past) = more_asks (other == node) (Arrive stores) (asks_in node past) (asked node past) (few_asked node past)
few_asked node (Passed other ∷ past) = more_asks (other == node) Pass (asks_in node past) (asked node past) (few_asked node past)
few_asked node (Finished other kind.Ended ∷ past) = few_asked node past
few_asked node (Finished other (kind.Fault k line) ∷ past) = few_asked node past
few_asked node (Finished other kind.Cut ∷ past) = few_asked node past
few_asked node (Finished other kind.Waiting ∷ past) = longer (if other == node then Some Pass else None) (asks_in node past) (asked node past) (few_asked node past)

some_at : {X : Type 0} (xs : List X) (k : ℕ) → k < length xs → IsSome (slice_get xs k)
some_at [] k lt = absurd (omega (arith, lt))
some_at (x ∷ xs) zero lt = refl
some_at (x ∷ xs) (suc k) lt = some_at xs k (omega (arith, lt))

begins_empty : (budget outside : ℕ) (o : Option FnRow) → (begins_at budget outside o).flying ≡ []
begins_empty budget outside None = refl
begins_empty budget outside (Some row) = refl

-- a program that exposes nothing
no_program : Program
no_program = record { functions = []; main = 0; texts = [] }

module _ (layout : Arrangement) (code : Code) (sound : IsSound code layout) (budget many : ℕ) where
  abbrev machine : Machine
  machine = machine_of layout code budget many

  module _ (past : List Entry) (legal : LegalPast machine past) where
    placed : (p n : ℕ) (a : Access) → access_at p n past ≡ Some a → IsPlaced layout a
    placed p n a h =
        let i = issued_at p n a past h in
        let w = wired_at (start layout) layout.nodes i.0 _ past legal.wired i.1 in
        let run = soundly code layout sound p budget w.0.going.running.node_within many (answers machine p past) in
        asks_placed layout (run_so_far machine p past).events a run.placed
        (front_in (Issue a) (asks_in p past) (run_so_far machine p past).events (asks_begin machine p past legal.wired legal.asked) (access_asked p past n a h))

    module _ (over : moves machine past ≡ []) (node : ℕ) (below : node < layout.nodes)
        (known : (run_so_far machine node past).end ≢ Ends UsedUp) where
      abbrev oracle : Oracle
      oracle = oracle_in (start layout) node past

      reads : (n : ℕ) (place : Place) (track : Track) → access_at node n past ≡ Some (access.Read place track)
          → fits layout place (oracle.value n) ≡ true
      reads n place track at_ =
          reads_fit layout (all_objects layout no_program) (fits_names layout no_program) layout.nodes past legal.wired placed node n place track at_ (all_done machine past legal over node)

      fit : FitAsks layout oracle at_first (asks_in node past)
      fit = asks_fit_in layout machine refl node past legal.wired reads past [] refl legal.wired

      -- before a node's first ask no read is on its way
      none_fly : InStep layout oracle (begin code budget).flying []
      none_fly = subst (λ (flights : List Flight). InStep layout oracle flights []) (sym (begins_empty budget (length code.instrs) (entry code))) tt

      is_known : IsKnown machine past node
      is_known = by (run_so_far machine node past).end refl
        where
          by : (e : RunEnd Halt) → (run_so_far machine node past).end ≡ e → IsKnown machine past node
          by (Ends (Finish end)) e = ends end e
          by (Ends Stuck) e = absurd ((soundly code layout sound node budget below many (answers machine node past)).not_stuck e)
          by (Ends UsedUp) e = absurd (known e)
          by Short e =
              let beyond = goes_beyond layout oracle code node many (begin code budget) at_first (answers machine node past) (asks_in node past) none_fly fit
              (answers_are machine node past legal.wired past [] refl legal.wired) (asks_begin machine node past legal.wired legal.asked) e in
              let few = few_asked node past in
              asks (some_at (run_so_far machine node past).events (asked node past) (omega (arith, beyond, few)))

-- ---- enough instructions for each node

module _ (layout : Arrangement) (code : Code) (sound : IsSound code layout) (budget : ℕ) where
  -- from this number of instructions on the first nodes have done all, whatever is answered
  pub record Enough (nodes : ℕ) : Type 0 where
    pub number : ℕ
    pub known : (node : ℕ) → node < nodes → (many : ℕ) → number ≤ many → (given : List Answer)
        → (code_run code layout node budget many given).end ≢ Ends UsedUp

  enough_below : (nodes : ℕ) → nodes ≤ layout.nodes → Enough nodes
  enough_below zero le = record { number = 0; known = λ node lt many more given e. absurd (omega (arith, lt)) }
  enough_below (suc nodes) le =
      let rest = enough_below nodes (omega (arith, le)) in
      let last = settles code layout sound nodes budget (omega (arith, le)) in
      record {
        number = rest.number + last.many;
        known = λ node lt many more given e. each rest last node (at_most node nodes lt) many more given e;
      }
    where
      at_most : (node nodes : ℕ) → node < suc nodes → node ≤ nodes
      at_most node nodes lt = omega (arith, lt)

      each : (rest : Enough nodes) (last : Settles code layout nodes budget) (node : ℕ) → node ≤ nodes → (many : ℕ)
          → rest.number + last.many ≤ many → (given : List Answer)
          → (code_run code layout node budget many given).end ≢ Ends UsedUp
      each rest last node le many more given e =
          ⊎_elim
          (λ lt. rest.known node lt many (omega (arith, more)) given e)
          (λ ge.
          let same : node ≡ nodes = omega (arith, le, ge) in
          let there : (code_run code layout nodes budget many given).end ≡ Ends UsedUp = subst (λ n. (code_run code layout n budget many given).end ≡ Ends UsedUp) same e in
          last.known given (sym (ap (λ (r : RunOf Ask Halt). r.end) (last.same many given (omega (arith, more)))) ∙ there))
          (cases_lt node nodes)

  pub enough_for : Enough layout.nodes
  enough_for = enough_below layout.nodes (le_refl layout.nodes)

  pub same_run : (node : ℕ) → node < layout.nodes → (many : ℕ) → enough_for.number ≤ many → (given : List Answer)
      → code_run code layout node budget many given ≡ code_run code layout node budget enough_for.number given
  same_run node below many le given =
      more_same code layout node enough_for.number many (begin code budget) given le (enough_for.known node below enough_for.number (le_refl enough_for.number) given)

pub code_runs_are_whole : CodeRunsAreWhole
code_runs_are_whole layout code budget sound =
    let enough = enough_for layout code sound budget in (
      enough.number,
      λ many le picks journal s.
          let machine_ : Machine = machine_of layout code budget many in
          let legal = legal_of machine_ picks (reverse journal) s.picked in
          let whole = simulated_runs_are_complete machine_ picks journal (λ node below. code_is_orderly code layout node budget many) s
          (λ node below. is_known layout code sound budget many (reverse journal) legal s.is_over node below
          (enough.known node below many le (answers machine_ node (reverse journal)))) in
          record { legal = whole.0; complete = whole.1 },
    )
