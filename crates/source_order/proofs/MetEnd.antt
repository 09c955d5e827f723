-- The source allows an end, where it is its node's next, exactly where all that it needs was taken.
use Rattle.std.proofs.Common.{◌≡◌, ℕ, zero, suc, ◌+◌, ◌<◌, ◌≤◌, List, [], ◌∷◌, ◌++◌, length, Option, Some, None, Bool, true, false, ◌==◌, ◌&&◌, refl, sym, ap, ◌∙◌, subst, ⊎_elim, arith, eqb-true, ltb-true, lt-ltb, le_refl, length-append}
use Rattle.std.proofs.lemmas.List.{length-map}
use Rattle.std.specs.Prelude.{nat_lt}
use Rattle.std.proofs.lemmas.Bool.{and_parts, and_from, cases_lt}
use Rattle.sc_base.specs.declared.value.End.{End}
use Rattle.sc_base.specs.declared.value.End.TheVariants as kind
use Rattle.effect_order.specs.Lists.{In}
use Rattle.sc_meaning.specs.declared.event.SourceEvent.{SourceEvent}
use Rattle.sc_meaning.specs.declared.event.SourceEvent.TheVariants.{Do, Issue, Effect, Sync, Arrive, Release, End as Over}
use Rattle.sc_meaning.specs.declared.request.Request.{Request}
use Rattle.sc_meaning.specs.Asking.{Answer, Broken, Halt}
use Rattle.resumption.specs.Resumption.{RunOf, run_of}
use Rattle.sc_meaning.specs.Past.{Processes, made, arrivals, releases, ended, answers, and_answer, run_so_far}
use Rattle.sc_meaning.specs.History.{EndAllowed, WaitingAllowed, barrier_of}
use Rattle.sc_meaning.specs.Parts.{is_blocking_copy}
use Rattle.sc_isa.specs.declared.journal.Entry.{Entry}
use Rattle.sc_isa.specs.declared.journal.Entry.TheVariants.{Issued, Arrived}
use Rattle.fabric.specs.Barriers.{arrivals as run_arrivals, released}
use Rattle.source_order.specs.Steps.{requested, own_requests, arrivals_among}
use Rattle.sc_meaning.specs.OfAccess.{is_blocking, unlined}
use Rattle.source_order.specs.Made.{answers_in}
use Rattle.source_order.specs.Needs.{is_on, step_needs}
use Rattle.source_order.proofs.Stands.{Stands, same_stand, own_length, requested_below}
use Rattle.source_order.proofs.Numbers.{eq_self, if_true, issued_is, among_with, arrivals_all}
use Rattle.source_order.proofs.Own.{finished_is}
use Rattle.source_order.proofs.Distinct.{num, at_node}
use Rattle.source_order.proofs.Standing.{ending, all_arrived}
use Rattle.source_order.proofs.Answered.{broken_answer}
use Rattle.source_order.proofs.Prefixes.{same_run}
use Rattle.source_order.proofs.Character.{IsAccess}
use Rattle.source_order.proofs.Matches.{Known}
use Rattle.source_order.proofs.Taken.{It, E, Took, took_it, is_own, low_taken, place_of}
use Rattle.source_order.proofs.Asked.{asks}
use Rattle.source_order.proofs.Parted.{Full, Needed}
use Rattle.source_order.proofs.Over.{blocking_kind, parts_in}
use Rattle.source_order.proofs.Progress.{Kept, next_answer, arrival_needed}
use Rattle.source_order.proofs.Reached.{release_low, low_release, ended_in, own_taken}
use Rattle.source_order.proofs.NextOnes.{know, start_of, step_met, number_made, releases_met, blocking_met, le_from}
use Rattle.source_order.proofs.MetOwn.{Met}

module _ (processes : Processes) (whole : List Entry) (known : Known processes whole) (past : List SourceEvent) (t : Took processes whole known past) (p : ℕ) (n : p < processes.nodes) where
  K : Kept processes whole known p n past
  K = know processes whole known past t p n

  -- no more requests are made than there are
  pub made_few : made p past ≤ requested p whole
  made_few = ⊎_elim
      (λ lt.
      let r = low_taken processes whole known past t p (requested p whole) lt in
      let pl = place_of processes whole known r.0 (took_it processes whole known past t r.0 r.1) r.2 in
      let u = requested_below (at_node r.0) pl.past pl.entry whole pl.request pl.stands pl.by in
      let v = pl.numbered in let w = r.4 in let x = ap (λ z. requested z whole) r.3 in absurd (omega arith))
      (λ ge. ge) (cases_lt (requested p whole) (made p past))

  pub full_length : length (Full processes whole known p).events ≡ requested p whole
  full_length = let a = ap length (known.requests p n) in let b = own_length p whole in let c = length-map (Full processes whole known p).events unlined in omega arith

  -- with all answers the run is the whole run
  pub whole_run : (given rest : List Answer) → answers_in (E processes whole known) p whole ≡ given ++ rest → Needed processes whole known p (requested p whole) ≤ length given → run_of (processes.starts p) given ≡ Full processes whole known p
  whole_run given rest e l =
      let f : asks (length (run_of (processes.starts p) (given ++ rest)).events) (run_of (processes.starts p) (given ++ rest)).events ≤ length given =
      subst (λ u. asks (length (run_of (processes.starts p) u).events) (run_of (processes.starts p) u).events ≤ length given) e
      (subst (λ u. asks u (Full processes whole known p).events ≤ length given) (sym full_length) l) in
      sym (same_run (processes.starts p) (known.waits p n) given rest f) ∙ sym (ap (run_of (processes.starts p)) e)

  -- ---- ends other than as waiting

  pub end_to : (end : End) → EndAllowed processes past p end → made p past ≡ requested p whole → Met processes whole known past t (Over p end)
  end_to end h m =
      let am = K.among in let g = h.goes_on.released in let e = ap (λ u. arrivals_among p u whole) m in
      step_met processes whole known past t p (requested p whole) n (omega arith) (omega arith)
      (λ j c wrote place value lt i o. parts_in processes whole known is_blocking_copy is_blocking blocking_kind p past t (start_of processes whole known past t p n) h.goes_on.copies_done j c wrote place value (omega (arith, lt, m)) i o)

  all_made : (end : End) → Met processes whole known past t (Over p end) → made p past ≡ requested p whole
  all_made end met = let a = number_made processes whole known past t p (requested p whole) n (le_refl _) met in let b = made_few in omega arith

  among_all : arrivals_among p (requested p whole) whole ≡ run_arrivals p whole
  among_all = arrivals_all p (requested p whole) whole (le_refl _)

  still_running : (end : End) → It processes whole known (Over p end) → (In (Over p end) past → ⊥) → ended p past ≡ None
  still_running end h out = by (ended p past) refl
    where
      by : (o : Option End) → ended p past ≡ o → ended p past ≡ None
      by None e = e
      by (Some other) e =
          let i = ended_in processes whole known past p other e in
          let it = took_it processes whole known past t (Over p other) i in
          let a = finished_is p other it.0 whole processes.start processes.nodes known.wired it.1 in
          let b = finished_is p end h.0 whole processes.start processes.nodes known.wired h.1 in
          let z : other ≡ end = cc in absurd (out (subst (λ u. In (Over p u) past) z i))

  pub end_from : (end : End) → (end ≡ kind.Waiting → ⊥) → It processes whole known (Over p end) → (In (Over p end) past → ⊥) → Met processes whole known past t (Over p end) → EndAllowed processes past p end × (made p past ≡ requested p whole)
  end_from end other h out met =
      let f = still_running end h out in
      let m = all_made end met in
      let fin = finished_is p end h.0 whole processes.start processes.nodes known.wired h.1 in
      let en = ending processes.start processes.nodes whole known.wired p n (known.all_finished p n) in
      let ar = en.arrived (λ w. other (let z = fin in cc)) in
      let aa = among_all in
      let rel = releases_met processes whole known past t p (requested p whole) (omega arith) met in
      let am = K.among in let e = ap (λ u. arrivals_among p u whole) m in
      let le : arrivals p past ≤ releases past = omega arith in
      let lv = K.level f in let lo = K.low in
      let nm = ap (Needed processes whole known p) m in
      let run = whole_run (answers processes p past) K.rest K.prefix (omega arith) in (
        record {
          goes_on = record { node_within = n; running = f; copies_done = blocking_met processes whole known past t p (requested p whole) n made_few met; released = le };
          all_made = m ∙ sym full_length ∙ ap (λ (u : RunOf Request Halt). length u.events) (sym run);
          over = ap (λ (u : RunOf Request Halt). u.end) run ∙ known.end p n end fin;
        },
        m,
      )

  -- ---- ends as waiting

  pub waiting_to : It processes whole known (Over p kind.Waiting) → ((y : SourceEvent) → In y past → Met processes whole known past t y) → WaitingAllowed processes past p → made p past ≡ requested p whole → Met processes whole known past t (Over p kind.Waiting)
  waiting_to h closed a m =
      let st = K.at a.running a.at_barrier in
      let fin = finished_is p kind.Waiting h.0 whole processes.start processes.nodes known.wired h.1 in
      let sk = (ending processes.start processes.nodes whole known.wired p n (known.all_finished p n)).stuck fin in
      let am = K.among in let e = ap (λ u. arrivals_among p u whole) m in let aa = among_all in let bar = a.at_barrier in
      met st (omega arith)
    where
      own : (a : SourceEvent) (q j : ℕ) → It processes whole known a → is_own a ≡ true → at_node a ≡ q → num a ≡ j → ((q == p) && nat_lt j (requested p whole)) ≡ true → In a past
      own a q j i o e f s =
          let z = and_parts (q == p) (nat_lt j (requested p whole)) s in
          let y : q ≡ p = eqb-true q p z.0 in
          let l : j < requested p whole = ltb-true j (requested p whole) z.1 in
          own_taken processes whole known past t a i o (let u = ap (λ v. made v past) (e ∙ y) in omega (arith, u, l, f, m))

      not_access : (j : ℕ) → IsAccess whole p j false → (old : List Entry) (s : Bool) → Stands old (Arrived p s) whole → j ≡ requested p old → ⊥
      not_access j it old s st q =
          let same = same_stand p it.past old (Issued p it.n it.access) (Arrived p s) _ _ whole it.stands st (issued_is p it.n it.access) (if_true (p == p) (Some (barrier_of s 0)) None (eq_self p)) (it.numbered ∙ q) in
          let z = same.1 in cc

      met : (st : (old : List Entry) × (s : Bool) × Stands old (Arrived p s) whole × (suc (requested p old) ≡ made p past)) → released whole ≤ releases past → Met processes whole known past t (Over p kind.Waiting)
      met st le x i s = by x i s
        where
          arrive : SourceEvent
          arrive = Arrive p (requested p st.0) st.1

          arrive_in : In arrive past
          arrive_in = own_taken processes whole known past t (Arrive p (requested p st.0) st.1) (st.0, st.2, refl) refl (let z = st.3 in omega arith)

          by : (x : SourceEvent) → It processes whole known x → step_needs whole x p (requested p whole) ≡ true → In x past
          by (Release r) i s = low_release processes whole known past t r i.0 i.1 (let u = i.1 in let v = i.2 in omega (arith, u, v, le))
          by (Effect q j c wrote place value) i s =
              let z = and_parts (q == p) (nat_lt j (requested p whole) && is_on whole is_blocking p j) s in
              let y = and_parts (nat_lt j (requested p whole)) (is_on whole is_blocking p j) z.1 in
              let e : q ≡ p = eqb-true q p z.0 in
              let it : It processes whole known (Effect p j c wrote place value) = subst (λ u. It processes whole known (Effect u j c wrote place value)) e i in
              let l : j < requested p whole = ltb-true j (requested p whole) y.0 in
              let ne : j ≡ requested p st.0 → ⊥ = (λ q. not_access j it.0 st.0 st.1 st.2 q) in
              let l2 : j < requested p st.0 = (⊎_elim (λ a. a) (λ b. absurd (ne (let w = st.3 in omega (arith, l, m, w, b)))) (cases_lt j (requested p st.0))) in
              closed arrive arrive_in (Effect q j c wrote place value) i (and_from (q == p) (nat_lt j (requested p st.0) && is_on whole is_blocking p j) z.0 (and_from (nat_lt j (requested p st.0)) (is_on whole is_blocking p j) (lt-ltb j (requested p st.0) l2) y.1))
          by (Do q j w pl v) i s = own (Do q j w pl v) q j i refl refl refl s
          by (Issue q j) i s = own (Issue q j) q j i refl refl refl s
          by (Sync q j) i s = own (Sync q j) q j i refl refl refl s
          by (Arrive q j u) i s = own (Arrive q j u) q j i refl refl refl s
          by (Over q end) i s = absurd cc

  pub waiting_from : It processes whole known (Over p kind.Waiting) → (In (Over p kind.Waiting) past → ⊥) → Met processes whole known past t (Over p kind.Waiting) → WaitingAllowed processes past p × (made p past ≡ requested p whole)
  waiting_from h out met =
      let f = still_running kind.Waiting h out in
      let m = all_made kind.Waiting met in
      let fin = finished_is p kind.Waiting h.0 whole processes.start processes.nodes known.wired h.1 in
      let en = ending processes.start processes.nodes whole known.wired p n (known.all_finished p n) in
      let sk = en.stuck fin in let pa = en.passed in
      let aa = among_all in
      let am = K.among in let e = ap (λ u. arrivals_among p u whole) m in
      let lo = K.low in let hi = K.high in
      let rel : released whole ≤ releases past = released_in (released whole) refl met in
      let few : releases past ≤ released whole = releases_few in
      let bar : arrivals p past ≡ releases past + 1 = omega arith in
      let st = K.at f bar in
      let rq = if_true (p == p) (Some (barrier_of st.1 0)) None (eq_self p) in
      let w = among_with p st.0 (Arrived p st.1) whole _ st.2 rq in
      let z = if_true (p == p) (run_arrivals p st.0 + 1) (run_arrivals p st.0) (eq_self p) in
      let al2 : arrivals_among p (suc (requested p st.0)) whole ≡ arrivals_among p (made p past) whole = ap (λ u. arrivals_among p u whole) st.3 in
      let ans = broken_answer processes.start processes.nodes (E processes whole known) p st.0 st.1 h.0 whole known.wired st.2 h.1 (omega arith) in
      let lv = K.level f in let mm = st.3 in
      let nd = arrival_needed processes whole known p n st.0 st.1 st.2 in
      let nd0 = nd.0 in let nd1 = nd.1 in let nm = ap (Needed processes whole known p) m in let nm2 = ap (Needed processes whole known p) mm in
      let nx = next_answer (answers_in (E processes whole known) p whole) (answers processes p past) K.rest (asks (requested p st.0) (own_requests p st.0)) Broken K.prefix (omega arith) ans in
      let an : answers processes p (Over p kind.Waiting ∷ past) ≡ answers processes p past ++ Broken ∷ [] = ap (and_answer (answers processes p past)) (if_true (p == p) (Some Broken) None (eq_self p)) in
      let len = length-append (answers processes p past) (Broken ∷ []) in
      let run : run_so_far processes p (Over p kind.Waiting ∷ past) ≡ Full processes whole known p = ap (run_of (processes.starts p)) an ∙ whole_run (answers processes p past ++ Broken ∷ []) nx.0 nx.1 (omega arith) in (
        record {
          node_within = n;
          running = f;
          at_barrier = bar;
          all_made = m ∙ sym full_length ∙ ap (λ (u : RunOf Request Halt). length u.events) (sym run);
          over = ap (λ (u : RunOf Request Halt). u.end) run ∙ known.end p n kind.Waiting fin;
        },
        m,
      )
    where
      released_in : (r : ℕ) → r ≡ released whole → Met processes whole known past t (Over p kind.Waiting) → released whole ≤ releases past
      released_in zero e met = omega arith
      released_in (suc r) e met =
          let al = all_arrived processes.start processes.nodes p whole n known.wired in
          let aa = among_all in
          let i = met (Release (suc r)) (r, refl, omega arith) (le_from (suc r) (arrivals_among p (requested p whole) whole) (omega arith)) in
          let l = release_low processes whole known past t (suc r) i in omega arith

      releases_few : releases past ≤ released whole
      releases_few = by (releases past) refl
        where
          by : (r : ℕ) → releases past ≡ r → releases past ≤ released whole
          by zero e = omega arith
          by (suc r) e =
              let i = low_release processes whole known past t (suc r) r refl (omega arith) in
              let it = took_it processes whole known past t (Release (suc r)) i in
              let a = it.1 in let b = it.2 in omega arith
