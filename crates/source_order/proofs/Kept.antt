-- Along items taken as the source allows, each node has had the first answers of its run.
use Rattle.std.proofs.Common.{◌≡◌, ℕ, suc, ◌+◌, ◌<◌, ◌≤◌, List, [], ◌∷◌, ◌++◌, length, Some, None, Bool, true, false, ◌==◌, ◌&&◌, refl, sym, ap, ◌∙◌, subst, inl, inr, ⊎_elim, arith, eqb-true, le_refl, length-append, ltb-true}
use Rattle.std.specs.Prelude.{slice_get, nat_lt}
use Rattle.std.proofs.lemmas.Bool.{and_parts, false_from_ne_true}
use Rattle.sc_base.specs.declared.value.End.{End}
use Rattle.sc_base.specs.declared.value.End.TheVariants as kind
use Rattle.sc_meaning.specs.declared.event.SourceEvent.{SourceEvent}
use Rattle.sc_meaning.specs.declared.event.SourceEvent.TheVariants.{Do, Issue, Effect, Sync, Arrive, Release, End as Over}
use Rattle.sc_meaning.specs.declared.request.Request.TheVariants.{Sync as SyncRequest}
use Rattle.sc_meaning.specs.History.{AllDone, barrier_of}
use Rattle.sc_meaning.specs.Asking.{Shown, Landed, Passed as PassedOn, Broken}
use Rattle.sc_meaning.specs.Parts.{is_split}
use Rattle.sc_meaning.specs.Past.{Processes, made, arrivals, releases, ended, answers, answer_to, and_answer, got}
use Rattle.sc_isa.specs.declared.journal.Entry.{Entry}
use Rattle.sc_isa.specs.declared.journal.Entry.TheVariants.{Issued, Delivered, Waited, Arrived, Passed, Finished}
use Rattle.fabric.specs.Effects.{awaited}
use Rattle.fabric.specs.Barriers.{arrivals as run_arrivals}
use Rattle.source_order.proofs.Once.{each_part_once}
use Rattle.source_order.specs.Steps.{requested, own_requests, arrivals_among}
use Rattle.source_order.proofs.Stands.{Stands}
use Rattle.source_order.proofs.Numbers.{eq_self, if_true, if_false, both_self, among_before, among_with, arrivals_all}
use Rattle.source_order.proofs.Occurs.{not_some, some_from, its_value}
use Rattle.source_order.proofs.Own.{finished_is}
use Rattle.source_order.proofs.Standing.{ending}
use Rattle.source_order.proofs.Answered.{sync_answer, pass_answer, broken_answer}
use Rattle.source_order.proofs.Character.{an_effect}
use Rattle.source_order.proofs.Matches.{Known}
use Rattle.source_order.proofs.Taken.{It, E, Took, next_of, whose, not_same, has_place}
use Rattle.source_order.proofs.Landed.{landed_same}
use Rattle.source_order.proofs.Asked.{one_if, asks}
use Rattle.source_order.proofs.Parted.{Needed}
use Rattle.source_order.proofs.Needed.{needed_before, needed_with}
use Rattle.source_order.proofs.Progress.{Kept, A, begun, same, advance, advance_on, access_among, access_needed, access_answer, arrival_needed, issue_unanswered, wrote_unanswered, read_answered, read_shown, eq_is, next_answer}

module _ (processes : Processes) (whole : List Entry) (known : Known processes whole) (p : ℕ) (within : p < processes.nodes) where
  abbrev N : ℕ → ℕ
  N k = Needed processes whole known p k

  abbrev Kp : List SourceEvent → Type 0
  Kp past = Kept processes whole known p within past

  -- an end other than as waiting
  over : (end : End) (q : ℕ) (past : List SourceEvent) → answer_to processes p (answers processes p past) past (Over q end) ≡ None → (made q past == requested q whole) ≡ true → ended q past ≡ None → arrivals q past ≤ releases past → Kp past → Kp (Over q end ∷ past)
  over end q past quiet turn f le i = by (q == p) refl
    where
      by : (b : Bool) → (q == p) ≡ b → Kp (Over q end ∷ past)
      by false b = same processes whole known p within (Over q end) past i (ap (and_answer (answers processes p past)) quiet) refl refl refl (if_false (q == p) _ _ b)
      by true b =
          let e = eqb-true q p b in
          let fp : ended p past ≡ None = subst (λ u. ended u past ≡ None) e f in
          let lp : arrivals p past ≤ releases past = subst (λ u. arrivals u past ≤ releases past) e le in
          let mk : made p past ≡ requested p whole = subst (λ u. made u past ≡ requested u whole) e (eqb-true (made q past) (requested q whole) turn) in
          let op = i.level fp in let lo = i.low in
          let an : answers processes p (Over q end ∷ past) ≡ answers processes p past = ap (and_answer (answers processes p past)) quiet in
          let len = ap length an in
          let en : ended p (Over q end ∷ past) ≡ Some end = if_true (q == p) _ _ b in
          record {
            rest = i.rest;
            prefix = i.prefix ∙ ap (λ u. u ++ i.rest) (sym an);
            among = i.among;
            low = i.low;
            high = i.high;
            level = λ g. absurd (not_some (ended p (Over q end ∷ past)) g (some_from _ _ en));
            full = λ g. (mk, omega arith);
            at = λ g j. absurd (not_some (ended p (Over q end ∷ past)) g (some_from _ _ en));
          }

  -- ---- one step

  pub step : (x : SourceEvent) (past : List SourceEvent) → Took processes whole known (x ∷ past) → Kp past → Kp (x ∷ past)
  step (Do q k true place value) past t i = ⊎_elim mine other (whose p (Do q k true place value))
    where
      other : (true ≡ true → q ≡ p → ⊥) → Kp (Do q k true place value ∷ past)
      other f = let b = not_same q p (f refl) in same processes whole known p within (Do q k true place value) past i refl (if_false (q == p) _ _ b) refl refl refl

      mine : (true ≡ true) × (q ≡ p) → Kp (Do q k true place value ∷ past)
      mine o =
          let b = eq_is q p o.1 in
          let g = (next_of processes past (Do q k true place value) refl t.0).1 in
          let n : k ≡ made p past = g.numbered ∙ ap (λ u. made u past) o.1 in
          let it = subst (λ u. It processes whole known (Do u k true place value)) o.1 t.2 in
          let an = access_needed processes whole known p within k true it.0 in
          let w = ap one_if (wrote_unanswered it.0.access place (has_place processes whole known p k 0 true true place value it.0 it.1)) in
          advance_on processes whole known p within (Do q k true place value) past i (subst (λ u. ended u past ≡ None) o.1 g.goes_on.running) (subst (λ u. arrivals u past ≤ releases past) o.1 g.goes_on.released)
          refl (if_true (q == p) _ _ b) refl refl refl
          (subst (λ u. N (suc u) ≡ N u) n (omega arith)) (subst (λ u. arrivals_among p (suc u) whole ≡ arrivals_among p u whole) n (access_among processes whole known p within k true it.0))
  step (Do q k false place value) past t i = ⊎_elim mine other (whose p (Do q k false place value))
    where
      other : (true ≡ true → q ≡ p → ⊥) → Kp (Do q k false place value ∷ past)
      other f = let b = not_same q p (f refl) in same processes whole known p within (Do q k false place value) past i (ap (and_answer (answers processes p past)) (if_false (q == p) _ _ b)) (if_false (q == p) _ _ b) refl refl refl

      mine : (true ≡ true) × (q ≡ p) → Kp (Do q k false place value ∷ past)
      mine o =
          let b = eq_is q p o.1 in
          let g = (next_of processes past (Do q k false place value) refl t.0).1 in
          let n : k ≡ made p past = g.numbered ∙ ap (λ u. made u past) o.1 in
          let it = subst (λ u. It processes whole known (Do u k false place value)) o.1 t.2 in
          let an = access_needed processes whole known p within k true it.0 in
          let hp = has_place processes whole known p k 0 true false place value it.0 it.1 in
          let one = ap one_if (read_answered it.0.access place it.0.kind hp) in
          let v = its_value (an_effect p it.0.n 0 false place value) (E processes whole known) (each_part_once processes.start whole) it.1 in
          let w = access_answer processes whole known p within k true it.0 (Shown value) (read_shown (E processes whole known) p it.0.access it.0.n place value it.0.kind hp v) in
          advance processes whole known p within (Do q k false place value) past i (subst (λ u. ended u past ≡ None) o.1 g.goes_on.running) (subst (λ u. arrivals u past ≤ releases past) o.1 g.goes_on.released) (Shown value)
          (ap (and_answer (answers processes p past)) (if_true (q == p) _ _ b)) (if_true (q == p) _ _ b) refl refl refl
          (subst (λ u. slice_get (A processes whole known p within) (N u) ≡ Some (Shown value)) n w) (subst (λ u. N (suc u) ≡ N u + 1) n (omega arith))
          (subst (λ u. arrivals_among p (suc u) whole ≡ arrivals_among p u whole) n (access_among processes whole known p within k true it.0))
  step (Issue q k) past t i = ⊎_elim mine other (whose p (Issue q k))
    where
      other : (true ≡ true → q ≡ p → ⊥) → Kp (Issue q k ∷ past)
      other f = let b = not_same q p (f refl) in same processes whole known p within (Issue q k) past i refl (if_false (q == p) _ _ b) refl refl refl

      mine : (true ≡ true) × (q ≡ p) → Kp (Issue q k ∷ past)
      mine o =
          let b = eq_is q p o.1 in
          let g = (next_of processes past (Issue q k) refl t.0).1 in
          let n : k ≡ made p past = g.numbered ∙ ap (λ u. made u past) o.1 in
          let it = subst (λ u. It processes whole known (Issue u k)) o.1 t.2 in
          let an = access_needed processes whole known p within k false it in
          let w = ap one_if (issue_unanswered it.access it.kind) in
          advance_on processes whole known p within (Issue q k) past i (subst (λ u. ended u past ≡ None) o.1 g.goes_on.running) (subst (λ u. arrivals u past ≤ releases past) o.1 g.goes_on.released)
          refl (if_true (q == p) _ _ b) refl refl refl
          (subst (λ u. N (suc u) ≡ N u) n (omega arith)) (subst (λ u. arrivals_among p (suc u) whole ≡ arrivals_among p u whole) n (access_among processes whole known p within k false it))
  step (Sync q k) past t i = ⊎_elim mine other (whose p (Sync q k))
    where
      other : (true ≡ true → q ≡ p → ⊥) → Kp (Sync q k ∷ past)
      other f = let b = not_same q p (f refl) in same processes whole known p within (Sync q k) past i (ap (and_answer (answers processes p past)) (if_false (q == p) _ _ b)) (if_false (q == p) _ _ b) refl refl refl

      mine : (true ≡ true) × (q ≡ p) → Kp (Sync q k ∷ past)
      mine o =
          let b = eq_is q p o.1 in
          let g = t.0.is_next in
          let n : k ≡ made p past = g.numbered ∙ ap (λ u. made u past) o.1 in
          let it = subst (λ u. It processes whole known (Sync u k)) o.1 t.2 in
          let rq = if_true ((p == p) && (0 == 0)) (Some (SyncRequest 0)) None (both_self p 0) in
          let h = subst (λ u. slice_get (A processes whole known p within) u ≡ Some (Landed (got p (E processes whole known) (awaited p 0 it.0)))) (sym (needed_before processes whole known p within it.0 (Waited p 0) (SyncRequest 0) it.1 rq))
          (sync_answer processes.start processes.nodes (E processes whole known) p it.0 whole known.wired it.1) in
          let nw = needed_with processes whole known p within it.0 (Waited p 0) (SyncRequest 0) it.1 rq in
          let same_landed = landed_same processes whole known p within past t.3 (begun processes whole known p within past i) it.0 it.1 (sym n ∙ sym it.2) (before it.0 (Waited p 0) whole it.1)
          (subst (λ u. AllDone processes is_split u past) o.1 t.0.all_done) in
          advance processes whole known p within (Sync q k) past i (subst (λ u. ended u past ≡ None) o.1 g.goes_on.running) (subst (λ u. arrivals u past ≤ releases past) o.1 g.goes_on.released) (Landed (got p (E processes whole known) (awaited p 0 it.0)))
          (ap (and_answer (answers processes p past)) (if_true (q == p) _ _ b) ∙ ap (λ u. answers processes p past ++ Landed u ∷ []) same_landed) (if_true (q == p) _ _ b) refl refl refl
          (subst (λ u. slice_get (A processes whole known p within) (N u) ≡ Some (Landed (got p (E processes whole known) (awaited p 0 it.0)))) (it.2 ∙ n) h)
          (subst (λ u. N (suc u) ≡ N u + 1) (it.2 ∙ n) nw)
          (subst (λ u. arrivals_among p (suc u) whole ≡ arrivals_among p u whole) (it.2 ∙ n) (among_with p it.0 (Waited p 0) whole _ it.1 rq ∙ sym (among_before p it.0 (Waited p 0) whole _ it.1 rq)))
        where
          before : (s : List Entry) (e : Entry) (xs : List Entry) → Stands s e xs → (u : List Entry) (f : Entry) → Stands u f s → Stands u f xs
          before s e [] st u f j = absurd st
          before s e (y ∷ xs) (inl q) u f j = inr (subst (Stands u f) q.0 j)
          before s e (y ∷ xs) (inr st) u f j = inr (before s e xs st u f j)
  step (Arrive q k s) past t i = ⊎_elim mine other (whose p (Arrive q k s))
    where
      other : (true ≡ true → q ≡ p → ⊥) → Kp (Arrive q k s ∷ past)
      other f = let b = not_same q p (f refl) in same processes whole known p within (Arrive q k s) past i refl (if_false (q == p) _ _ b) (if_false (q == p) _ _ b) refl refl

      mine : (true ≡ true) × (q ≡ p) → Kp (Arrive q k s ∷ past)
      mine o =
          let b = eq_is q p o.1 in
          let g = t.0.is_next in
          let f : ended p past ≡ None = subst (λ u. ended u past ≡ None) o.1 g.goes_on.running in
          let le : arrivals p past ≤ releases past = subst (λ u. arrivals u past ≤ releases past) o.1 g.goes_on.released in
          let n : k ≡ made p past = g.numbered ∙ ap (λ u. made u past) o.1 in
          let it = subst (λ u. It processes whole known (Arrive u k s)) o.1 t.2 in
          let rq = if_true (p == p) (Some (barrier_of s 0)) None (eq_self p) in
          let w = among_with p it.0 (Arrived p s) whole _ it.1 rq in
          let y = among_before p it.0 (Arrived p s) whole _ it.1 rq in
          let z = if_true (p == p) (run_arrivals p it.0 + 1) (run_arrivals p it.0) (eq_self p) in
          let m : made p (Arrive q k s ∷ past) ≡ made p past + 1 = if_true (q == p) _ _ b in
          let r : arrivals p (Arrive q k s ∷ past) ≡ arrivals p past + 1 = if_true (q == p) _ _ b in
          let nn : requested p it.0 ≡ made p past = it.2 ∙ n in
          let am : arrivals_among p (suc (made p past)) whole ≡ arrivals_among p (made p past) whole + 1 = subst (λ u. arrivals_among p (suc u) whole ≡ arrivals_among p u whole + 1) nn (w ∙ z ∙ ap (λ u. u + 1) (sym y)) in
          let op = i.level f in let lo = i.low in let c = i.among in
          let ne = (arrival_needed processes whole known p within it.0 s it.1).0 in
          let ne2 = ap N nn in let ne3 = ap (λ u. N (suc u)) nn in
          let ne4 : N (made p (Arrive q k s ∷ past)) ≡ N (suc (made p past)) = ap N (let v : made p (Arrive q k s ∷ past) ≡ suc (made p past) = omega arith in v) in
          record {
            rest = i.rest;
            prefix = i.prefix;
            among = r ∙ ap (λ u. u + 1) c ∙ sym am ∙ ap (λ u. arrivals_among p u whole) (let v : suc (made p past) ≡ made p (Arrive q k s ∷ past) = omega arith in v);
            low = omega arith;
            high = omega arith;
            level = λ h. omega arith;
            full = λ h. absurd (not_some (ended p past) f h);
            at = λ h j. (it.0, s, it.1, omega arith);
          }
  step (Effect q k c wrote place value) past t i = same processes whole known p within (Effect q k c wrote place value) past i refl refl refl refl refl
  step (Release m) past t i =
      let al = t.0.all_arrived p within in
      let f = t.0.none_ended p within in
      let nm = t.0.numbered in
      let hi = i.high in let lo = i.low in
      let ar : arrivals p past ≡ m = omega arith in
      let st = i.at f (omega arith) in
      let rq = if_true (p == p) (Some (barrier_of st.1 0)) None (eq_self p) in
      let w = among_with p st.0 (Arrived p st.1) whole _ st.2 rq in
      let z = if_true (p == p) (run_arrivals p st.0 + 1) (run_arrivals p st.0) (eq_self p) in
      let en = (ending processes.start processes.nodes whole known.wired p within (known.all_finished p within)).passed in
      let rel = t.2.1 in let rel2 = t.2.2 in
      let c = i.among in
      let cc1 : arrivals_among p (suc (requested p st.0)) whole ≡ arrivals p past = ap (λ u. arrivals_among p u whole) st.3 ∙ sym c in
      let h = pass_answer processes.start processes.nodes (E processes whole known) p st.0 st.1 whole known.wired st.2 (omega arith) in
      let op = i.level f in let mm = st.3 in
      let ne = arrival_needed processes whole known p within st.0 st.1 st.2 in
      let ne0 = ne.0 in let ne1 = ne.1 in let ne2 = ap N mm in
      let n = next_answer (A processes whole known p within) (answers processes p past) i.rest (asks (requested p st.0) (own_requests p st.0)) PassedOn i.prefix (omega arith) h in
      let an : answers processes p (Release m ∷ past) ≡ answers processes p past ++ PassedOn ∷ [] = ap (and_answer (answers processes p past)) (if_true (arrivals p past == m) _ _ (eq_is (arrivals p past) m ar)) in
      let len = ap length an in let len2 = length-append (answers processes p past) (PassedOn ∷ []) in
      record {
        rest = n.0;
        prefix = n.1 ∙ ap (λ u. u ++ n.0) (sym an);
        among = c;
        low = omega arith;
        high = omega arith;
        level = λ g. omega arith;
        full = λ g. absurd (not_some (ended p past) f g);
        at = λ g j. absurd (omega arith);
      }
  step (Over q kind.Waiting) past t i = by (q == p) refl
    where
      by : (b : Bool) → (q == p) ≡ b → Kp (Over q kind.Waiting ∷ past)
      by false b = same processes whole known p within (Over q kind.Waiting) past i (ap (and_answer (answers processes p past)) (if_false (q == p) _ _ b)) refl refl refl (if_false (q == p) _ _ b)
      by true b =
          let e = eqb-true q p b in
          let f : ended p past ≡ None = subst (λ u. ended u past ≡ None) e t.0.running in
          let ar : arrivals p past ≡ releases past + 1 = subst (λ u. arrivals u past ≡ releases past + 1) e t.0.at_barrier in
          let st = i.at f ar in
          let mk : made p past ≡ requested p whole = subst (λ u. made u past ≡ requested u whole) e (eqb-true (made q past) (requested q whole) t.1) in
          let fin : Stands t.2.0 (Finished p kind.Waiting) whole = subst (λ u. Stands t.2.0 (Finished u kind.Waiting) whole) e t.2.1 in
          let ending_p = ending processes.start processes.nodes whole known.wired p within (known.all_finished p within) in
          let pa = ending_p.passed in
          let sk = ending_p.stuck (finished_is p kind.Waiting t.2.0 whole processes.start processes.nodes known.wired fin) in
          let rq = if_true (p == p) (Some (barrier_of st.1 0)) None (eq_self p) in
          let w = among_with p st.0 (Arrived p st.1) whole _ st.2 rq in
          let z = if_true (p == p) (run_arrivals p st.0 + 1) (run_arrivals p st.0) (eq_self p) in
          let al = arrivals_all p (made p past) whole (omega arith) in
          let al2 : arrivals_among p (suc (requested p st.0)) whole ≡ arrivals_among p (made p past) whole = ap (λ u. arrivals_among p u whole) st.3 in
          let h = broken_answer processes.start processes.nodes (E processes whole known) p st.0 st.1 t.2.0 whole known.wired st.2 fin (omega arith) in
          let op = i.level f in let mm = st.3 in
          let ne = arrival_needed processes whole known p within st.0 st.1 st.2 in
          let ne0 = ne.0 in let ne1 = ne.1 in let ne2 = ap N mm in
          let n = next_answer (A processes whole known p within) (answers processes p past) i.rest (asks (requested p st.0) (own_requests p st.0)) Broken i.prefix (omega arith) h in
          let an : answers processes p (Over q kind.Waiting ∷ past) ≡ answers processes p past ++ Broken ∷ [] = ap (and_answer (answers processes p past)) (if_true (q == p) _ _ b) in
          let len = ap length an in let len2 = length-append (answers processes p past) (Broken ∷ []) in
          let en : ended p (Over q kind.Waiting ∷ past) ≡ Some kind.Waiting = if_true (q == p) _ _ b in
          record {
            rest = n.0;
            prefix = n.1 ∙ ap (λ u. u ++ n.0) (sym an);
            among = i.among;
            low = i.low;
            high = i.high;
            level = λ g. absurd (not_some (ended p (Over q kind.Waiting ∷ past)) g (some_from _ _ en));
            full = λ g. (mk, omega arith);
            at = λ g j. absurd (not_some (ended p (Over q kind.Waiting ∷ past)) g (some_from _ _ en));
          }
  step (Over q kind.Ended) past t i = over kind.Ended q past refl t.1 t.0.goes_on.running t.0.goes_on.released i
  step (Over q (kind.Fault k l)) past t i = over (kind.Fault k l) q past refl t.1 t.0.goes_on.running t.0.goes_on.released i
  step (Over q kind.Cut) past t i = over kind.Cut q past refl t.1 t.0.goes_on.running t.0.goes_on.released i

  pub kept : (past : List SourceEvent) → Took processes whole known past → Kp past
  kept [] t = record { rest = A processes whole known p within; prefix = refl; among = sym (none whole); low = le_refl 0; high = omega arith; level = λ f. refl; full = λ f. absurd cc; at = λ f h. absurd (omega arith) }
    where
      none : (xs : List Entry) → arrivals_among p 0 xs ≡ 0
      none [] = refl
      none (Arrived q s ∷ xs) = if_false _ _ _ (low q (requested p xs)) ∙ none xs
        where
          low : (q n : ℕ) → ((q == p) && nat_lt n 0) ≡ false
          low q n = false_from_ne_true _ (λ h. let u = and_parts (q == p) (nat_lt n 0) h in let v : n < 0 = ltb-true n 0 u.1 in absurd (omega arith))
      none (Issued _ _ _ ∷ xs) = none xs
      none (Delivered _ _ _ _ ∷ xs) = none xs
      none (Waited _ _ ∷ xs) = none xs
      none (Passed _ ∷ xs) = none xs
      none (Finished _ _ ∷ xs) = none xs
  kept (x ∷ past) t = step x past t (kept past t.3)
