-- The source allows a release exactly where all that it needs was taken.
use Rattle.std.proofs.Common.{◌≡◌, ℕ, zero, suc, ◌+◌, ◌<◌, ◌≤◌, List, [], ◌∷◌, Option, Some, None, Bool, true, false, ◌==◌, ◌&&◌, refl, sym, ap, ◌∙◌, subst, inl, inr, ⊎_elim, arith, eqb-true, eq-eqb, ltb-true, lt-ltb}
use Rattle.std.specs.Prelude.{nat_lt}
use Rattle.std.proofs.lemmas.Bool.{and_parts, and_from, or_cases, or_left, or_right, cases_lt}
use Rattle.sc_base.specs.declared.value.Place.{Place}
use Rattle.sc_base.specs.declared.value.Value.{Value}
use Rattle.sc_base.specs.declared.value.End.{End}
use Rattle.effect_order.specs.Lists.{In}
use Rattle.sc_meaning.specs.declared.event.SourceEvent.{SourceEvent}
use Rattle.sc_meaning.specs.declared.event.SourceEvent.TheVariants.{Do, Issue, Effect, Sync, Arrive, Release, End as Over}
use Rattle.sc_meaning.specs.Parts.{is_one_way}
use Rattle.sc_meaning.specs.Past.{Processes, made, arrivals, releases, ended, stores_at}
use Rattle.sc_meaning.specs.History.{AllDone, ReleaseAllowed, barrier_of}
use Rattle.sc_isa.specs.declared.journal.Entry.{Entry}
use Rattle.sc_isa.specs.declared.journal.Entry.TheVariants.{Issued, Delivered, Waited, Arrived, Passed, Finished}
use Rattle.fabric.specs.Access.{is_store}
use Rattle.fabric.specs.Barriers.{arrivals as run_arrivals, stores_at as run_stores_at, released}
use Rattle.source_order.specs.Steps.{requested, arrivals_among}
use Rattle.source_order.specs.Needs.{is_on}
use Rattle.source_order.proofs.Stands.{Stands, wired_at, same_stand}
use Rattle.source_order.proofs.Numbers.{eq_self, if_true, issued_is, among_before, among_with, arrivals_all}
use Rattle.source_order.proofs.Distinct.{at_node}
use Rattle.source_order.proofs.Standing.{all_arrived, own_running}
use Rattle.source_order.proofs.Matches.{Known}
use Rattle.source_order.proofs.Taken.{It, Took, is_own, taken_low, place_of}
use Rattle.source_order.proofs.Over.{behind, store_kind, parts_in, all_done}
use Rattle.source_order.proofs.Kept.{kept}
use Rattle.source_order.proofs.Reached.{release_low, low_release, ended_in, own_taken, arrival_exists, among_grows}
use Rattle.source_order.proofs.NextOnes.{know, start_of, le_from}
use Rattle.source_order.proofs.MetOwn.{Met}

pub stores_exist : (m : ℕ) (xs : List Entry) → run_stores_at m xs ≡ true → (q : ℕ) × (old : List Entry) × Stands old (Arrived q true) xs × (run_arrivals q old + 1 ≡ m)
stores_exist m [] h = absurd cc
stores_exist m (Arrived q s ∷ rest) h = ⊎_elim
    (λ a. let z = and_parts s (run_arrivals q rest + 1 == m) a in (q, rest, inl (refl, ap (λ u. Arrived q u) (sym z.0)), eqb-true _ m z.1))
    (λ a. let z = stores_exist m rest a in (z.0, z.1, inr z.2, z.3)) (or_cases (s && (run_arrivals q rest + 1 == m)) (run_stores_at m rest) h)
stores_exist m (Issued _ _ _ ∷ rest) h = let z = stores_exist m rest h in (z.0, z.1, inr z.2, z.3)
stores_exist m (Delivered _ _ _ _ ∷ rest) h = let z = stores_exist m rest h in (z.0, z.1, inr z.2, z.3)
stores_exist m (Waited _ _ ∷ rest) h = let z = stores_exist m rest h in (z.0, z.1, inr z.2, z.3)
stores_exist m (Passed _ ∷ rest) h = let z = stores_exist m rest h in (z.0, z.1, inr z.2, z.3)
stores_exist m (Finished _ _ ∷ rest) h = let z = stores_exist m rest h in (z.0, z.1, inr z.2, z.3)

pub exist_stores : (m q : ℕ) (old xs : List Entry) → Stands old (Arrived q true) xs → run_arrivals q old + 1 ≡ m → run_stores_at m xs ≡ true
exist_stores m q old [] s e = absurd s
exist_stores m q old (x ∷ rest) (inl z) e = subst (λ u. run_stores_at m (u ∷ rest) ≡ true) z.1 (or_left _ _ (eq-eqb _ _ (ap (λ u. run_arrivals q u + 1) (sym z.0) ∙ e)))
exist_stores m q old (x ∷ rest) (inr s) e = by x (exist_stores m q old rest s e)
  where
    by : (x : Entry) → run_stores_at m rest ≡ true → run_stores_at m (x ∷ rest) ≡ true
    by (Arrived r st) h = or_right _ _ h
    by (Issued _ _ _) h = h
    by (Delivered _ _ _ _) h = h
    by (Waited _ _) h = h
    by (Passed _) h = h
    by (Finished _ _) h = h

module _ (processes : Processes) (whole : List Entry) (known : Known processes whole) where
  pub within_of : (x : SourceEvent) → It processes whole known x → is_own x ≡ true → at_node x < processes.nodes
  within_of x h o =
      let pl = place_of processes whole known x h o in
      (own_running processes.start processes.nodes (at_node x) pl.entry pl.past (wired_at processes.start processes.nodes pl.past pl.entry whole known.wired pl.stands).0 pl.request pl.by).2

  arrived_before : (q k : ℕ) (s : Bool) (past : List SourceEvent) → Took processes whole known (Arrive q k s ∷ past) → arrivals q past ≡ arrivals_among q k whole
  arrived_before q k s past t =
      let n = within_of (Arrive q k s) t.2 refl in
      (kept processes whole known q n past t.3).among ∙ ap (λ u. arrivals_among q u whole) (sym t.0.is_next.numbered)

  stored_in : (past : List SourceEvent) → Took processes whole known past → (q k m : ℕ) → In (Arrive q k true) past → suc (arrivals_among q k whole) ≡ m → stores_at m past ≡ true
  stored_in [] t q k m i e = absurd i
  stored_in (x ∷ past) t q k m (inl z) e =
      let a = arrived_before q k true past (subst (λ u. Took processes whole known (u ∷ past)) (sym z) t) in
      subst (λ u. stores_at m (u ∷ past) ≡ true) z (or_left _ _ (eq-eqb (arrivals q past + 1) m (omega (arith, a, e))))
  stored_in (x ∷ past) t q k m (inr i) e = by x (stored_in past t.3 q k m i e)
    where
      by : (x : SourceEvent) → stores_at m past ≡ true → stores_at m (x ∷ past) ≡ true
      by (Arrive _ _ _) h = or_right _ _ h
      by (Do _ _ _ _ _) h = h
      by (Issue _ _) h = h
      by (Effect _ _ _ _ _ _) h = h
      by (Sync _ _) h = h
      by (Release _) h = h
      by (Over _ _) h = h

  in_stored : (past : List SourceEvent) → Took processes whole known past → (m : ℕ) → stores_at m past ≡ true → (q k : ℕ) × It processes whole known (Arrive q k true) × (suc (arrivals_among q k whole) ≡ m)
  in_stored [] t m h = absurd cc
  in_stored (Arrive q k s ∷ past) t m h = ⊎_elim
      (λ a.
      let z = and_parts s (arrivals q past + 1 == m) a in
      let b = arrived_before q k s past t in
      let c = eqb-true (arrivals q past + 1) m z.1 in
      (q, k, subst (λ u. It processes whole known (Arrive q k u)) z.0 t.2, omega (arith, b, c)))
      (λ a. in_stored past t.3 m a) (or_cases (s && (arrivals q past + 1 == m)) (stores_at m past) h)
  in_stored (Do _ _ _ _ _ ∷ past) t m h = in_stored past t.3 m h
  in_stored (Issue _ _ ∷ past) t m h = in_stored past t.3 m h
  in_stored (Effect _ _ _ _ _ _ ∷ past) t m h = in_stored past t.3 m h
  in_stored (Sync _ _ ∷ past) t m h = in_stored past t.3 m h
  in_stored (Release _ ∷ past) t m h = in_stored past t.3 m h
  in_stored (Over _ _ ∷ past) t m h = in_stored past t.3 m h

  -- the arrival of an item
  arrival_at : (q k : ℕ) (s : Bool) (i : It processes whole known (Arrive q k s)) → (arrivals_among q k whole ≡ run_arrivals q i.0) × (arrivals_among q (suc k) whole ≡ run_arrivals q i.0 + 1)
  arrival_at q k s i =
      let rq = if_true (q == q) (Some (barrier_of s 0)) None (eq_self q) in (
        subst (λ u. arrivals_among q u whole ≡ run_arrivals q i.0) i.2 (among_before q i.0 (Arrived q s) whole _ i.1 rq),
        subst (λ u. arrivals_among q (suc u) whole ≡ run_arrivals q i.0 + 1) i.2 (among_with q i.0 (Arrived q s) whole _ i.1 rq ∙ if_true (q == q) _ _ (eq_self q)),
      )

  module _ (past : List SourceEvent) (t : Took processes whole known past) where
    pub release_to : (m : ℕ) → ReleaseAllowed processes past m → Met processes whole known past t (Release m)
    release_to m h = met
      where
        made_since : (p j : ℕ) (n : p < processes.nodes) → arrivals_among p j whole < m → j < made p past
        made_since p j n lt =
            let a = h.all_arrived p n in
            let k = (know processes whole known past t p n).among in
            ⊎_elim (λ l. l) (λ ge. let g = among_grows processes whole known p (made p past) j whole ge in absurd (omega arith)) (cases_lt j (made p past))

        arrival : (p j : ℕ) (s : Bool) → It processes whole known (Arrive p j s) → suc (arrivals_among p j whole) ≡ m → In (Arrive p j s) past
        arrival p j s i e = own_taken processes whole known past t (Arrive p j s) i refl (made_since p j (within_of (Arrive p j s) i refl) (omega arith))

        met : Met processes whole known past t (Release m)
        met (Release j) i s = let e = eqb-true (suc j) m s in let n = h.numbered in low_release processes whole known past t j i.0 i.1 (omega arith)
        met (Arrive p j st) i s = arrival p j st i (eqb-true _ m s)
        met (Effect p j c wrote place value) i s =
            let z = and_parts (is_on whole is_store p j) (run_stores_at m whole && nat_lt (arrivals_among p j whole) m) s in
            let y = and_parts (run_stores_at m whole) (nat_lt (arrivals_among p j whole) m) z.1 in
            let n = (behind processes whole known p j false i.0).node_within in
            let lt = made_since p j n (ltb-true (arrivals_among p j whole) m y.1) in
            let e = stores_exist m whole y.0 in
            let it : It processes whole known (Arrive e.0 (requested e.0 e.1) true) = (e.1, e.2, refl) in
            let a = arrival_at e.0 (requested e.0 e.1) true it in
            let b : suc (arrivals_among e.0 (requested e.0 e.1) whole) ≡ m = (let x = a.0 in let w = e.3 in omega arith) in
            let st = stored_in past t e.0 (requested e.0 e.1) m (arrival e.0 (requested e.0 e.1) true it b) b in
            parts_in processes whole known is_one_way is_store store_kind p past t (start_of processes whole known past t p n) (h.stores_done st p n) j c wrote place value lt i z.0
        met (Do _ _ _ _ _) i s = absurd cc
        met (Issue _ _) i s = absurd cc
        met (Sync _ _) i s = absurd cc
        met (Over _ _) i s = absurd cc

    pub release_from : ((y : SourceEvent) → In y past → Met processes whole known past t y) → (m : ℕ) → It processes whole known (Release m) → (In (Release m) past → ⊥) → Met processes whole known past t (Release m) → ReleaseAllowed processes past m
    release_from closed m i out met = record {
      numbered = number m i.0 i.1 i.2 out met;
      all_arrived = arrived;
      none_ended = ended_not;
      stores_done = λ s p n. stores s p n;
    }
      where
        number : (m r : ℕ) → m ≡ suc r → r < released whole → (In (Release m) past → ⊥) → Met processes whole known past t (Release m) → m ≡ releases past + 1
        number m r e lt out met =
            let hi : releases past < m = ⊎_elim (λ l. l) (λ ge. absurd (out (low_release processes whole known past t m r e ge))) (cases_lt (releases past) m) in
            by r e lt hi
          where
            by : (r : ℕ) → m ≡ suc r → r < released whole → releases past < m → m ≡ releases past + 1
            by zero e lt hi = omega arith
            by (suc j) e lt hi =
                let k = met (Release (suc j)) (j, refl, omega arith) (eq-eqb (suc (suc j)) m (sym e)) in
                let l = release_low processes whole known past t (suc j) k in omega arith

        arrived : (p : ℕ) → p < processes.nodes → m ≤ arrivals p past
        arrived p n =
            let al = all_arrived processes.start processes.nodes p whole n known.wired in
            let e = i.1 in let lt = i.2 in
            let a = arrival_exists processes whole known p i.0 whole (omega arith) in
            let it : It processes whole known (Arrive p (requested p a.0) a.1) = (a.0, a.2, refl) in
            let at = arrival_at p (requested p a.0) a.1 it in
            let b : suc (arrivals_among p (requested p a.0) whole) ≡ m = (let x = at.0 in let w = a.3 in omega arith) in
            let j = met (Arrive p (requested p a.0) a.1) it (eq-eqb _ m b) in
            let l = taken_low processes whole known past t (Arrive p (requested p a.0) a.1) j refl in
            let g = among_grows processes whole known p (suc (requested p a.0)) (made p past) whole l in
            let k = (know processes whole known past t p n).among in
            let x = at.1 in let y = at.0 in omega arith

        ended_not : (p : ℕ) → p < processes.nodes → ended p past ≡ None
        ended_not p n = by (ended p past) refl
          where
            by : (o : Option End) → ended p past ≡ o → ended p past ≡ None
            by None e = e
            by (Some end) e =
                let z = ended_in processes whole known past p end e in
                let al = all_arrived processes.start processes.nodes p whole n known.wired in
                let aa = arrivals_all p (requested p whole) whole (omega arith) in
                let me = i.1 in let lt = i.2 in
                absurd (out (closed (Over p end) z (Release m) i (le_from m (arrivals_among p (requested p whole) whole) (omega arith))))

        stores : stores_at m past ≡ true → (p : ℕ) → p < processes.nodes → AllDone processes is_one_way p past
        stores s p n =
            let st = in_stored past t m s in
            let at = arrival_at st.0 st.1 true st.2 in
            let rs : run_stores_at m whole ≡ true = exist_stores m st.0 st.2.0 whole st.2.1 (let x = at.0 in let y = st.3 in omega arith) in
            let k = know processes whole known past t p n in
            let hi = k.high in let am = k.among in
            let nm = number m i.0 i.1 i.2 out met in
            all_done processes whole known is_one_way is_store store_kind p past n (start_of processes whole known past t p n)
            (λ j c wrote place value lt it o. met (Effect p j c wrote place value) it (and_from (is_on whole is_store p j) (run_stores_at m whole && nat_lt (arrivals_among p j whole) m) o
            (and_from (run_stores_at m whole) (nat_lt (arrivals_among p j whole) m) rs (lt-ltb (arrivals_among p j whole) m (fewer j c wrote place value it lt hi am nm)))))
          where
            fewer : (j c : ℕ) (wrote : Bool) (place : Place) (value : Value) → It processes whole known (Effect p j c wrote place value) → j < made p past → arrivals p past ≤ releases past + 1 → arrivals p past ≡ arrivals_among p (made p past) whole → m ≡ releases past + 1 → arrivals_among p j whole < m
            fewer j c wrote place value it lt hi am nm =
                let g = among_grows processes whole known p j (made p past) whole (omega arith) in
                ⊎_elim (λ l. omega arith)
                (λ ge.
                let at = (know processes whole known past t p n).at (ended_not p n) (omega arith) in
                let ar = arrival_at p (requested p at.0) at.1 (at.0, at.2, refl) in
                let ne : j ≡ requested p at.0 → ⊥ = (λ q. not_access it at.0 at.1 at.2 q) in
                let mm = at.3 in
                let g2 = among_grows processes whole known p j (requested p at.0) whole (omega arith) in
                let g3 = ap (λ u. arrivals_among p u whole) at.3 in
                let x = ar.0 in let y = ar.1 in omega arith)
                (cases_lt (arrivals p past) m)
              where
                not_access : It processes whole known (Effect p j c wrote place value) → (old : List Entry) (s : Bool) → Stands old (Arrived p s) whole → j ≡ requested p old → ⊥
                not_access it old s st q =
                    let same = same_stand p it.0.past old (Issued p it.0.n it.0.access) (Arrived p s) _ _ whole it.0.stands st (issued_is p it.0.n it.0.access) (if_true (p == p) (Some (barrier_of s 0)) None (eq_self p)) (it.0.numbered ∙ q) in
                    let z = same.1 in cc
