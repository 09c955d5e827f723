-- Which items were taken, told by how far the nodes have come; and that each number has its item.
use Rattle.std.proofs.Common.{◌≡◌, ℕ, suc, ◌+◌, ◌<◌, ◌≤◌, List, [], ◌∷◌, Some, None, Bool, true, false, ◌==◌, ◌&&◌, refl, sym, ap, ◌∙◌, subst, inl, inr, ⊎_elim, arith, eqb-true, le_refl, ltb-true, lt-ltb}
use Rattle.std.specs.Prelude.{if◌then◌else◌, IsSome, nat_lt}
use Rattle.std.proofs.lemmas.Bool.{both_ways, and_parts, cases_lt}
use Rattle.sc_base.specs.declared.value.Place.{Place}
use Rattle.sc_base.specs.declared.value.Value.{Value}
use Rattle.sc_base.specs.declared.value.End.{End}
use Rattle.effect_order.specs.Lists.{In}
use Rattle.sc_meaning.specs.declared.request.Request.{Request}
use Rattle.sc_meaning.specs.declared.event.SourceEvent.{SourceEvent}
use Rattle.sc_meaning.specs.declared.event.SourceEvent.TheVariants.{Do, Issue, Effect, Sync, Arrive, Release, End as Over}
use Rattle.effect_order.specs.Transfer.{part_place, part_value, further}
use Rattle.sc_meaning.specs.Past.{Processes, made, releases, ended}
use Rattle.sc_meaning.specs.History.{Allowed, barrier_of}
use Rattle.sc_meaning.specs.declared.request.Request.TheVariants.{Sync as SyncRequest}
use Rattle.sc_isa.specs.declared.access.Access.{Access}
use Rattle.sc_isa.specs.declared.access.Access.TheVariants.{Read, Write, Copy}
use Rattle.sc_isa.specs.declared.journal.Entry.{Entry}
use Rattle.sc_isa.specs.declared.journal.Entry.TheVariants.{Issued, Delivered, Waited, Arrived, Passed, Finished}
use Rattle.fabric.specs.Access.{transfer_of as moved_by}
use Rattle.fabric.specs.Barriers.{arrivals as run_arrivals}
use Rattle.source_order.specs.Steps.{request_by, requested, arrivals_among}
use Rattle.sc_meaning.specs.OfAccess.{request_in, is_done_at_once}
use Rattle.source_order.proofs.Stands.{Stands, asked}
use Rattle.source_order.proofs.Numbers.{eq_self, if_true, access_is}
use Rattle.source_order.proofs.Occurs.{as_part, some_from, some_is, part_of, found}
use Rattle.source_order.proofs.Distinct.{num, at_node}
use Rattle.source_order.proofs.Character.{IsAccess, an_effect}
use Rattle.source_order.proofs.Matches.{Known}
use Rattle.source_order.proofs.Taken.{It, E, Took, is_own, low_taken, one_numbered, took_it}

module _ (processes : Processes) (whole : List Entry) (known : Known processes whole) where
  pub release_low : (past : List SourceEvent) → Took processes whole known past → (m : ℕ) → In (Release m) past → m ≤ releases past
  release_low [] t m i = absurd i
  release_low (x ∷ past) t m (inl q) = subst (λ u. m ≤ releases (u ∷ past)) q (let n = (subst (λ u. Allowed processes past u) (sym q) t.0).numbered in omega arith)
  release_low (x ∷ past) t m (inr i) = let a = release_low past t.3 m i in by x a
    where
      by : (x : SourceEvent) → m ≤ releases past → m ≤ releases (x ∷ past)
      by (Release _) a = omega arith
      by (Do _ _ _ _ _) a = a
      by (Issue _ _) a = a
      by (Effect _ _ _ _ _ _) a = a
      by (Sync _ _) a = a
      by (Arrive _ _ _) a = a
      by (Over _ _) a = a

  pub low_release : (past : List SourceEvent) → Took processes whole known past → (m r : ℕ) → m ≡ suc r → m ≤ releases past → In (Release m) past
  low_release [] t m r e le = absurd (omega arith)
  low_release (Release n ∷ past) t m r e le =
      let z = t.0.numbered in
      ⊎_elim (λ a. inr (low_release past t.3 m r e (omega arith))) (λ a. inl (let y : m ≡ n = omega arith in ap (λ u. Release u) y)) (cases_lt m n)
  low_release (Do _ _ _ _ _ ∷ past) t m r e le = inr (low_release past t.3 m r e le)
  low_release (Issue _ _ ∷ past) t m r e le = inr (low_release past t.3 m r e le)
  low_release (Effect _ _ _ _ _ _ ∷ past) t m r e le = inr (low_release past t.3 m r e le)
  low_release (Sync _ _ ∷ past) t m r e le = inr (low_release past t.3 m r e le)
  low_release (Arrive _ _ _ ∷ past) t m r e le = inr (low_release past t.3 m r e le)
  low_release (Over _ _ ∷ past) t m r e le = inr (low_release past t.3 m r e le)

  pub ended_in : (past : List SourceEvent) (p : ℕ) (end : End) → ended p past ≡ Some end → In (Over p end) past
  ended_in [] p end h = absurd cc
  ended_in (Over q other ∷ past) p end h = by (q == p) refl h (λ i. ended_in past p end i)
    where
      by : (b : Bool) → (q == p) ≡ b → (if b then Some other else ended p past) ≡ Some end → (ended p past ≡ Some end → In (Over p end) past) → In (Over p end) (Over q other ∷ past)
      by true t i f = let e : other ≡ end = cc in inl (ap (λ u. Over u end) (sym (eqb-true q p t)) ∙ ap (λ u. Over q u) (sym e))
      by false t i f = inr (f i)
  ended_in (Do _ _ _ _ _ ∷ past) p end h = inr (ended_in past p end h)
  ended_in (Issue _ _ ∷ past) p end h = inr (ended_in past p end h)
  ended_in (Effect _ _ _ _ _ _ ∷ past) p end h = inr (ended_in past p end h)
  ended_in (Sync _ _ ∷ past) p end h = inr (ended_in past p end h)
  ended_in (Arrive _ _ _ ∷ past) p end h = inr (ended_in past p end h)
  ended_in (Release _ ∷ past) p end h = inr (ended_in past p end h)

  pub in_ended : (past : List SourceEvent) (p : ℕ) (end : End) → In (Over p end) past → IsSome (ended p past)
  in_ended [] p end i = absurd i
  in_ended (x ∷ past) p end (inl q) = subst (λ u. IsSome (ended p (u ∷ past))) q (some_from _ end (if_true (p == p) _ _ (eq_self p)))
  in_ended (x ∷ past) p end (inr i) = by x (in_ended past p end i)
    where
      by : (x : SourceEvent) → IsSome (ended p past) → IsSome (ended p (x ∷ past))
      by (Over q other) s = on (q == p)
        where
          on : (b : Bool) → IsSome (if b then Some other else ended p past)
          on true = refl
          on false = s
      by (Do _ _ _ _ _) s = s
      by (Issue _ _) s = s
      by (Effect _ _ _ _ _ _) s = s
      by (Sync _ _) s = s
      by (Arrive _ _ _) s = s
      by (Release _) s = s

  -- the own item with a number less than those made was taken
  pub own_taken : (past : List SourceEvent) → Took processes whole known past → (a : SourceEvent) → It processes whole known a → is_own a ≡ true → num a < made (at_node a) past → In a past
  own_taken past t a h o lt =
      let r = low_taken processes whole known past t (at_node a) (num a) lt in
      subst (λ u. In u past) (one_numbered processes whole known (at_node a) (num a) r.0 a (took_it processes whole known past t r.0 r.1) h r.2 o r.3 refl r.4 refl) r.1

  -- a part of a complete run has its effect
  pub part_exists : (p k c : ℕ) (once wrote : Bool) (place : Place) → p < processes.nodes → (a : IsAccess whole p k once) → part_place (moved_by a.access) c wrote ≡ Some place
      → (pl : Place) × (value : Value) × In (an_effect p a.n c wrote pl value) (E processes whole known)
  part_exists p k c once wrote place n a h =
      let occ = known.all_occurred p n a.n a.access (access_is processes.start processes.nodes p a.n a.access a.past whole known.wired a.stands).0 refl c wrote (some_from _ place h) in
      let v = some_is (part_value p a.n c wrote (E processes whole known)) occ in
      let e = found p a.n c wrote (E processes whole known) v.0 v.1 in
      let q = part_of p a.n c wrote e.0 e.2 in
      (e.0.place, e.0.value, as_part p a.n c wrote e.0 (E processes whole known) e.1 e.2)

  -- each number has its item
  pub own_exists : (p : ℕ) → p < processes.nodes → (k : ℕ) → k < requested p whole → (a : SourceEvent) × It processes whole known a × (is_own a ≡ true) × (at_node a ≡ p) × (num a ≡ k)
  own_exists p n k lt = let a = asked p k whole lt in by a.entry a.past a.request a.stands a.by a.numbered
    where
      Goal : Type 0
      Goal = (a : SourceEvent) × It processes whole known a × (is_own a ≡ true) × (at_node a ≡ p) × (num a ≡ k)

      access : (past : List Entry) (m : ℕ) (acc : Access) → Stands past (Issued p m acc) whole → requested p past ≡ k → (b : Bool) → is_done_at_once acc ≡ b → Goal
      access past m acc s e false h = (Issue p k, record { past = past; n = m; access = acc; stands = s; numbered = e; kind = h }, refl, refl, refl)
      access past m (Read place track) s e true h =
          let a : IsAccess whole p k true = record { past = past; n = m; access = Read place track; stands = s; numbered = e; kind = h } in
          let r = part_exists p k 0 true false place n a (ap (λ u. Some u) zero_further) in (Do p k false r.0 r.1, (a, r.2), refl, refl, refl)
        where
          zero_further : further 0 place ≡ place
          zero_further = let z : place.offset + 0 ≡ place.offset = omega arith in ap (λ u. record place { offset = u }) z
      access past m (Write place value track) s e true h =
          let a : IsAccess whole p k true = record { past = past; n = m; access = Write place value track; stands = s; numbered = e; kind = h } in
          let r = part_exists p k 0 true true place n a (ap (λ u. Some u) zero_further) in (Do p k true r.0 r.1, (a, r.2), refl, refl, refl)
        where
          zero_further : further 0 place ≡ place
          zero_further = let z : place.offset + 0 ≡ place.offset = omega arith in ap (λ u. record place { offset = u }) z
      access past m (Copy from to cells track) s e true h = absurd cc

      by : (entry : Entry) (past : List Entry) (r : Request) → Stands past entry whole → request_by p entry ≡ Some r → requested p past ≡ k → Goal
      by (Issued q m acc) past r s h e = on (q == p) refl h
        where
          on : (b : Bool) → (q == p) ≡ b → (if b then Some (request_in acc) else None) ≡ Some r → Goal
          on true t g = access past m acc (subst (λ u. Stands past (Issued u m acc) whole) (eqb-true q p t) s) e (is_done_at_once acc) refl
          on false t g = absurd cc
      by (Waited q c) past r s h e = on ((q == p) && (c == 0)) refl h
        where
          on : (b : Bool) → ((q == p) && (c == 0)) ≡ b → (if b then Some (SyncRequest 0) else None) ≡ Some r → Goal
          on true t g = let z = and_parts (q == p) (c == 0) t in (Sync p k, (past, subst (λ u. Stands past (Waited p u) whole) (eqb-true c 0 z.1) (subst (λ u. Stands past (Waited u c) whole) (eqb-true q p z.0) s), e), refl, refl, refl)
          on false t g = absurd cc
      by (Arrived q st) past r s h e = on (q == p) refl h
        where
          on : (b : Bool) → (q == p) ≡ b → (if b then Some (barrier_of st 0) else None) ≡ Some r → Goal
          on true t g = (Arrive p k st, (past, subst (λ u. Stands past (Arrived u st) whole) (eqb-true q p t) s, e), refl, refl, refl)
          on false t g = absurd cc
      by (Delivered _ _ _ _) past r s h e = absurd cc
      by (Passed _) past r s h e = absurd cc
      by (Finished _ _) past r s h e = absurd cc

  -- ---- arrivals

  pub arrival_exists : (p r : ℕ) (xs : List Entry) → r < run_arrivals p xs → (old : List Entry) × (s : Bool) × Stands old (Arrived p s) xs × (run_arrivals p old ≡ r)
  arrival_exists p r [] lt = absurd (omega arith)
  arrival_exists p r (Arrived q s ∷ rest) lt = by (q == p) refl lt (λ t. arrival_exists p r rest t)
    where
      by : (b : Bool) → (q == p) ≡ b → r < (if b then run_arrivals p rest + 1 else run_arrivals p rest) → (r < run_arrivals p rest → (old : List Entry) × (s : Bool) × Stands old (Arrived p s) rest × (run_arrivals p old ≡ r))
          → (old : List Entry) × (t : Bool) × Stands old (Arrived p t) (Arrived q s ∷ rest) × (run_arrivals p old ≡ r)
      by true t l f = ⊎_elim (λ y. let z = f y in (z.0, z.1, inr z.2, z.3)) (λ y. (rest, s, inl (refl, ap (λ u. Arrived u s) (sym (eqb-true q p t))), omega arith)) (cases_lt r (run_arrivals p rest))
      by false t l f = let z = f l in (z.0, z.1, inr z.2, z.3)
  arrival_exists p r (Issued _ _ _ ∷ rest) lt = let z = arrival_exists p r rest lt in (z.0, z.1, inr z.2, z.3)
  arrival_exists p r (Delivered _ _ _ _ ∷ rest) lt = let z = arrival_exists p r rest lt in (z.0, z.1, inr z.2, z.3)
  arrival_exists p r (Waited _ _ ∷ rest) lt = let z = arrival_exists p r rest lt in (z.0, z.1, inr z.2, z.3)
  arrival_exists p r (Passed _ ∷ rest) lt = let z = arrival_exists p r rest lt in (z.0, z.1, inr z.2, z.3)
  arrival_exists p r (Finished _ _ ∷ rest) lt = let z = arrival_exists p r rest lt in (z.0, z.1, inr z.2, z.3)

  pub among_grows : (p j k : ℕ) (xs : List Entry) → j ≤ k → arrivals_among p j xs ≤ arrivals_among p k xs
  among_grows p j k [] le = le_refl 0
  among_grows p j k (Arrived q s ∷ rest) le = by (q == p) (nat_lt (requested p rest) j) (nat_lt (requested p rest) k) refl refl (among_grows p j k rest le)
    where
      by : (a b c : Bool) → nat_lt (requested p rest) j ≡ b → nat_lt (requested p rest) k ≡ c → arrivals_among p j rest ≤ arrivals_among p k rest
          → (if a && b then arrivals_among p j rest + 1 else arrivals_among p j rest) ≤ (if a && c then arrivals_among p k rest + 1 else arrivals_among p k rest)
      by false b c x y i = i
      by true true true x y i = omega arith
      by true false true x y i = omega arith
      by true false false x y i = i
      by true true false x y i = let u : requested p rest < j = ltb-true _ _ x in absurd (both_ways _ y (lt-ltb (requested p rest) k (omega arith)))
  among_grows p j k (Issued _ _ _ ∷ rest) le = among_grows p j k rest le
  among_grows p j k (Delivered _ _ _ _ ∷ rest) le = among_grows p j k rest le
  among_grows p j k (Waited _ _ ∷ rest) le = among_grows p j k rest le
  among_grows p j k (Passed _ ∷ rest) le = among_grows p j k rest le
  among_grows p j k (Finished _ _ ∷ rest) le = among_grows p j k rest le
