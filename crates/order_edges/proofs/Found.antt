-- To each item that an item has to come before there is a way of edges.
use Rattle.std.proofs.Common.{◌≡◌, ◌⊎◌, ℕ, zero, suc, ◌+◌, ◌-◌, ◌<◌, ◌≤◌, List, [], ◌∷◌, ◌++◌, length, min, Option, Some, None, Bool, true, false, not, ◌==◌, ◌&&◌, ◌||◌, refl, sym, ap, subst, ◌∙◌, arith, inl, inr, ⊎_elim, add-one, eqb-true, eq-eqb}
use Rattle.std.specs.Prelude.{nat_lt, nat_le, if◌then◌else◌}
use Rattle.std.specs.Option.{option_map_or}
use Rattle.std.proofs.lemmas.Bool.{and_parts, and_from, or_left, or_right, or_cases, cases_lt, not-true, not_from_false}
use Rattle.sc_base.specs.declared.value.Place.{Place}
use Rattle.sc_base.specs.declared.value.Value.{Value}
use Rattle.sc_base.specs.declared.value.End.{End}
use Rattle.effect_order.specs.Items.{items_conflict}
use Rattle.sc_meaning.specs.declared.event.SourceEvent.{SourceEvent}
use Rattle.sc_meaning.specs.declared.event.SourceEvent.TheVariants.{Do, Issue, Effect, Sync, Arrive, Release, End as Over}
use Rattle.sc_meaning.specs.OfAccess.{is_blocking, is_split}
use Rattle.sc_isa.specs.declared.access.Track.{Track}
use Rattle.sc_isa.specs.declared.access.Track.TheVariants.{Counter, Store, Covered}
use Rattle.sc_isa.specs.declared.journal.Entry.{Entry}
use Rattle.fabric.specs.Access.{is_store}
use Rattle.fabric.specs.Barriers.{released, stores_at}
use Rattle.source_order.specs.Steps.{requested, track_at, arrivals_among}
use Rattle.source_order.specs.Moments.{does, sooner}
use Rattle.source_order.specs.Needs.{needs, step_needs, sync_needs, part_needs, release_needs, is_on}
use Rattle.least_order.specs.declared.edge.Edge.{Edge}
use Rattle.least_order.specs.Least.{leads}
use Rattle.journal_order.specs.Ordering.{before_at}
use Rattle.order_edges.specs.declared.line.Kind.TheVariants.{Own, Issues, Syncs, Arrivals, Effects, Releases}
use Rattle.order_edges.specs.declared.keyed.Mark.{Mark}
use Rattle.order_edges.specs.declared.keyed.Pairing.TheVariants.{Copied, LastWrite, NextWrite}
use Rattle.order_edges.specs.declared.steps.Step.{Step}
use Rattle.order_edges.specs.Lines.{belongs, node_of, number_of, number_in, position, link, next_from}
use Rattle.order_edges.specs.Steps.{a_step}
use Rattle.order_edges.specs.Kinds.{ReleasesAt, step_at, waits, next_release, next_stores, release_edges}
use Rattle.order_edges.specs.Tables.{line_in, all_releases_line, releases_of, node_at, nodes_edges, stored}
use Rattle.order_edges.specs.Keyed.{Key, marked, place_key, a_mark, keyed_edges, mark_at, last_one, at_turn}
use Rattle.order_edges.proofs.Numbers.{lt_is, lt_from, le_is, if_true, if_false}
use Rattle.order_edges.proofs.Places.{numbered, number_from, position_is, position_one, first_there}
use Rattle.order_edges.proofs.Leading.{leads_left, leads_right, link_leads, Way, Reach, one_way, stay, as_reach, then_reach, reach_then}
use Rattle.order_edges.proofs.Needing.{issue_is, sync_is, release_is}
use Rattle.order_edges.proofs.StepsAt.{step_is}
use Rattle.order_edges.proofs.Marks.{OnCell, part_mark, conflicting}
use Rattle.order_edges.proofs.Keys.{One, Linked, last_there, is_pair, linked_write, write_again}
use Rattle.order_edges.proofs.Facts.{Facts}
use Rattle.order_edges.proofs.Chains as chains

module _ (start : Place → Value) (past : List Entry) (nodes : ℕ) (items : List SourceEvent) (f : Facts start past nodes items) where
  abbrev E : List Edge
  E = chains.E start past nodes items f

  abbrev N : ℕ
  N = length items

  abbrev At : ℕ → SourceEvent
  At = chains.At start past nodes items f

  abbrev R : ReleasesAt
  R = releases_of past items

  abbrev Goes : ℕ → ℕ → Type 0
  Goes i j = Way E N i j

  straight : (i j : ℕ) → i < N → j < N → leads E i j ≡ true → Goes i j
  straight i j w v h = one_way E N i j w v h

  -- the item's number among its node's own items
  own_number : (p k i : ℕ) (x : SourceEvent) → i < N → At i ≡ x → belongs Own x ≡ true → node_of x ≡ p
      → number_of (requested p past) x ≡ k → number_in (line_in past p Own) (At i) ≡ Some k
  own_number p k i x w e b n m =
      let b2 = subst (λ u. belongs Own u ≡ true) (sym e) b in
      let n2 = subst (λ u. node_of u ≡ p) (sym e) n in
      number_from (line_in past p Own) (At i) b2 n2 (f.own_low i p w b2 n2)
      ∙ ap Some (ap (number_of (requested p past)) e ∙ m)

  on_node : (p k i : ℕ) → i < N → number_in (line_in past p Own) (At i) ≡ Some k → p < nodes
  on_node p k i w h =
      let n = numbered (line_in past p Own) (At i) k h in
      subst (λ u. u < nodes) n.on (f.own_on i w n.kind)

  effect_number : (p k c i : ℕ) (wrote : Bool) (place : Place) (value : Value) → i < N → At i ≡ Effect p k c wrote place value → number_in (line_in past p Effects) (At i) ≡ Some k
  effect_number p k c i wrote place value w e =
      number_from (line_in past p Effects) (At i) (ap (belongs Effects) e) (ap node_of e)
      (f.effect_low i p w (ap (belongs Effects) e) (ap node_of e))
      ∙ ap Some (ap (number_of (requested p past)) e)

  effect_node : (p k c i : ℕ) (wrote : Bool) (place : Place) (value : Value) → i < N → At i ≡ Effect p k c wrote place value → p < nodes
  effect_node p k c i wrote place value w e =
      subst (λ u. u < nodes) (ap node_of e) (f.effect_on i w (ap (belongs Effects) e))

  the_step : (p k : ℕ) → k ≤ requested p past → step_at (node_at past items p) k ≡ a_step (track_at p k past) (arrivals_among p k past)
  the_step p k w = step_is p k (a_step None 0) past w

  -- an effect goes to what waits for it
  waits_lead : (p k c i b : ℕ) (wrote : Bool) (place : Place) (value : Value) → i < N → At i ≡ Effect p k c wrote place value
      → waits R (node_at past items p) (track_at p k past) (arrivals_among p k past) k ≡ Some b → leads E i b ≡ true
  waits_lead p k c i b wrote place value w e h =
      let n = effect_number p k c i wrote place value w e in
      let low = (numbered (line_in past p Effects) (At i) k n).low in
      let s = step_at (node_at past items p) k in
      chains.in_effect start past nodes items f p i k i b (effect_node p k c i wrote place value w e) w n
      (leads_right (link (position (line_in past p Issues) items k) (Some i)) _ i b
      (link_leads (Some i) (waits R (node_at past items p) s.track s.arrivals k) i b refl
      (ap (λ (s : Step). waits R (node_at past items p) s.track s.arrivals k) (the_step p k low) ∙ h)))

  -- to the own item with a number from a smaller one on
  reach_own : (p k l i j : ℕ) → k ≤ l → i < N → j < N → number_in (line_in past p Own) (At i) ≡ Some k → number_in (line_in past p Own) (At j) ≡ Some l → Reach E N i j
  reach_own p k l i j le w v h g =
      let d = chains.apart start past nodes items f k l le in
      chains.own_reach start past nodes items f d.0 p k l i j d.1 (on_node p l j v g) w v h g

  -- ---- what an own step needs

  blocked : (p k a c i j : ℕ) (wrote : Bool) (place : Place) (value : Value) → i < N → j < N → At i ≡ Effect p a c wrote place value
      → number_in (line_in past p Own) (At j) ≡ Some k → a < k → (t : Option Track) → track_at p a past ≡ t → option_map_or is_blocking t false ≡ true → Goes i j
  blocked p k a c i j wrote place value w v e h lt t is b =
      let n = on_node p k j v h in
      let low = (numbered (line_in past p Own) (At j) k h).low in
      let next = f.own_there p (suc a) n (omega (arith, lt, low)) in
      let lead = waits_lead p a c i next.0 wrote place value w e (ap (λ t. waits R (node_at past items p) t (arrivals_among p a past) a) is ∙ by t b ∙ ap (position (line_in past p Own) items) (add-one a) ∙ chains.own_at start past nodes items f p (suc a) next.0 next.1 next.2) in
      then_reach E N i next.0 j (straight i next.0 w next.1 lead) (reach_own p (suc a) k next.0 j lt next.1 v next.2 h)
    where
      by : (t : Option Track) → option_map_or is_blocking t false ≡ true → waits R (node_at past items p) t (arrivals_among p a past) a ≡ position (line_in past p Own) items (a + 1)
      by None h = absurd cc
      by (Some Store) h = absurd cc
      by (Some Covered) h = refl
      by (Some (Counter n)) h = if_false (n == 0) _ _ (not-true _ h)

  released_to : (p k m i j : ℕ) → i < N → j < N → At i ≡ Release m → number_in (line_in past p Own) (At j) ≡ Some k → m ≤ arrivals_among p k past → Goes i j
  released_to p k m i j w v e h le =
      let low = f.release_low i m w e in
      let lo = low.0 in let hi = low.1 in
      let n = on_node p k j v h in
      let kl = (numbered (line_in past p Own) (At j) k h).low in
      let passed = min (arrivals_among p k past) (released past) in
      let last = f.release_there passed (omega (arith, lo, hi, le)) (omega arith) in
      let d = chains.apart start past nodes items f m passed (omega (arith, hi, le)) in
      let r = chains.release_reach start past nodes items f d.0 m passed i last.0 d.1 w last.1 e last.2 in
      let lead = chains.in_own start past nodes items f p j k last.0 j n v h
      (leads_right (link (Some j) (position (line_in past p Own) items (k + 1))) _ last.0 j
      (link_leads (position (all_releases_line past) items (min (step_at (node_at past items p) k).arrivals (released past))) (Some j) last.0 j
      (ap (λ (s : Step). position (all_releases_line past) items (min s.arrivals (released past))) (the_step p k kl) ∙ chains.release_at start past nodes items f passed last.0 last.1 last.2) refl)) in
      reach_then E N i last.0 j r (straight last.0 j last.1 v lead)

  earlier : (p k a i j : ℕ) (x : SourceEvent) → i < N → j < N → At i ≡ x → belongs Own x ≡ true → node_of x ≡ p
      → number_of (requested p past) x ≡ a → a < k → number_in (line_in past p Own) (At j) ≡ Some k → Goes i j
  earlier p k a i j x w v e b n m lt h =
      chains.own_way start past nodes items f p a k i j lt (on_node p k j v h) w v (own_number p a i x w e b n m) h

  step_found : (p k i j : ℕ) (x : SourceEvent) → i < N → j < N → At i ≡ x → number_in (line_in past p Own) (At j) ≡ Some k → step_needs past x p k ≡ true → Goes i j
  step_found p k i j (Do q a wrote place value) w v e h s =
      let z = and_parts (q == p) (nat_lt a k) s in earlier p k a i j (Do q a wrote place value) w v e refl (eqb-true q p z.0) refl (lt_is a k z.1) h
  step_found p k i j (Issue q a) w v e h s =
      let z = and_parts (q == p) (nat_lt a k) s in earlier p k a i j (Issue q a) w v e refl (eqb-true q p z.0) refl (lt_is a k z.1) h
  step_found p k i j (Sync q a) w v e h s =
      let z = and_parts (q == p) (nat_lt a k) s in earlier p k a i j (Sync q a) w v e refl (eqb-true q p z.0) refl (lt_is a k z.1) h
  step_found p k i j (Arrive q a stores) w v e h s =
      let z = and_parts (q == p) (nat_lt a k) s in earlier p k a i j (Arrive q a stores) w v e refl (eqb-true q p z.0) refl (lt_is a k z.1) h
  step_found p k i j (Effect q a c wrote place value) w v e h s =
      let z = and_parts (q == p) (nat_lt a k && is_on past is_blocking p a) s in
      let y = and_parts (nat_lt a k) (is_on past is_blocking p a) z.1 in
      blocked p k a c i j wrote place value w v (e ∙ ap (λ u. Effect u a c wrote place value) (eqb-true q p z.0)) h (lt_is a k y.0) (track_at p a past) refl y.1
  step_found p k i j (Release m) w v e h s = released_to p k m i j w v e h (le_is m (arrivals_among p k past) s)
  step_found p k i j (Over q end) w v e h s = absurd cc

  -- ---- what a sync needs besides

  sync_found : (p k i j : ℕ) (x : SourceEvent) → i < N → j < N → At i ≡ x → At j ≡ Sync p k → sync_needs past x p k ≡ true → Goes i j
  sync_found p k i j (Effect q a c wrote place value) w v e g s =
      let z = and_parts (q == p) (nat_lt a k && is_on past is_split p a) s in
      let y = and_parts (nat_lt a k) (is_on past is_split p a) z.1 in
      by (e ∙ ap (λ u. Effect u a c wrote place value) (eqb-true q p z.0)) (lt_is a k y.0) (track_at p a past) refl y.1
    where
      own : number_in (line_in past p Own) (At j) ≡ Some k
      own = own_number p k j (Sync p k) v g refl refl refl

      its : number_in (line_in past p Syncs) (At j) ≡ Some k
      its = number_from (line_in past p Syncs) (At j) (ap (belongs Syncs) g) (ap node_of g)
          (subst (λ u. u ≤ requested p past) (sym (ap (number_of (requested p past)) g)) (numbered (line_in past p Own) (At j) k own).low)
          ∙ ap Some (ap (number_of (requested p past)) g)

      -- a sync stands among the own items under its number
      as_own : (m b : ℕ) → position (line_in past p Syncs) items m ≡ Some b → (b < N) × (number_in (line_in past p Own) (At b) ≡ Some m)
      as_own m b h =
          let q = position_is (line_in past p Syncs) items m b h in
          (q.0, own_number p m b (Sync p m) q.0 (sync_is past p m (At b) q.1) refl refl refl)

      at_j : position (line_in past p Syncs) items k ≡ Some j
      at_j = position_one (line_in past p Syncs) items k j v its
          (λ b u h. f.own_one b j p k u v (own_number p k b (Sync p k) u (sync_is past p k (At b) h) refl refl refl) own)

      by : At i ≡ Effect p a c wrote place value → a < k → (t : Option Track) → track_at p a past ≡ t → option_map_or is_split t false ≡ true → Goes i j
      by x lt None is h = absurd cc
      by x lt (Some Store) is h = absurd cc
      by x lt (Some Covered) is h = absurd cc
      by x lt (Some (Counter n)) is h =
          let low = (numbered (line_in past p Own) (At j) k own).low in
          let r = first_there (position (line_in past p Syncs) items) (suc (requested p past) - (a + 1)) (a + 1) k j (omega (arith, lt)) (omega (arith, lt, low)) at_j in
          let o = as_own r.0 r.1 r.4 in
          let lead = waits_lead p a c i r.1 wrote place value w x (ap (λ t. waits R (node_at past items p) t (arrivals_among p a past) a) is ∙ if_true (n == 0) _ _ h ∙ r.5) in
          then_reach E N i r.1 j (straight i r.1 w o.0 lead) (reach_own p r.0 k r.1 j r.3 o.0 v o.1 own)
  sync_found p k i j (Do _ _ _ _ _) w v e g s = absurd cc
  sync_found p k i j (Issue _ _) w v e g s = absurd cc
  sync_found p k i j (Sync _ _) w v e g s = absurd cc
  sync_found p k i j (Arrive _ _ _) w v e g s = absurd cc
  sync_found p k i j (Release _) w v e g s = absurd cc
  sync_found p k i j (Over _ _) w v e g s = absurd cc

  -- ---- what a release needs

  release_found : (m i j : ℕ) (x : SourceEvent) → i < N → j < N → At i ≡ x → At j ≡ Release m → release_needs past x m ≡ true → Goes i j
  release_found m i j (Release l) w v e g s =
      straight i j w v (chains.next_leads start past nodes items f l i j w v e (g ∙ ap Release (sym (eqb-true (suc l) m s))))
  release_found m i j (Arrive p k stores) w v e g s =
      let own = own_number p k i (Arrive p k stores) w e refl refl refl in
      let low = (numbered (line_in past p Own) (At i) k own).low in
      let its : number_in (line_in past p Arrivals) (At i) ≡ Some k =
      number_from (line_in past p Arrivals) (At i) (ap (belongs Arrivals) e) (ap node_of e)
      (subst (λ u. u ≤ requested p past) (sym (ap (number_of (requested p past)) e)) low)
      ∙ ap Some (ap (number_of (requested p past)) e) in
      let q = eqb-true (suc (arrivals_among p k past)) m s in
      straight i j w v (chains.in_arrival start past nodes items f p i k i j (on_node p k i w own) w its
      (link_leads (Some i) (next_release R (step_at (node_at past items p) k).arrivals) i j refl
      (ap (λ (s : Step). next_release R s.arrivals) (the_step p k low) ∙ chains.after_is start past nodes items f (arrivals_among p k past) j v (g ∙ ap Release (sym q)))))
  release_found m i j (Effect p k c wrote place value) w v e g s =
      let z = and_parts (is_on past is_store p k) (stores_at m past && nat_lt (arrivals_among p k past) m) s in
      let y = and_parts (stores_at m past) (nat_lt (arrivals_among p k past) m) z.1 in
      by (lt_is (arrivals_among p k past) m y.1) y.0 (track_at p k past) refl z.0
    where
      by : arrivals_among p k past < m → stores_at m past ≡ true → (t : Option Track) → track_at p k past ≡ t → option_map_or is_store t false ≡ true → Goes i j
      by lt st None is h = absurd cc
      by lt st (Some (Counter n)) is h = absurd cc
      by lt st (Some Covered) is h = absurd cc
      by lt st (Some Store) is h =
          let passed = arrivals_among p k past in
          let hi = (f.release_low j m v g).1 in
          let here : stored past (position (all_releases_line past) items) m ≡ Some j = if_true (stores_at m past) _ _ st ∙ chains.release_at start past nodes items f m j v g in
          let r = first_there (stored past (position (all_releases_line past) items)) (suc (released past) - (passed + 1)) (passed + 1) m j (omega (arith, lt)) (omega (arith, lt, hi)) here in
          let o = stored_is r.0 r.1 (stores_at r.0 past) refl r.4 in
          let lead = waits_lead p k c i r.1 wrote place value w e
          (ap (λ t. waits R (node_at past items p) t (arrivals_among p k past) k) is ∙ if_true (nat_lt passed (released past)) _ _ (lt_from passed (released past) (omega (arith, lt, hi))) ∙ r.5) in
          let d = chains.apart start past nodes items f r.0 m r.3 in
          then_reach E N i r.1 j (straight i r.1 w o.0 lead) (chains.release_reach start past nodes items f d.0 r.0 m r.1 j d.1 o.0 v o.1 g)
        where
          stored_is : (n b : ℕ) (c : Bool) → stores_at n past ≡ c → (if c then position (all_releases_line past) items n else None) ≡ Some b → (b < N) × (At b ≡ Release n)
          stored_is n b false e h = absurd cc
          stored_is n b true e h =
              let q = position_is (all_releases_line past) items n b h in
              (q.0, release_is past n (At b) q.1)
  release_found m i j (Do _ _ _ _ _) w v e g s = absurd cc
  release_found m i j (Issue _ _) w v e g s = absurd cc
  release_found m i j (Sync _ _) w v e g s = absurd cc
  release_found m i j (Over _ _) w v e g s = absurd cc

  -- ---- effects under keys

  in_copied : (a b : ℕ) → leads (keyed_edges Copied items N) a b ≡ true → leads E a b ≡ true
  in_copied a b h = leads_right (release_edges R items N) _ a b (leads_right (nodes_edges past items nodes) _ a b (leads_left (keyed_edges Copied items N) _ a b h))

  in_last : (a b : ℕ) → leads (keyed_edges LastWrite items N) a b ≡ true → leads E a b ≡ true
  in_last a b h =
      leads_right (release_edges R items N) _ a b (leads_right (nodes_edges past items nodes) _ a b (leads_right (keyed_edges Copied items N) _ a b
      (leads_left (keyed_edges LastWrite items N) _ a b h)))

  in_next : (a b : ℕ) → leads (keyed_edges NextWrite items N) a b ≡ true → leads E a b ≡ true
  in_next a b h =
      leads_right (release_edges R items N) _ a b (leads_right (nodes_edges past items nodes) _ a b (leads_right (keyed_edges Copied items N) _ a b
      (leads_right (keyed_edges LastWrite items N) _ a b h)))

  -- ---- what a part needs

  copied : (p k c i j : ℕ) (from to : Place) (read wrote : Value) → i < N → j < N → At i ≡ Effect p k c false from read → At j ≡ Effect p k c true to wrote → Goes i j
  copied p k c i j from to read wrote w v e g =
      let lt = f.reads_before i j p k c from to read wrote w v e g in
      let one : One (mark_at Copied items i) (p, k, c) = record { mark = a_mark (p, k, c) true false; is = ap (marked Copied) e; one = refl; key_is = refl } in
      let r = last_there Copied items j i (p, k, c) lt one in
      let same = again r.0 (let x = r.2 in omega (arith, x, v)) r.3 in
      let linked : Linked (mark_at Copied items j) (p, k, c) = record { mark = a_mark (p, k, c) false true; is = ap (marked Copied) g; has = refl; key_is = refl } in
      straight i j w v (in_copied i j (is_pair Copied items j r.0 (p, k, c) v linked r.4 i j (inr (refl, same, refl))))
    where
      again : (u : ℕ) → u < N → One (mark_at Copied items u) (p, k, c) → u ≡ i
      again u l o =
          let x = part_mark (At u) o.mark o.is in
          let r : x.wrote ≡ false = not-true _ (sym x.one_is ∙ o.one) in
          let keys = sym x.key_is ∙ o.key_is in
          let q0 = ap (λ (k : Key). k.0) keys in let q1 = ap (λ (k : Key). k.1) keys in let q2 = ap (λ (k : Key). k.2) keys in
          f.reads_once u i p k c x.place from x.value read l w
          (x.is ∙ ap (λ u. Effect u x.request x.cell x.wrote x.place x.value) q0 ∙ ap (λ u. Effect p u x.cell x.wrote x.place x.value) q1
          ∙ ap (λ u. Effect p k u x.wrote x.place x.value) q2 ∙ ap (λ u. Effect p k c u x.place x.value) r) e

  issued : (p k c i j : ℕ) (wrote : Bool) (place : Place) (value : Value) → i < N → j < N → At i ≡ Issue p k → At j ≡ Effect p k c wrote place value → Goes i j
  issued p k c i j wrote place value w v e g =
      let own = own_number p k i (Issue p k) w e refl refl refl in
      let low = (numbered (line_in past p Own) (At i) k own).low in
      let its : number_in (line_in past p Issues) (At i) ≡ Some k =
      number_from (line_in past p Issues) (At i) (ap (belongs Issues) e) (ap node_of e)
      (subst (λ u. u ≤ requested p past) (sym (ap (number_of (requested p past)) e)) low)
      ∙ ap Some (ap (number_of (requested p past)) e) in
      let at_i = position_one (line_in past p Issues) items k i w its
      (λ b u h. f.own_one b i p k u w (own_number p k b (Issue p k) u (issue_is past p k (At b) h) refl refl refl) own) in
      straight i j w v (chains.in_effect start past nodes items f p j k i j (effect_node p k c j wrote place value v g) v (effect_number p k c j wrote place value v g)
      (leads_left (link (position (line_in past p Issues) items k) (Some j)) _ i j (link_leads (position (line_in past p Issues) items k) (Some j) i j at_i refl)))

  part_found : (p k c i j : ℕ) (wrote : Bool) (place : Place) (value : Value) (x : SourceEvent) → i < N → j < N → At i ≡ x → At j ≡ Effect p k c wrote place value
      → part_needs past x p k c wrote ≡ true → Goes i j
  part_found p k c i j wrote place value (Issue q a) w v e g s =
      let z = and_parts (q == p) (a == k) s in
      issued p k c i j wrote place value w v (e ∙ ap (λ u. Issue u a) (eqb-true q p z.0) ∙ ap (λ u. Issue p u) (eqb-true a k z.1)) g
  part_found p k c i j true place value (Effect q a d false from read) w v e g s =
      let z = and_parts (q == p) ((a == k) && (d == c)) s in
      let y = and_parts (a == k) (d == c) z.1 in
      copied p k c i j from place read value w v
      (e ∙ ap (λ u. Effect u a d false from read) (eqb-true q p z.0) ∙ ap (λ u. Effect p u d false from read) (eqb-true a k y.0) ∙ ap (λ u. Effect p k u false from read) (eqb-true d c y.1)) g
  part_found p k c i j false place value (Effect q a d false from read) w v e g s = absurd cc
  part_found p k c i j true place value (Effect q a d true from read) w v e g s = absurd cc
  part_found p k c i j false place value (Effect q a d true from read) w v e g s = absurd cc
  part_found p k c i j wrote place value (Do _ _ _ _ _) w v e g s = absurd cc
  part_found p k c i j wrote place value (Sync _ _) w v e g s = absurd cc
  part_found p k c i j wrote place value (Arrive _ _ _) w v e g s = absurd cc
  part_found p k c i j wrote place value (Release _) w v e g s = absurd cc
  part_found p k c i j wrote place value (Over _ _) w v e g s = absurd cc

  -- ---- what the source needs

  need_found : (i j : ℕ) (y : SourceEvent) → i < N → j < N → At j ≡ y → needs past (At i) y ≡ true → Goes i j
  need_found i j (Do p k wrote place value) w v g s = step_found p k i j (At i) w v refl (own_number p k j (Do p k wrote place value) v g refl refl refl) s
  need_found i j (Issue p k) w v g s = step_found p k i j (At i) w v refl (own_number p k j (Issue p k) v g refl refl refl) s
  need_found i j (Arrive p k stores) w v g s = step_found p k i j (At i) w v refl (own_number p k j (Arrive p k stores) v g refl refl refl) s
  need_found i j (Over p end) w v g s = step_found p (requested p past) i j (At i) w v refl (own_number p (requested p past) j (Over p end) v g refl refl refl) s
  need_found i j (Sync p k) w v g s = ⊎_elim
      (λ t. step_found p k i j (At i) w v refl (own_number p k j (Sync p k) v g refl refl refl) t)
      (λ t. sync_found p k i j (At i) w v refl g t)
      (or_cases (step_needs past (At i) p k) (sync_needs past (At i) p k) s)
  need_found i j (Effect p k c wrote place value) w v g s = part_found p k c i j wrote place value (At i) w v refl g s
  need_found i j (Release m) w v g s = release_found m i j (At i) w v refl g s

  -- ---- conflicts

  a_write : (i : ℕ) (a : OnCell (At i)) → a.effect.wrote ≡ true → One (mark_at LastWrite items i) (place_key a.effect.place)
  a_write i a h = record { mark = a_mark (place_key a.effect.place) a.effect.wrote true; is = a.last; one = h; key_is = refl }

  -- from a write to what follows it
  from_write : (fuel i j : ℕ) (q : Key) → j ≤ i + fuel → i < j → j < N → One (mark_at LastWrite items i) q → Linked (mark_at LastWrite items j) q → Goes i j
  from_write zero i j q w lt v o l = absurd (omega (arith, w, lt))
  from_write (suc fuel) i j q w lt v o l = by (from_write fuel i) (last_there LastWrite items j i q lt o)
    where
      by : ((j : ℕ) (q : Key) → j ≤ i + fuel → i < j → j < N → One (mark_at LastWrite items i) q → Linked (mark_at LastWrite items j) q → Goes i j) → (u : ℕ) × (i ≤ u) × (u < j) × One (mark_at LastWrite items u) q × (last_one LastWrite items j q ≡ Some (at_turn LastWrite N u)) → Goes i j
      by again r = ⊎_elim before here (cases_lt i r.0)
        where
          edge : Goes r.0 j
          edge = straight r.0 j (let x = r.2 in omega (arith, x, v)) v (in_last r.0 j (is_pair LastWrite items j r.0 q v l r.4 r.0 j (inr (refl, refl, refl))))

          here : r.0 ≤ i → Goes i j
          here t = let same : r.0 ≡ i = (let x = r.1 in omega (arith, t, x)) in subst (λ u. Goes u j) same edge

          other : Linked (mark_at LastWrite items r.0) q
          other = linked_write (At r.0) q r.3

          before : i < r.0 → Goes i j
          before t = then_reach E N i r.0 j (again r.0 q (let x = r.2 in omega (arith, w, x)) t (let x = r.2 in omega (arith, x, v)) o other) (as_reach E N r.0 j edge)

  linked : (j : ℕ) (b : OnCell (At j)) (q : Key) → place_key b.effect.place ≡ q → Linked (mark_at LastWrite items j) q
  linked j b q h = record { mark = a_mark (place_key b.effect.place) b.effect.wrote true; is = b.last; has = refl; key_is = h }

  -- from a read to the writes that follow it
  from_read : (i j : ℕ) → i < j → j < N → (a : OnCell (At i)) (b : OnCell (At j)) → place_key a.effect.place ≡ place_key b.effect.place
      → a.effect.wrote ≡ false → b.effect.wrote ≡ true → Goes i j
  from_read i j lt v a b same read wrote = by (last_there NextWrite items (N - 1 - i) (N - 1 - j) q (omega (arith, lt, v)) one)
    where
      q : Key
      q = place_key a.effect.place

      turned : (k : ℕ) → k < N → at_turn NextWrite N (N - 1 - k) ≡ k
      turned k w = omega (arith, w)

      one : One (mark_at NextWrite items (N - 1 - j)) q
      one = record {
        mark = a_mark (place_key b.effect.place) b.effect.wrote (not b.effect.wrote);
        is = ap (λ u. marked NextWrite (At u)) (turned j v) ∙ b.next;
        one = wrote;
        key_is = sym same;
      }

      its : Linked (mark_at NextWrite items (N - 1 - i)) q
      its = record {
        mark = a_mark (place_key a.effect.place) a.effect.wrote (not a.effect.wrote);
        is = ap (λ u. marked NextWrite (At u)) (turned i (omega (arith, lt, v))) ∙ a.next;
        has = not_from_false _ read;
        key_is = refl;
      }

      by : (u : ℕ) × (N - 1 - j ≤ u) × (u < N - 1 - i) × One (mark_at NextWrite items u) q × (last_one NextWrite items (N - 1 - i) q ≡ Some (at_turn NextWrite N u)) → Goes i j
      by r = ⊎_elim further here (cases_lt (N - 1 - r.0) j)
        where
          m : ℕ
          m = N - 1 - r.0

          m_low : m < N
          m_low = omega (arith, lt, v)

          edge : Goes i m
          edge = straight i m (omega (arith, lt, v)) m_low
              (in_next i m (is_pair NextWrite items (N - 1 - i) m q (omega (arith, lt, v)) its r.4 i m (inl (refl, turned i (omega (arith, lt, v)), refl))))

          here : j ≤ m → Goes i j
          here t = let x = r.1 in let same : m ≡ j = omega (arith, t, x, v) in subst (Goes i) same edge

          further : m < j → Goes i j
          further t =
              then_reach E N i m j edge
              (as_reach E N m j (from_write j m j q (omega arith) t v (write_again (At m) q r.3) (linked j b q (sym same))))

  conflict_found : (i j : ℕ) → i < N → j < N → items_conflict does (At i) (At j) ≡ true → sooner start past (At i) (At j) ≡ true → Goes i j
  conflict_found i j w v h s =
      let lt = f.is_order i j w v h s in
      let c = conflicting (At i) (At j) h in by lt c.first c.second c.same c.writes c.first.effect.wrote refl
    where
      by : i < j → (a : OnCell (At i)) (b : OnCell (At j)) → place_key a.effect.place ≡ place_key b.effect.place → (a.effect.wrote || b.effect.wrote) ≡ true
          → (x : Bool) → a.effect.wrote ≡ x → Goes i j
      by lt a b same one true e = from_write j i j (place_key a.effect.place) (omega arith) lt v (a_write i a e) (linked j b _ (sym same))
      by lt a b same one false e = from_read i j lt v a b same e (subst (λ x. (x || b.effect.wrote) ≡ true) e one)

  pub way_found : (i j : ℕ) → i < N → j < N → before_at start past items i j ≡ true → Goes i j
  way_found i j w v h = ⊎_elim (λ t. need_found i j (At j) w v refl t)
      (λ t. let z = and_parts (items_conflict does (At i) (At j)) (sooner start past (At i) (At j)) t in conflict_found i j w v z.0 z.1)
      (or_cases (needs past (At i) (At j)) _ h)
