-- Each edge leads from an item to one that it has to come before.
use Rattle.std.proofs.Common.{◌≡◌, ◌⊎◌, ℕ, zero, suc, ◌+◌, ◌-◌, ◌<◌, ◌≤◌, List, [], ◌∷◌, ◌++◌, length, get_or, min, Option, Some, None, Bool, true, false, ◌==◌, ◌&&◌, ◌||◌, refl, sym, ap, subst, ◌∙◌, arith, inl, inr, ⊎_elim, add-one, eqb-true, eq-eqb}
use Rattle.std.specs.Prelude.{nat_lt, nat_le, if◌then◌else◌}
use Rattle.std.specs.Option.{option_map_or}
use Rattle.std.proofs.lemmas.Bool.{and_parts, and_from, or_left, or_right, not-true, not_from_false}
use Rattle.sc_base.specs.declared.value.Place.{Place}
use Rattle.sc_base.specs.declared.value.Value.{Value}
use Rattle.effect_order.specs.Items.{items_conflict}
use Rattle.sc_meaning.specs.declared.event.SourceEvent.{SourceEvent}
use Rattle.sc_meaning.specs.declared.event.SourceEvent.TheVariants.{Do, Issue, Effect, Sync, Arrive, Release, End as Over}
use Rattle.sc_meaning.specs.OfAccess.{is_blocking, is_split}
use Rattle.sc_isa.specs.declared.access.Track.{Track}
use Rattle.sc_isa.specs.declared.access.Track.TheVariants.{Counter, Store, Covered}
use Rattle.sc_isa.specs.declared.journal.Entry.{Entry}
use Rattle.fabric.specs.Access.{is_store}
use Rattle.fabric.specs.Barriers.{released, stores_at}
use Rattle.source_order.specs.Steps.{requested, track_at, arrivals_among}
use Rattle.source_order.specs.Moments.{does, sooner}
use Rattle.source_order.specs.Needs.{needs, step_needs, sync_needs, is_on}
use Rattle.least_order.specs.Least.{leads}
use Rattle.journal_order.specs.Ordering.{item_at, before_at}
use Rattle.order_edges.specs.declared.line.Kind.TheVariants.{Own, Issues, Syncs, Arrivals, Effects, Releases}
use Rattle.order_edges.specs.declared.keyed.Pairing.TheVariants.{Copied, LastWrite, NextWrite}
use Rattle.order_edges.specs.declared.steps.Step.{Step}
use Rattle.order_edges.specs.Lines.{number_in, position, link, edges_if, next_from}
use Rattle.order_edges.specs.Steps.{a_step}
use Rattle.order_edges.specs.Kinds.{ReleasesAt, NodeAt, step_at, own_edges, arrival_edges, waits, effect_edges, item_edges, node_edges, next_release, next_stores, release_edge, release_edges}
use Rattle.order_edges.specs.Tables.{line_in, all_releases_line, releases_of, node_at, nodes_edges, stored}
use Rattle.order_edges.specs.Keyed.{Key, keyed_edges}
use Rattle.order_edges.specs.Whole.{all_edges}
use Rattle.order_edges.proofs.Numbers.{lt_from, le_from, if_true}
use Rattle.order_edges.proofs.Places.{numbered, position_is, first_is}
use Rattle.order_edges.proofs.Leading.{leads_either, leads_upto, link_is, if_is}
use Rattle.order_edges.proofs.Needing.{AnEffect, own_needs, needs_own, issue_is, sync_is, arrival_is, effect_is, release_is}
use Rattle.order_edges.proofs.StepsAt.{step_is}
use Rattle.order_edges.proofs.Marks.{last_mark, next_mark, part_mark, conflict_from}
use Rattle.order_edges.proofs.Keys.{Pair, pair_is}
use Rattle.order_edges.proofs.Facts.{Facts}

module _ (start : Place → Value) (past : List Entry) (nodes : ℕ) (items : List SourceEvent) (f : Facts start past nodes items) where
  abbrev release_table : ReleasesAt
  release_table = releases_of past items

  abbrev Before : ℕ → ℕ → Type 0
  Before a b = before_at start past items a b ≡ true

  -- what the source needs comes before
  needed : (a b : ℕ) (x y : SourceEvent) → item_at items a ≡ x → item_at items b ≡ y → needs past x y ≡ true → Before a b
  needed a b x y p q h = or_left _ _ (subst (λ u. needs past u (item_at items b) ≡ true) (sym p) (subst (λ u. needs past x u ≡ true) (sym q) h))

  some_same : (x y : ℕ) → Some x ≡ Some y → x ≡ y
  some_same x y h = cc

  -- to an own item with a number
  to_own : (p k a b : ℕ) → position (line_in past p Own) items k ≡ Some b → step_needs past (item_at items a) p k ≡ true → Before a b
  to_own p k a b h s =
      let g = (position_is (line_in past p Own) items k b h).1 in
      or_left _ _ (needs_own past p k (item_at items a) (item_at items b) g s)

  after : (m a : ℕ) → next_release release_table m ≡ Some a → item_at items a ≡ Release (suc m)
  after m a h = by (nat_lt m (released past)) h
    where
      by : (b : Bool) → (if b then position (all_releases_line past) items (m + 1) else None) ≡ Some a → item_at items a ≡ Release (suc m)
      by false e = absurd cc
      by true e =
          release_is past (suc m) (item_at items a)
          (position_is (all_releases_line past) items (suc m) a (ap (position (all_releases_line past) items) (sym (add-one m)) ∙ e)).1

  -- ---- releases

  release_each : (a b : ℕ) → leads (release_edges release_table items (length items)) a b ≡ true → Before a b
  release_each a b h =
      let r = leads_upto (λ i. release_edge release_table i (item_at items i)) (length items) a b h in
      let s = if_is (number_in (all_releases_line past) (item_at items r.0)) (λ m. link (Some r.0) (next_release release_table m)) a b r.2 in
      let l = link_is (Some r.0) (next_release release_table s.0) a b s.2 in
      let x = release_is past s.0 (item_at items r.0) s.1 in
      needed a b (Release s.0) (Release (suc s.0)) (ap (item_at items) (sym (some_same r.0 a l.0)) ∙ x) (after s.0 b l.1) (eq-eqb _ _ refl)

  -- ---- nodes

  module _ (p : ℕ) where
    the_step : (k : ℕ) → k ≤ requested p past → step_at (node_at past items p) k ≡ a_step (track_at p k past) (arrivals_among p k past)
    the_step k w = step_is p k (a_step None 0) past w

    abbrev K : NodeAt
    K = node_at past items p

    own_each : (i k a b : ℕ) → number_in (line_in past p Own) (item_at items i) ≡ Some k
        → leads (own_edges release_table K i k) a b ≡ true → Before a b
    own_each i k a b h g =
        ⊎_elim to_next from_release
        (leads_either (link (Some i) (position (line_in past p Own) items (k + 1))) (link (position (all_releases_line past) items (min passed (released past))) (Some i)) a b g)
      where
        passed : ℕ
        passed = (step_at K k).arrivals

        low : k ≤ requested p past
        low = (numbered (line_in past p Own) (item_at items i) k h).low

        passed_is : passed ≡ arrivals_among p k past
        passed_is = ap (λ (s : Step). s.arrivals) (the_step k low)

        to_next : leads (link (Some i) (position (line_in past p Own) items (k + 1))) a b ≡ true → Before a b
        to_next t =
            let l = link_is (Some i) (position (line_in past p Own) items (k + 1)) a b t in
            let e = ap (position (line_in past p Own) items) (sym (add-one k)) ∙ l.1 in
            let n = (numbered (line_in past p Own) (item_at items b) (suc k) (position_is (line_in past p Own) items (suc k) b e).1).low in
            to_own p (suc k) a b e
            (own_needs past p k (suc k) (item_at items a) (subst (λ u. number_in (line_in past p Own) (item_at items u) ≡ Some k) (some_same i a l.0) h) (omega arith) n)

        from_release : leads (link (position (all_releases_line past) items (min passed (released past))) (Some i)) a b ≡ true → Before a b
        from_release t =
            let l = link_is (position (all_releases_line past) items (min passed (released past))) (Some i) a b t in
            let m = min passed (released past) in
            let x = release_is past m (item_at items a) (position_is (all_releases_line past) items m a l.0).1 in
            let s : step_needs past (Release m) p k ≡ true = le_from m (arrivals_among p k past) (let q = passed_is in omega (arith, q)) in
            or_left _ _ (needs_own past p k (item_at items a) (item_at items b)
            (subst (λ u. number_in (line_in past p Own) (item_at items u) ≡ Some k) (some_same i b l.1) h)
            (subst (λ u. step_needs past u p k ≡ true) (sym x) s))

    arrival_each : (i k a b : ℕ) → number_in (line_in past p Arrivals) (item_at items i) ≡ Some k
        → leads (arrival_edges release_table K i k) a b ≡ true → Before a b
    arrival_each i k a b h g =
        let s = step_at K k in
        let l = link_is (Some i) (next_release release_table s.arrivals) a b g in
        let x = arrival_is past p k (item_at items i) h in
        let low = (numbered (line_in past p Arrivals) (item_at items i) k h).low in
        let e : s.arrivals ≡ arrivals_among p k past = ap (λ (s : Step). s.arrivals) (the_step k low) in
        needed a b (Arrive p k x.0) (Release (suc s.arrivals)) (ap (item_at items) (sym (some_same i a l.0)) ∙ x.1) (after s.arrivals b l.1)
        (eq-eqb _ _ (ap suc (sym e)))

    -- what waits for an effect on the track
    wait_each : (k a b : ℕ) (track : Option Track) → track_at p k past ≡ track → k ≤ requested p past
        → (c : ℕ) (wrote : Bool) (place : Place) (value : Value) → item_at items a ≡ Effect p k c wrote place value
        → waits release_table K track (arrivals_among p k past) k ≡ Some b → Before a b
    wait_each k a b None is low c wrote place value x h = absurd cc
    wait_each k a b (Some Covered) is low c wrote place value x h =
        to_own p (suc k) a b (ap (position (line_in past p Own) items) (sym (add-one k)) ∙ h)
        (subst (λ u. step_needs past u p (suc k) ≡ true) (sym x)
        (and_from _ _ (eq-eqb p p refl) (and_from _ _ (lt_from k (suc k) (omega arith)) (ap (λ o. option_map_or is_blocking o false) is))))
    wait_each k a b (Some (Counter n)) is low c wrote place value x h = by (n == 0) refl h
      where
        by : (z : Bool) → (n == 0) ≡ z → (if z then next_from (position (line_in past p Syncs) items) (suc (requested p past)) (k + 1) else position (line_in past p Own) items (k + 1)) ≡ Some b → Before a b
        by false e g =
            to_own p (suc k) a b (ap (position (line_in past p Own) items) (sym (add-one k)) ∙ g)
            (subst (λ u. step_needs past u p (suc k) ≡ true) (sym x)
            (and_from _ _ (eq-eqb p p refl) (and_from _ _ (lt_from k (suc k) (omega arith)) (ap (λ o. option_map_or is_blocking o false) is ∙ not_from_false _ e))))
        by true e g =
            let r = first_is (position (line_in past p Syncs) items) (suc (requested p past) - (k + 1)) (k + 1) b g in
            let y = sync_is past p r.0 (item_at items b) (position_is (line_in past p Syncs) items r.0 b r.3).1 in
            let w = r.1 in
            needed a b (Effect p k c wrote place value) (Sync p r.0) x y
            (or_right (step_needs past (Effect p k c wrote place value) p r.0) _
            (and_from _ _ (eq-eqb p p refl) (and_from _ _ (lt_from k r.0 (omega (arith, w))) (ap (λ o. option_map_or is_split o false) is ∙ e))))
    wait_each k a b (Some Store) is low c wrote place value x h = by (nat_lt (arrivals_among p k past) (released past)) h
      where
        by : (z : Bool) → (if z then next_from (stored past (position (all_releases_line past) items)) (suc (released past)) (arrivals_among p k past + 1) else None) ≡ Some b → Before a b
        by false g = absurd cc
        by true g = at r.0 r.1 (stores_at r.0 past) refl r.3
          where
            r : (j : ℕ) × (arrivals_among p k past + 1 ≤ j) × (j < arrivals_among p k past + 1 + (suc (released past) - (arrivals_among p k past + 1))) × (stored past (position (all_releases_line past) items) j ≡ Some b)
            r = first_is (stored past (position (all_releases_line past) items)) (suc (released past) - (arrivals_among p k past + 1)) (arrivals_among p k past + 1) b g

            at : (m : ℕ) → arrivals_among p k past + 1 ≤ m → (s : Bool) → stores_at m past ≡ s → (if s then position (all_releases_line past) items m else None) ≡ Some b → Before a b
            at m w false e q = absurd cc
            at m w true e q =
                let y = release_is past m (item_at items b) (position_is (all_releases_line past) items m b q).1 in
                needed a b (Effect p k c wrote place value) (Release m) x y
                (and_from _ _ (ap (λ o. option_map_or is_store o false) is) (and_from _ _ e (lt_from (arrivals_among p k past) m (omega (arith, w)))))

    effect_each : (i k a b : ℕ) → number_in (line_in past p Effects) (item_at items i) ≡ Some k
        → leads (effect_edges release_table K i k) a b ≡ true → Before a b
    effect_each i k a b h g =
        ⊎_elim from_issue to_wait
        (leads_either (link (position (line_in past p Issues) items k) (Some i)) (link (Some i) (waits release_table K s.track s.arrivals k)) a b g)
      where
        s : Step
        s = step_at K k

        low : k ≤ requested p past
        low = (numbered (line_in past p Effects) (item_at items i) k h).low

        x : AnEffect past p k (item_at items i)
        x = effect_is past p k (item_at items i) h

        from_issue : leads (link (position (line_in past p Issues) items k) (Some i)) a b ≡ true → Before a b
        from_issue t =
            let l = link_is (position (line_in past p Issues) items k) (Some i) a b t in
            let y = issue_is past p k (item_at items a) (position_is (line_in past p Issues) items k a l.0).1 in
            needed a b (Issue p k) (Effect p k x.cell x.wrote x.place x.value) y (ap (item_at items) (sym (some_same i b l.1)) ∙ x.is)
            (and_from _ _ (eq-eqb p p refl) (eq-eqb k k refl))

        to_wait : leads (link (Some i) (waits release_table K s.track s.arrivals k)) a b ≡ true → Before a b
        to_wait t =
            let l = link_is (Some i) (waits release_table K s.track s.arrivals k) a b t in
            wait_each k a b (track_at p k past) refl low x.cell x.wrote x.place x.value (ap (item_at items) (sym (some_same i a l.0)) ∙ x.is)
            (ap (λ (s : Step). waits release_table K s.track s.arrivals k) (sym (the_step k low)) ∙ l.1)

    item_each : (i a b : ℕ) → leads (item_edges release_table K i (item_at items i)) a b ≡ true → Before a b
    item_each i a b h =
        ⊎_elim (λ t. let r = if_is (number_in (line_in past p Own) (item_at items i)) (own_edges release_table K i) a b t in own_each i r.0 a b r.1 r.2)
        (λ u. ⊎_elim
        (λ t. let r = if_is (number_in (line_in past p Arrivals) (item_at items i)) (arrival_edges release_table K i) a b t in arrival_each i r.0 a b r.1 r.2)
        (λ t. let r = if_is (number_in (line_in past p Effects) (item_at items i)) (effect_edges release_table K i) a b t in effect_each i r.0 a b r.1 r.2)
        (leads_either (edges_if (number_in (line_in past p Arrivals) (item_at items i)) (arrival_edges release_table K i)) (edges_if (number_in (line_in past p Effects) (item_at items i)) (effect_edges release_table K i)) a b u))
        (leads_either (edges_if (number_in (line_in past p Own) (item_at items i)) (own_edges release_table K i)) _ a b h)

  nodes_each : (a b : ℕ) → leads (nodes_edges past items nodes) a b ≡ true → Before a b
  nodes_each a b h =
      let r = leads_upto (λ node. node_edges release_table (node_at past items node) items (length items)) nodes a b h in
      let s = leads_upto (λ i. item_edges release_table (node_at past items r.0) i (item_at items i)) (length items) a b r.2 in
      item_each r.0 s.0 a b s.2

  -- ---- effects by keys

  conflict : (a b : ℕ) → a < b → b < length items → items_conflict does (item_at items a) (item_at items b) ≡ true → Before a b
  conflict a b w v h = or_right _ _ (and_from _ _ h (f.in_order a b w v h))

  copied_each : (a b : ℕ) → leads (keyed_edges Copied items (length items)) a b ≡ true → Before a b
  copied_each a b h = by (pair_is Copied items a b h)
    where
      by : Pair Copied items a b → Before a b
      by p = ⊎_elim (λ q. let e = q.0 in absurd cc) (λ q.
          let x = part_mark (item_at items p.earlier.turn) p.earlier.one.mark p.earlier.one.is in
          let y = part_mark (item_at items p.turn) p.linked.mark p.linked.is in
          let xa : item_at items a ≡ Effect x.node x.request x.cell x.wrote x.place x.value = ap (item_at items) (sym (p.earlier.at ∙ q.1)) ∙ x.is in
          let yb : item_at items b ≡ Effect y.node y.request y.cell y.wrote y.place y.value = ap (item_at items) (sym q.2) ∙ y.is in
          let read : x.wrote ≡ false = not-true _ (sym x.one_is ∙ p.earlier.one.one) in
          let wrote : y.wrote ≡ true = sym y.has_is ∙ p.linked.has in
          let keys = sym x.key_is ∙ p.earlier.one.key_is ∙ sym p.linked.key_is ∙ y.key_is in
          needed a b (Effect x.node x.request x.cell false x.place x.value) (Effect y.node y.request y.cell true y.place y.value)
          (xa ∙ ap (λ w. Effect x.node x.request x.cell w x.place x.value) read) (yb ∙ ap (λ w. Effect y.node y.request y.cell w y.place y.value) wrote)
          (and_from _ _ (eq-eqb _ _ (ap (λ (k : Key). k.0) keys)) (and_from _ _ (eq-eqb _ _ (ap (λ (k : Key). k.1) keys)) (eq-eqb _ _ (ap (λ (k : Key). k.2) keys))))) p.ends

  last_each : (a b : ℕ) → leads (keyed_edges LastWrite items (length items)) a b ≡ true → Before a b
  last_each a b h = by (pair_is LastWrite items a b h)
    where
      by : Pair LastWrite items a b → Before a b
      by p = ⊎_elim (λ q. let e = q.0 in absurd cc) (λ q.
          let x = last_mark (item_at items p.earlier.turn) p.earlier.one.mark p.earlier.one.is in
          let y = last_mark (item_at items p.turn) p.linked.mark p.linked.is in
          let keys = sym x.key_is ∙ p.earlier.one.key_is ∙ sym p.linked.key_is ∙ y.key_is in
          let c = conflict_from (item_at items p.earlier.turn) (item_at items p.turn) x.cell y.cell keys (or_left _ _ (sym x.one_is ∙ p.earlier.one.one)) in
          subst (λ u. Before u b) (p.earlier.at ∙ q.1) (subst (Before p.earlier.turn) q.2 (conflict p.earlier.turn p.turn p.earlier.before p.within c))) p.ends

  next_each : (a b : ℕ) → leads (keyed_edges NextWrite items (length items)) a b ≡ true → Before a b
  next_each a b h = by (pair_is NextWrite items a b h)
    where
      by : Pair NextWrite items a b → Before a b
      by p = ⊎_elim (λ q.
          let y = next_mark (item_at items (length items - 1 - p.earlier.turn)) p.earlier.one.mark p.earlier.one.is in
          let x = next_mark (item_at items (length items - 1 - p.turn)) p.linked.mark p.linked.is in
          let keys = sym x.key_is ∙ p.linked.key_is ∙ sym p.earlier.one.key_is ∙ y.key_is in
          let c = conflict_from (item_at items (length items - 1 - p.turn)) (item_at items (length items - 1 - p.earlier.turn)) x.cell y.cell keys (or_right x.cell.effect.wrote _ (sym y.one_is ∙ p.earlier.one.one)) in
          let w = p.within in let v = p.earlier.before in
          subst (λ u. Before u b) q.1 (subst (Before (length items - 1 - p.turn)) (p.earlier.at ∙ q.2)
          (conflict (length items - 1 - p.turn) (length items - 1 - p.earlier.turn) (omega (arith, w, v)) (omega (arith, w, v)) c))) (λ q. let e = q.0 in absurd cc) p.ends

  pub each_before : (a b : ℕ) → leads (all_edges past nodes items) a b ≡ true → Before a b
  each_before a b h =
      ⊎_elim (release_each a b)
      (λ t. ⊎_elim (nodes_each a b)
      (λ u. ⊎_elim (copied_each a b)
      (λ v. ⊎_elim (last_each a b) (next_each a b) (leads_either (keyed_edges LastWrite items (length items)) _ a b v))
      (leads_either (keyed_edges Copied items (length items)) _ a b u))
      (leads_either (nodes_edges past items nodes) _ a b t))
      (leads_either (release_edges release_table items (length items)) _ a b h)
