-- Ways along the own items of a node and along the releases.
use Rattle.std.proofs.Common.{◌≡◌, ◌⊎◌, ℕ, zero, suc, ◌+◌, ◌-◌, ◌<◌, ◌≤◌, List, length, Option, Some, None, Bool, true, false, refl, sym, ap, subst, ◌∙◌, arith, inl, inr, ⊎_elim, add-one}
use Rattle.std.specs.Prelude.{nat_lt}
use Rattle.sc_base.specs.declared.value.Place.{Place}
use Rattle.sc_base.specs.declared.value.Value.{Value}
use Rattle.sc_meaning.specs.declared.event.SourceEvent.{SourceEvent}
use Rattle.sc_meaning.specs.declared.event.SourceEvent.TheVariants.{Release}
use Rattle.sc_isa.specs.declared.journal.Entry.{Entry}
use Rattle.fabric.specs.Barriers.{released}
use Rattle.source_order.specs.Steps.{requested}
use Rattle.least_order.specs.declared.edge.Edge.{Edge}
use Rattle.least_order.specs.Least.{leads}
use Rattle.journal_order.specs.Ordering.{item_at}
use Rattle.order_edges.specs.declared.line.Kind.{Kind}
use Rattle.order_edges.specs.declared.line.Kind.TheVariants.{Own, Issues, Syncs, Arrivals, Effects, Releases}
use Rattle.order_edges.specs.Lines.{number_in, position, link, edges_if, edges_upto}
use Rattle.order_edges.specs.Kinds.{ReleasesAt, NodeAt, line_of, own_edges, arrival_edges, effect_edges, item_edges, node_edges, release_line, next_release, release_edge, release_edges}
use Rattle.order_edges.specs.Tables.{line_in, all_releases_line, releases_of, node_at, nodes_edges}
use Rattle.order_edges.specs.Keyed.{keyed_edges}
use Rattle.order_edges.specs.Whole.{all_edges}
use Rattle.order_edges.proofs.Numbers.{if_true, if_false, lt_from, le_is}
use Rattle.order_edges.proofs.Places.{Numbered, numbered, number_from, position_one, position_is}
use Rattle.order_edges.proofs.Leading.{leads_left, leads_right, upto_leads, link_leads, if_leads, Way, Reach, one_way, stay, as_reach, then_reach, reach_then}
use Rattle.order_edges.proofs.Needing.{release_is}
use Rattle.order_edges.proofs.Facts.{Facts}

module _ (start : Place → Value) (past : List Entry) (nodes : ℕ) (items : List SourceEvent) (f : Facts start past nodes items) where
  abbrev pub E : List Edge
  E = all_edges past nodes items

  abbrev pub N : ℕ
  N = length items

  abbrev pub At : ℕ → SourceEvent
  At = item_at items

  abbrev pub R : ReleasesAt
  R = releases_of past items

  -- ---- the edges of each kind are among all

  pub in_releases : (i a b : ℕ) → i < N → leads (release_edge R i (At i)) a b ≡ true → leads E a b ≡ true
  in_releases i a b w h = leads_left (release_edges R items N) _ a b (upto_leads (λ i. release_edge R i (At i)) N i a b w h)

  pub in_node : (p i a b : ℕ) → p < nodes → i < N → leads (item_edges R (node_at past items p) i (At i)) a b ≡ true → leads E a b ≡ true
  in_node p i a b n w h =
      leads_right (release_edges R items N) _ a b
      (leads_left (nodes_edges past items nodes) _ a b
      (upto_leads (λ node. node_edges R (node_at past items node) items N) nodes p a b n
      (upto_leads (λ i. item_edges R (node_at past items p) i (At i)) N i a b w h)))

  pub in_own : (p i k a b : ℕ) → p < nodes → i < N → number_in (line_in past p Own) (At i) ≡ Some k
      → leads (own_edges R (node_at past items p) i k) a b ≡ true → leads E a b ≡ true
  in_own p i k a b n w e h =
      in_node p i a b n w (leads_left (edges_if (number_in (line_in past p Own) (At i)) (own_edges R (node_at past items p) i)) _ a b
      (if_leads _ (own_edges R (node_at past items p) i) k a b e h))

  pub in_arrival : (p i k a b : ℕ) → p < nodes → i < N → number_in (line_in past p Arrivals) (At i) ≡ Some k
      → leads (arrival_edges R (node_at past items p) i k) a b ≡ true → leads E a b ≡ true
  in_arrival p i k a b n w e h =
      in_node p i a b n w (leads_right (edges_if (number_in (line_in past p Own) (At i)) (own_edges R (node_at past items p) i)) _ a b
      (leads_left (edges_if (number_in (line_in past p Arrivals) (At i)) (arrival_edges R (node_at past items p) i)) _ a b
      (if_leads _ (arrival_edges R (node_at past items p) i) k a b e h)))

  pub in_effect : (p i k a b : ℕ) → p < nodes → i < N → number_in (line_in past p Effects) (At i) ≡ Some k
      → leads (effect_edges R (node_at past items p) i k) a b ≡ true → leads E a b ≡ true
  in_effect p i k a b n w e h =
      in_node p i a b n w (leads_right (edges_if (number_in (line_in past p Own) (At i)) (own_edges R (node_at past items p) i)) _ a b
      (leads_right (edges_if (number_in (line_in past p Arrivals) (At i)) (arrival_edges R (node_at past items p) i)) _ a b
      (if_leads _ (effect_edges R (node_at past items p) i) k a b e h)))

  -- ---- own items

  abbrev pub Has : (kind : Kind) → (p k i : ℕ) → Type 0
  Has kind p k i = number_in (line_in past p kind) (At i) ≡ Some k

  pub own_at : (p k i : ℕ) → i < N → Has Own p k i → position (line_in past p Own) items k ≡ Some i
  own_at p k i w h = position_one (line_in past p Own) items k i w h (λ j v g. f.own_one j i p k v w g h)

  pub own_within : (p k i : ℕ) → Has Own p k i → k ≤ requested p past
  own_within p k i h = (numbered (line_in past p Own) (At i) k h).low

  next_own : (p k i j : ℕ) → p < nodes → i < N → j < N → Has Own p k i → Has Own p (suc k) j → leads E i j ≡ true
  next_own p k i j n w v h g =
      in_own p i k i j n w h
      (leads_left (link (Some i) (position (line_in past p Own) items (k + 1))) _ i j
      (link_leads (Some i) _ i j refl (ap (position (line_in past p Own) items) (add-one k) ∙ own_at p (suc k) j v g)))

  pub own_reach : (d p k l i j : ℕ) → k + d ≡ l → p < nodes → i < N → j < N → Has Own p k i → Has Own p l j → Reach E N i j
  own_reach zero p k l i j e n w v h g =
      let same : l ≡ k = omega (arith, e) in
      subst (Reach E N i) (f.own_one i j p k w v h (subst (λ u. Has Own p u j) same g)) (stay E N i)
  own_reach (suc d) p k l i j e n w v h g =
      let low = own_within p l j g in
      let next = f.own_there p (suc k) n (omega (arith, e, low)) in
      as_reach E N i j (then_reach E N i next.0 j (one_way E N i next.0 w next.1 (next_own p k i next.0 n w next.1 h next.2))
      (own_reach d p (suc k) l next.0 j (omega (arith, e)) n next.1 v next.2 g))

  pub own_way : (p k l i j : ℕ) → k < l → p < nodes → i < N → j < N → Has Own p k i → Has Own p l j → Way E N i j
  own_way p k l i j lt n w v h g =
      let low = own_within p l j g in
      let next = f.own_there p (suc k) n (omega (arith, lt, low)) in
      let d = less lt in
      then_reach E N i next.0 j (one_way E N i next.0 w next.1 (next_own p k i next.0 n w next.1 h next.2))
      (own_reach d.0 p (suc k) l next.0 j d.1 n next.1 v next.2 g)
    where
      less : k < l → (d : ℕ) × (suc k + d ≡ l)
      less lt = (l - suc k, omega (arith, lt))

  -- ---- releases

  pub release_number : (m i : ℕ) → i < N → At i ≡ Release m → number_in (all_releases_line past) (At i) ≡ Some m
  release_number m i w e =
      let low = (f.release_low i m w e).1 in
      subst (λ x. number_in (all_releases_line past) x ≡ Some m) (sym e) (number_from (all_releases_line past) (Release m) refl refl low)

  pub release_at : (m i : ℕ) → i < N → At i ≡ Release m → position (all_releases_line past) items m ≡ Some i
  release_at m i w e =
      position_one (all_releases_line past) items m i w (release_number m i w e)
      (λ j v g. f.release_one j i m v w (release_is past m (At j) g) e)

  pub after_is : (m i : ℕ) → i < N → At i ≡ Release (suc m) → next_release R m ≡ Some i
  after_is m i w e =
      let low = (f.release_low i (suc m) w e).1 in
      if_true (nat_lt m (released past)) _ _ (lt_from m (released past) low)
      ∙ ap (position (all_releases_line past) items) (add-one m) ∙ release_at (suc m) i w e

  pub next_leads : (m i j : ℕ) → i < N → j < N → At i ≡ Release m → At j ≡ Release (suc m) → leads E i j ≡ true
  next_leads m i j w v e g =
      in_releases i i j w (if_leads _ (λ m. link (Some i) (next_release R m)) m i j (release_number m i w e)
      (link_leads (Some i) (next_release R m) i j refl (after_is m j v g)))

  pub release_reach : (d m l i j : ℕ) → m + d ≡ l → i < N → j < N → At i ≡ Release m → At j ≡ Release l → Reach E N i j
  release_reach zero m l i j e w v h g =
      let same : l ≡ m = omega (arith, e) in
      subst (Reach E N i) (f.release_one i j m w v h (g ∙ ap Release same)) (stay E N i)
  release_reach (suc d) m l i j e w v h g =
      let low = (f.release_low j l v g).1 in
      let next = f.release_there (suc m) (omega arith) (omega (arith, e, low)) in
      as_reach E N i j (then_reach E N i next.0 j (one_way E N i next.0 w next.1 (next_leads m i next.0 w next.1 h next.2))
      (release_reach d (suc m) l next.0 j (omega (arith, e)) next.1 v next.2 g))

  -- how far the one number is from the other
  pub apart : (m l : ℕ) → m ≤ l → (d : ℕ) × (m + d ≡ l)
  apart m l w = (l - m, omega (arith, w))
