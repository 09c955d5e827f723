-- All edges are between items of the list.
use Rattle.std.proofs.Common.{◌≡◌, ◌⊎◌, ℕ, zero, suc, ◌+◌, ◌-◌, ◌<◌, ◌≤◌, List, [], ◌∷◌, ◌++◌, length, get_or, min, All, Option, Some, None, Bool, true, false, ◌==◌, refl, sym, ap, subst, ◌∙◌, arith}
use Rattle.std.specs.Prelude.{nat_lt, if◌then◌else◌}
use Rattle.effect_order.specs.Lists.{Each}
use Rattle.sc_meaning.specs.declared.event.SourceEvent.{SourceEvent}
use Rattle.sc_isa.specs.declared.access.Track.{Track}
use Rattle.sc_isa.specs.declared.access.Track.TheVariants.{Counter, Store, Covered}
use Rattle.sc_isa.specs.declared.journal.Entry.{Entry}
use Rattle.fabric.specs.Barriers.{released, stores_at}
use Rattle.source_order.specs.Steps.{requested}
use Rattle.least_order.specs.declared.edge.Edge.{Edge}
use Rattle.least_order.specs.Least.{IsWithin}
use Rattle.journal_order.specs.Ordering.{item_at}
use Rattle.order_edges.specs.declared.line.Line.{Line}
use Rattle.order_edges.specs.declared.line.Kind.TheVariants.{Own, Issues, Syncs, Arrivals, Effects}
use Rattle.order_edges.specs.declared.keyed.Pairing.{Pairing}
use Rattle.order_edges.specs.declared.keyed.Pairing.TheVariants.{Copied, LastWrite, NextWrite}
use Rattle.order_edges.specs.declared.keyed.Mark.{Mark}
use Rattle.order_edges.specs.Lines.{number_in, position, link, edges_if, edges_upto, next_from}
use Rattle.order_edges.specs.Kinds.{ReleasesAt, NodeAt, step_at, own_edges, arrival_edges, waits, effect_edges, item_edges, node_edges, next_release, next_stores, release_edge, release_edges}
use Rattle.order_edges.specs.Tables.{line_in, all_releases_line, releases_of, node_at, nodes_edges, stored}
use Rattle.order_edges.specs.Keyed.{Key, is_backwards, at_turn, link_to, link_if, mark_at, last_one, keyed_at, keyed_edges}
use Rattle.order_edges.specs.Whole.{all_edges}
use Rattle.order_edges.proofs.Places.{position_is, first_is}
use Rattle.order_edges.proofs.Leading.{Below, link_within, both_within, if_within, upto_within}
use Rattle.order_edges.proofs.Keys.{last_is}

each_at : {X : Type 0} (P : X → Type 0) (xs : List X) → Each P xs → (k : ℕ) (d : X) → k < length xs → P (get_or xs k d)
each_at P [] e k d w = absurd (omega (arith, w))
each_at P (x ∷ xs) e zero d w = e.0
each_at P (x ∷ xs) e (suc k) d w = each_at P xs e.1 k d (omega (arith, w))

here : (count i : ℕ) → i < count → Below count (Some i)
here count i w x h = let same : i ≡ x = cc in omega (arith, w, same)

none : (count : ℕ) → Below count None
none count x h = absurd cc

module _ (past : List Entry) (nodes : ℕ) (items : List SourceEvent) where
  abbrev N : ℕ
  N = length items

  abbrev R : ReleasesAt
  R = releases_of past items

  abbrev Within : List Edge → Type 0
  Within edges = Each (IsWithin N) edges

  placed : (line : Line) (k : ℕ) → Below N (position line items k)
  placed line k x h = (position_is line items k x h).0

  next_below : (m : ℕ) → Below N (next_release R m)
  next_below m = by (nat_lt m (released past))
    where
      by : (b : Bool) → Below N (if b then position (all_releases_line past) items (m + 1) else None)
      by true = placed (all_releases_line past) (m + 1)
      by false = none N

  stored_below : (m : ℕ) → Below N (stored past (position (all_releases_line past) items) m)
  stored_below m = by (stores_at m past)
    where
      by : (b : Bool) → Below N (if b then position (all_releases_line past) items m else None)
      by true = placed (all_releases_line past) m
      by false = none N

  from_below : (f : ℕ → Option ℕ) → ((k : ℕ) → Below N (f k)) → (count k : ℕ) → Below N (next_from f count k)
  from_below f g count k x h = let r = first_is f (count - k) k x h in g r.0 x r.3

  stores_below : (m : ℕ) → Below N (next_stores R m)
  stores_below m = by (nat_lt m (released past))
    where
      by : (b : Bool) → Below N (if b then next_from (stored past (position (all_releases_line past) items)) (suc (released past)) (m + 1) else None)
      by true = from_below (stored past (position (all_releases_line past) items)) stored_below (suc (released past)) (m + 1)
      by false = none N

  releases_within : Within (release_edges R items N)
  releases_within = upto_within N (λ i. release_edge R i (item_at items i)) N
      (λ i w. if_within N (number_in (all_releases_line past) (item_at items i)) (λ m. link (Some i) (next_release R m))
      (λ m e. link_within N (Some i) (next_release R m) (here N i w) (next_below m)))

  module _ (p : ℕ) where
    abbrev K : NodeAt
    K = node_at past items p

    waits_below : (track : Option Track) (arrivals k : ℕ) → Below N (waits R K track arrivals k)
    waits_below None arrivals k = none N
    waits_below (Some Store) arrivals k = stores_below arrivals
    waits_below (Some Covered) arrivals k = placed (line_in past p Own) (k + 1)
    waits_below (Some (Counter c)) arrivals k = by (c == 0)
      where
        by : (b : Bool) → Below N (if b then next_from (position (line_in past p Syncs) items) (suc (requested p past)) (k + 1) else position (line_in past p Own) items (k + 1))
        by true = from_below (position (line_in past p Syncs) items) (placed (line_in past p Syncs)) (suc (requested p past)) (k + 1)
        by false = placed (line_in past p Own) (k + 1)

    own_within : (i k : ℕ) → i < N → Within (own_edges R K i k)
    own_within i k w =
        both_within N (link (Some i) (position (line_in past p Own) items (k + 1))) _
        (link_within N (Some i) (position (line_in past p Own) items (k + 1)) (here N i w) (placed (line_in past p Own) (k + 1)))
        (link_within N (position (all_releases_line past) items (min (step_at K k).arrivals (released past))) (Some i)
        (placed (all_releases_line past) (min (step_at K k).arrivals (released past))) (here N i w))

    effect_within : (i k : ℕ) → i < N → Within (effect_edges R K i k)
    effect_within i k w =
        both_within N (link (position (line_in past p Issues) items k) (Some i)) _
        (link_within N (position (line_in past p Issues) items k) (Some i) (placed (line_in past p Issues) k) (here N i w))
        (link_within N (Some i) (waits R K (step_at K k).track (step_at K k).arrivals k) (here N i w) (waits_below (step_at K k).track (step_at K k).arrivals k))

    item_within : (i : ℕ) → i < N → Within (item_edges R K i (item_at items i))
    item_within i w =
        both_within N (edges_if (number_in (line_in past p Own) (item_at items i)) (own_edges R K i)) _
        (if_within N (number_in (line_in past p Own) (item_at items i)) (own_edges R K i) (λ k e. own_within i k w))
        (both_within N (edges_if (number_in (line_in past p Arrivals) (item_at items i)) (arrival_edges R K i)) _
        (if_within N (number_in (line_in past p Arrivals) (item_at items i)) (arrival_edges R K i)
        (λ k e. link_within N (Some i) (next_release R (step_at K k).arrivals) (here N i w) (next_below (step_at K k).arrivals)))
        (if_within N (number_in (line_in past p Effects) (item_at items i)) (effect_edges R K i) (λ k e. effect_within i k w)))

  nodes_within : Within (nodes_edges past items nodes)
  nodes_within = upto_within N (λ node. node_edges R (node_at past items node) items N) nodes
      (λ p n. upto_within N (λ i. item_edges R (node_at past items p) i (item_at items i)) N (λ i w. item_within p i w))

  turn_below : (pairing : Pairing) (t : ℕ) → t < N → at_turn pairing N t < N
  turn_below pairing t w = by (is_backwards pairing)
    where
      by : (b : Bool) → (if b then N - 1 - t else t) < N
      by true = omega (arith, w)
      by false = w

  keyed_within : (pairing : Pairing) → Within (keyed_edges pairing items N)
  keyed_within pairing = upto_within N (keyed_at pairing items) N (λ t w. by t w (mark_at pairing items t))
    where
      one_below : (t : ℕ) → t < N → (key : Key) → Below N (last_one pairing items t key)
      one_below t w key x h =
          let r = last_is pairing items t x key h in
          subst (λ u. u < N) r.at (turn_below pairing r.turn (let b = r.before in omega (arith, b, w)))

      to : (t : ℕ) → t < N → (key : Key) → Within (link_to pairing (last_one pairing items t key) (at_turn pairing N t))
      to t w key = on (is_backwards pairing)
        where
          on : (b : Bool) → Within (if b then link (Some (at_turn pairing N t)) (last_one pairing items t key) else link (last_one pairing items t key) (Some (at_turn pairing N t)))
          on true = link_within N (Some (at_turn pairing N t)) (last_one pairing items t key) (here N (at_turn pairing N t) (turn_below pairing t w)) (one_below t w key)
          on false = link_within N (last_one pairing items t key) (Some (at_turn pairing N t)) (one_below t w key) (here N (at_turn pairing N t) (turn_below pairing t w))

      by : (t : ℕ) → t < N → (o : Option Mark) → Within (link_if pairing o (last_one pairing items t) (at_turn pairing N t))
      by t w None = tt
      by t w (Some m) = on m.has_one
        where
          on : (b : Bool) → Within (if b then link_to pairing (last_one pairing items t m.key) (at_turn pairing N t) else [])
          on true = to t w m.key
          on false = tt

  pub edges_within : All (IsWithin N) (all_edges past nodes items)
  edges_within = each_at (IsWithin N) (all_edges past nodes items)
      (both_within N (release_edges R items N) _ releases_within
      (both_within N (nodes_edges past items nodes) _ nodes_within
      (both_within N (keyed_edges Copied items N) _ (keyed_within Copied)
      (both_within N (keyed_edges LastWrite items N) _ (keyed_within LastWrite) (keyed_within NextWrite)))))
