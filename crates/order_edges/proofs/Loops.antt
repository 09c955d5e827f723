-- What the loops keep.
use Rattle.std.proofs.Common.{◌≡◌, ◌⊎◌, ◌≢◌, ℕ, zero, suc, ◌+◌, ◌-◌, ◌<◌, ◌≤◌, List, [], ◌∷◌, ◌++◌, length, get_or, set, replicate, take, reverse, slice_index, Option, Some, None, Bool, true, false, eqb, ◌==◌, ◌&&◌, ◌||◌, refl, sym, ap, ap₂, subst, ◌∙◌, arith, inl, inr, ⊎_elim, add-one, length-set, append_assoc}
use Rattle.std.specs.Prelude.{if◌then◌else◌}
use Rattle.std.specs.Option.{option_map_or}
use Rattle.std.proofs.lemmas.List.{get_or-set_same, get_or-set_other, length-reverse}
use Rattle.std.proofs.lemmas.Bool.{cases_eq, cases_lt}
use Rattle.std.proofs.lemmas.Bool.Decides.{eqb_tells}
use Rattle.std.proofs.Math.Path.{fun_ext}
use Rattle.sc_meaning.specs.declared.event.SourceEvent.{SourceEvent}
use Rattle.sc_meaning.specs.declared.event.SourceEvent.TheVariants.{Release}
use Rattle.sc_isa.specs.declared.journal.Entry.{Entry}
use Rattle.sc_isa.specs.declared.journal.Entry.TheVariants.{Issued, Delivered, Waited, Arrived, Passed, Finished}
use Rattle.fabric.specs.Barriers.{arrivals, passes, released, stores_at}
use Rattle.source_order.specs.Steps.{requested}
use Rattle.least_order.specs.declared.edge.Edge.{Edge}
use Rattle.journal_order.specs.Ordering.{item_at}
use Rattle.journal_order.proofs.Listing.{past_next}
use Rattle.order_edges.specs.declared.line.Line.{Line}
use Rattle.order_edges.specs.declared.keyed.Pairing.{Pairing}
use Rattle.order_edges.specs.declared.keyed.Mark.{Mark}
use Rattle.order_edges.specs.declared.steps.Step.{Step}
use Rattle.journal_order.specs.Listed.{IsOn}
use Rattle.order_edges.specs.declared.line.Kind.TheVariants.{Own, Issues, Syncs, Releases}
use Rattle.order_edges.specs.Lines.{number_in, has_number, last_with, position, look, Tells, or_else, first_from, next_from, edges_upto}
use Rattle.order_edges.specs.Steps.{is_arrival, step_if, arrivals_with, steps_before, steps_of}
use Rattle.order_edges.specs.Kinds.{ReleasesAt, NodeAt, release_edges, node_edges}
use Rattle.order_edges.specs.Tables.{line_in, all_releases_line, stored, releases_of, node_at, nodes_edges}
use Rattle.order_edges.specs.Whole.{all_edges}
use Rattle.order_edges.specs.declared.keyed.Pairing.TheVariants.{Copied, LastWrite, NextWrite}
use Rattle.order_edges.specs.Keyed.{Key, marked, at_turn, is_one_at, link_if, mark_at, last_one, keyed_at, keyed_edges}
use Rattle.order_edges.proofs.Numbers.{if_true, if_false}
use Rattle.order_edges.proofs.StepsAt.{steps_length}

same_get : {X : Type 0} (xs : List X) (i : ℕ) (d e : X) → i < length xs → get_or xs i d ≡ get_or xs i e
same_get [] i d e w = absurd (omega (arith, w))
same_get (x ∷ xs) zero d e w = refl
same_get (x ∷ xs) (suc i) d e w = same_get xs i d e (omega (arith, w))

pub item_is : (items : List SourceEvent) (i : ℕ) (d : SourceEvent) → i < length items → get_or items i d ≡ item_at items i
item_is items i d w = same_get items i d (Release 0) w

pub none_at : (n k : ℕ) → look (replicate n None) k ≡ None
none_at zero k = refl
none_at (suc n) zero = refl
none_at (suc n) (suc k) = none_at n k

pub none_in : (n : ℕ) (table : List (Option ℕ)) → table ≡ replicate n None → (k : ℕ) → look table k ≡ None
none_in n table e k = ap (λ t. look t k) e ∙ none_at n k

pub look_past : (table : List (Option ℕ)) (k : ℕ) → length table ≤ k → look table k ≡ None
look_past [] k w = refl
look_past (x ∷ table) zero w = absurd (omega (arith, w))
look_past (x ∷ table) (suc k) w = look_past table k (omega (arith, w))

pub set_here : (table : List (Option ℕ)) (n : ℕ) (x : Option ℕ) → n < length table → look (set table n x) n ≡ x
set_here table n x w = get_or-set_same table n x None w

pub set_there : (table : List (Option ℕ)) (n k : ℕ) (x : Option ℕ) → k ≢ n → look (set table n x) k ≡ look table k
set_there table n k x other = get_or-set_other table n k x None other

-- ---- numbers of items

pub noted_some : (line : Line) (item : SourceEvent) (at n : ℕ) (table : List (Option ℕ)) → n < length table → number_in line item ≡ Some n
    → (k : ℕ) → look (set table n (Some at)) k ≡ (if has_number line k item then Some at else look table k)
noted_some line item at n table w h k =
    by (eqb_tells n k) ∙ ap (λ o. if option_map_or (λ m. m == k) o false then Some at else look table k) (sym h)
  where
    by : ((eqb n k ≡ true) × (n ≡ k)) ⊎ ((eqb n k ≡ false) × (n ≢ k)) → look (set table n (Some at)) k ≡ (if n == k then Some at else look table k)
    by (inl p) = ap (look (set table n (Some at))) (sym p.1) ∙ set_here table n (Some at) w ∙ sym (if_true (n == k) (Some at) (look table k) p.0)
    by (inr p) = set_there table n k (Some at) (λ e. p.1 (sym e)) ∙ sym (if_false (n == k) (Some at) (look table k) p.0)

pub noted_none : (line : Line) (item : SourceEvent) (at : ℕ) (table : List (Option ℕ)) → number_in line item ≡ None
    → (k : ℕ) → look table k ≡ (if has_number line k item then Some at else look table k)
noted_none line item at table h k = ap (λ o. if option_map_or (λ m. m == k) o false then Some at else look table k) (sym h)

pub last_more : (line : Line) (items : List SourceEvent) (i : ℕ) (d : SourceEvent) (new old : List (Option ℕ)) → i < length items
    → ((k : ℕ) → look new k ≡ (if has_number line k (get_or items i d) then Some i else look old k))
    → ((k : ℕ) → look old k ≡ last_with line items i k) → (k : ℕ) → look new k ≡ last_with line items (i + 1) k
last_more line items i d new old w f g k =
    f k ∙ ap (λ x. if has_number line k x then Some i else look old k) (item_is items i d w) ∙ ap (λ o. if has_number line k (item_at items i) then Some i else o) (g k) ∙ ap (λ n. last_with line items n k) (sym (add-one i))

-- ---- the next ones

pub read_more : (table : List (Option ℕ)) (n : ℕ) (d new old : Option ℕ) → n < length table → new ≡ or_else (get_or table n d) old → new ≡ or_else (look table n) old
read_more table n d new old w is = is ∙ ap (λ o. or_else o old) (same_get table n d None w)

pub next_more : (f : ℕ → Option ℕ) (count turn : ℕ) (new old : Option ℕ) → turn < count → new ≡ or_else (f (count - 1 - turn)) old
    → old ≡ first_from f turn (count - turn) → new ≡ first_from f (turn + 1) (count - (turn + 1))
next_more f count turn new old w is was =
    let number = count - 1 - turn in
    let up : count - turn ≡ suc number = omega (arith, w) in
    let same : number ≡ count - (turn + 1) = omega (arith, w) in
    is ∙ ap (or_else (f number)) (was ∙ ap (first_from f turn) up) ∙ ap (λ m. first_from f m number) (sym (add-one turn)) ∙ ap (first_from f (turn + 1)) same

pub nexts_more : (f : ℕ → Option ℕ) (count turn : ℕ) (new : Option ℕ) (table : List (Option ℕ)) → turn < count → length table ≡ count
    → new ≡ first_from f (turn + 1) (count - (turn + 1)) → ((k : ℕ) → count - turn ≤ k → look table k ≡ next_from f count k)
    → (k : ℕ) → count - (turn + 1) ≤ k → look (set table (count - 1 - turn) new) k ≡ next_from f count k
nexts_more f count turn new table w size is was k low = by (cases_eq k (count - 1 - turn))
  where
    by : (k ≡ count - 1 - turn) ⊎ (k ≡ count - 1 - turn → ⊥) → look (set table (count - 1 - turn) new) k ≡ next_from f count k
    by (inl e) =
        let many : turn + 1 ≡ count - k = omega (arith, e, w) in
        let from : count - (turn + 1) ≡ k = omega (arith, e, w) in
        ap (look (set table (count - 1 - turn) new)) e ∙ set_here table (count - 1 - turn) new (omega (arith, w, size))
        ∙ is ∙ ap (first_from f (turn + 1)) from ∙ ap (λ m. first_from f m k) many
    by (inr other) = set_there table (count - 1 - turn) k new other ∙ was k (omega (arith, low, other))

pub nexts_none : (f : ℕ → Option ℕ) (count : ℕ) (table : List (Option ℕ)) → ((k : ℕ) → look table k ≡ None) → (k : ℕ) → count - 0 ≤ k → look table k ≡ next_from f count k
nexts_none f count table none k low = let e : 0 ≡ count - k = omega (arith, low) in none k ∙ ap (λ m. first_from f m k) e

-- ---- edges

pub edges_more : (f : ℕ → List Edge) (new old begun : List Edge) (i : ℕ) → new ≡ old ++ f i → old ≡ begun ++ edges_upto f i
    → new ≡ begun ++ edges_upto f (i + 1)
edges_more f new old begun i added so_far =
    added ∙ ap (λ r. r ++ f i) so_far ∙ append_assoc begun (edges_upto f i) (f i) ∙ ap (λ n. begun ++ edges_upto f n) (sym (add-one i))

pub items_more : (g : ℕ → SourceEvent → List Edge) (items : List SourceEvent) (i : ℕ) (d : SourceEvent) (new old begun : List Edge) → i < length items
    → new ≡ old ++ g i (get_or items i d) → old ≡ begun ++ edges_upto (λ k. g k (item_at items k)) i
    → new ≡ begun ++ edges_upto (λ k. g k (item_at items k)) (i + 1)
items_more g items i d new old begun w added so_far =
    edges_more (λ k. g k (item_at items k)) new old begun i (added ∙ ap (λ x. old ++ g i x) (item_is items i d w)) so_far

pub ones_more : (pairing : Pairing) (items : List SourceEvent) (turn at : ℕ) (d : SourceEvent) (m : Option Mark) (new old : Key → Option ℕ)
    → at ≡ at_turn pairing (length items) turn → at < length items → m ≡ marked pairing (get_or items at d)
    → ((key : Key) → new key ≡ (if is_one_at m key then Some at else old key)) → ((key : Key) → old key ≡ last_one pairing items turn key)
    → (key : Key) → new key ≡ last_one pairing items (turn + 1) key
ones_more pairing items turn at d m new old here w mark_is f g key =
    f key ∙ ap (λ u. if is_one_at u key then Some at else old key) (mark_is ∙ ap (marked pairing) (item_is items at d w))
    ∙ ap (λ u. if is_one_at (marked pairing (item_at items u)) key then Some u else old key) here
    ∙ ap (λ o. if is_one_at (mark_at pairing items turn) key then Some (at_turn pairing (length items) turn) else o) (g key)
    ∙ ap (λ n. last_one pairing items n key) (sym (add-one turn))

pub linked_more : (pairing : Pairing) (items : List SourceEvent) (turn at : ℕ) (d : SourceEvent) (m : Option Mark) (ones : Key → Option ℕ) (new old begun : List Edge)
    → at ≡ at_turn pairing (length items) turn → at < length items → m ≡ marked pairing (get_or items at d)
    → new ≡ old ++ link_if pairing m ones at → ((key : Key) → ones key ≡ last_one pairing items turn key)
    → old ≡ begun ++ keyed_edges pairing items turn → new ≡ begun ++ keyed_edges pairing items (turn + 1)
linked_more pairing items turn at d m ones new old begun here w mark_is added tells so_far =
    edges_more (keyed_at pairing items) new old begun turn
    (added ∙ ap (λ u. old ++ link_if pairing u ones at) (mark_is ∙ ap (marked pairing) (item_is items at d w))
    ∙ ap (λ u. old ++ link_if pairing (marked pairing (item_at items u)) ones u) here
    ∙ ap (λ f. old ++ link_if pairing (mark_at pairing items turn) f (at_turn pairing (length items) turn)) (fun_ext tells))
    so_far

-- ---- requests

pub steps_more : (node : ℕ) (journal : List Entry) (i : ℕ) (d : Entry) (new old : List Step) (count : ℕ) → i < length journal
    → new ≡ old ++ step_if node count (get_or journal i d) → count ≡ arrivals node (reverse (take i journal))
    → old ≡ steps_before node (reverse (take i journal)) → new ≡ steps_before node (reverse (take (i + 1) journal))
steps_more node journal i d new old count w added counted listed =
    added ∙ ap₂ (λ r c. r ++ step_if node c (get_or journal i d)) listed counted ∙ ap (steps_before node) (sym (past_next journal i d w))

counts_arrival : (node : ℕ) (entry : Entry) (past : List Entry) → arrivals_with node (arrivals node past) entry ≡ arrivals node (entry ∷ past)
counts_arrival node (Arrived other stores) past = refl
counts_arrival node (Issued _ _ _) past = refl
counts_arrival node (Delivered _ _ _ _) past = refl
counts_arrival node (Waited _ _) past = refl
counts_arrival node (Passed _) past = refl
counts_arrival node (Finished _ _) past = refl

pub arrivals_more : (node : ℕ) (journal : List Entry) (i : ℕ) (d : Entry) (after count : ℕ) → i < length journal
    → after ≡ arrivals_with node count (get_or journal i d) → count ≡ arrivals node (reverse (take i journal))
    → after ≡ arrivals node (reverse (take (i + 1) journal))
arrivals_more node journal i d after count w is counted =
    is ∙ ap (λ c. arrivals_with node c (get_or journal i d)) counted ∙ counts_arrival node (get_or journal i d) (reverse (take i journal))
    ∙ ap (arrivals node) (sym (past_next journal i d w))

pub arrivals_low : (node : ℕ) (entry : Entry) (after count i : ℕ) → after ≡ arrivals_with node count entry → count ≤ i → after ≤ i + 1
arrivals_low node entry after count i is low = by (is_arrival node entry) is
  where
    by : (b : Bool) → after ≡ (if b then count + 1 else count) → after ≤ i + 1
    by true e = omega (arith, e, low)
    by false e = omega (arith, e, low)

-- ---- releases that wait for stores

pub record AreStored (nodes i : ℕ) (past : List Entry) (releases : List (Option ℕ)) (counts : List ℕ) (table : List (Option ℕ)) : Type 0 where
  pub nodes_are : length counts ≡ nodes
  pub counts_are : (node : ℕ) → node < nodes → slice_index counts node ≡ arrivals node past
  pub few : (node : ℕ) → node < nodes → slice_index counts node ≤ i
  pub size : length table ≡ length releases
  pub noted : (m : ℕ) → look table m ≡ stored past (look releases) m

pub none_stored : (nodes : ℕ) (releases : List (Option ℕ)) (counts : List ℕ) (table : List (Option ℕ)) → length counts ≡ nodes
    → ((node : ℕ) → slice_index counts node ≡ 0) → length table ≡ length releases → ((m : ℕ) → look table m ≡ None) → AreStored nodes 0 [] releases counts table
none_stored nodes releases counts table all none size empty = record {
  nodes_are = all;
  counts_are = λ node w. none node;
  few = λ node w. let n = none node in omega (arith, n);
  size = size;
  noted = empty;
}

stays : (nodes i : ℕ) (past : List Entry) (releases : List (Option ℕ)) (counts : List ℕ) (table : List (Option ℕ)) (entry : Entry)
    → AreStored nodes i past releases counts table → ((node : ℕ) → arrivals node (entry ∷ past) ≡ arrivals node past)
    → ((m : ℕ) → stores_at m (entry ∷ past) ≡ stores_at m past) → AreStored nodes (i + 1) (entry ∷ past) releases counts table
stays nodes i past releases counts table entry s same all = record {
  nodes_are = s.nodes_are;
  counts_are = λ node w. s.counts_are node w ∙ sym (same node);
  few = λ node w. let f = s.few node w in omega (arith, f);
  size = s.size;
  noted = λ m. s.noted m ∙ ap (λ b. if b then look releases m else None) (sym (all m));
}

pub no_arrival : (nodes i : ℕ) (past : List Entry) (releases : List (Option ℕ)) (counts : List ℕ) (table : List (Option ℕ)) (entry : Entry)
    → AreStored nodes i past releases counts table → ((node : ℕ) (stores : Bool) → entry ≡ Arrived node stores → ⊥)
    → AreStored nodes (i + 1) (entry ∷ past) releases counts table
no_arrival nodes i past releases counts table (Arrived node stores) s never = absurd (never node stores refl)
no_arrival nodes i past releases counts table (Issued _ _ _) s never = stays nodes i past releases counts table _ s (λ p. refl) (λ m. refl)
no_arrival nodes i past releases counts table (Delivered _ _ _ _) s never = stays nodes i past releases counts table _ s (λ p. refl) (λ m. refl)
no_arrival nodes i past releases counts table (Waited _ _) s never = stays nodes i past releases counts table _ s (λ p. refl) (λ m. refl)
no_arrival nodes i past releases counts table (Passed _) s never = stays nodes i past releases counts table _ s (λ p. refl) (λ m. refl)
no_arrival nodes i past releases counts table (Finished _ _) s never = stays nodes i past releases counts table _ s (λ p. refl) (λ m. refl)

pub one_arrival : (nodes i : ℕ) (past : List Entry) (releases : List (Option ℕ)) (counts : List ℕ) (old new : List (Option ℕ)) (node v : ℕ) (stores : Bool)
    → AreStored nodes i past releases counts old → node < nodes → v ≡ slice_index counts node → length new ≡ length releases
    → ((m : ℕ) → look new m ≡ (if stores && ((v + 1) == m) then look releases m else look old m))
    → AreStored nodes (i + 1) (Arrived node stores ∷ past) releases (set counts node (v + 1)) new
one_arrival nodes i past releases counts old new node v stores s within here size is = record {
  nodes_are = length-set _ _ _ ∙ s.nodes_are;
  counts_are = λ other w. count other w (eqb_tells node other);
  few = λ other w. low other w (eqb_tells node other);
  size = size;
  noted = λ m. is m ∙ ap (λ o. if stores && ((v + 1) == m) then look releases m else o) (s.noted m)
      ∙ either (stores && ((v + 1) == m)) (stores_at m past) (look releases m)
      ∙ ap (λ k. if (stores && ((k + 1) == m)) || stores_at m past then look releases m else None) (here ∙ s.counts_are node within);
}
  where
    inside : node < length counts
    inside = let l = s.nodes_are in omega (arith, within, l)

    count : (other : ℕ) → other < nodes → ((eqb node other ≡ true) × (node ≡ other)) ⊎ ((eqb node other ≡ false) × (node ≢ other))
        → slice_index (set counts node (v + 1)) other ≡ (if node == other then arrivals other past + 1 else arrivals other past)
    count other w (inl p) =
        ap (slice_index (set counts node (v + 1))) (sym p.1) ∙ get_or-set_same counts node (v + 1) 0 inside
        ∙ ap (λ k. k + 1) (here ∙ s.counts_are node within ∙ ap (λ q. arrivals q past) p.1) ∙ sym (if_true (node == other) _ _ p.0)
    count other w (inr p) = get_or-set_other counts node other (v + 1) 0 (λ e. p.1 (sym e)) ∙ s.counts_are other w ∙ sym (if_false (node == other) _ _ p.0)

    low : (other : ℕ) → other < nodes → ((eqb node other ≡ true) × (node ≡ other)) ⊎ ((eqb node other ≡ false) × (node ≢ other))
        → slice_index (set counts node (v + 1)) other ≤ i + 1
    low other w (inl p) =
        let same = ap (slice_index (set counts node (v + 1))) (sym p.1) ∙ get_or-set_same counts node (v + 1) 0 inside in
        let f = s.few node within in omega (arith, same, here, f)
    low other w (inr p) =
        let same = get_or-set_other counts node other (v + 1) 0 (λ e. p.1 (sym e)) in
        let f = s.few other w in omega (arith, same, f)

    either : (a b : Bool) (x : Option ℕ) → (if a then x else (if b then x else None)) ≡ (if a || b then x else None)
    either true b x = refl
    either false b x = refl

-- a node with this number
pub on_node : (nodes node : ℕ) (stores : Bool) (entry : Entry) → entry ≡ Arrived node stores → IsOn nodes entry → node < nodes
on_node nodes node stores entry e on = subst (IsOn nodes) e on

-- ---- tables

passes_low : (node : ℕ) (past : List Entry) → passes node past ≤ length past
passes_low node [] = omega arith
passes_low node (Passed other ∷ past) = by (other == node) (passes_low node past)
  where
    by : (b : Bool) → passes node past ≤ length past → (if b then passes node past + 1 else passes node past) ≤ suc (length past)
    by true l = omega (arith, l)
    by false l = omega (arith, l)
passes_low node (Issued _ _ _ ∷ past) = let l = passes_low node past in omega (arith, l)
passes_low node (Delivered _ _ _ _ ∷ past) = let l = passes_low node past in omega (arith, l)
passes_low node (Waited _ _ ∷ past) = let l = passes_low node past in omega (arith, l)
passes_low node (Arrived _ _ ∷ past) = let l = passes_low node past in omega (arith, l)
passes_low node (Finished _ _ ∷ past) = let l = passes_low node past in omega (arith, l)

released_low : (past : List Entry) → released past ≤ length past
released_low [] = omega arith
released_low (Passed node ∷ past) = let l = released_low past in let m = passes_low node past in omega (arith, l, m)
released_low (Issued _ _ _ ∷ past) = let l = released_low past in omega (arith, l)
released_low (Delivered _ _ _ _ ∷ past) = let l = released_low past in omega (arith, l)
released_low (Waited _ _ ∷ past) = let l = released_low past in omega (arith, l)
released_low (Arrived _ _ ∷ past) = let l = released_low past in omega (arith, l)
released_low (Finished _ _ ∷ past) = let l = released_low past in omega (arith, l)

pub few_releases : (journal : List Entry) → released (reverse journal) ≤ length journal
few_releases journal = let l = released_low (reverse journal) in let m = length-reverse journal in omega (arith, l, m)

pub same_releases : (past : List Entry) (items : List SourceEvent) (last : ℕ) (line : Line) (table waits stores : List (Option ℕ)) → last ≡ released past
    → line ≡ record { kind = Releases; node = 0; last = last } → Tells table (suc line.last) (position line items)
    → Tells waits (length table) (stored past (look table)) → Tells stores (length waits) (next_from (look waits) (length waits))
    → record { last = last; items = look table; stores = look stores } ≡ releases_of past items
same_releases past items last line table waits stores e l t w s =
    let size : length waits ≡ suc (released past) = w.size ∙ t.size ∙ ap (λ (u : Line). suc u.last) l ∙ ap suc e in
    let at : look table ≡ position (all_releases_line past) items = t.tells ∙ ap (λ u. position u items) (l ∙ ap (λ n. record { kind = Releases; node = 0; last = n }) e) in
    let next : look stores ≡ next_from (stored past (position (all_releases_line past) items)) (suc (released past)) =
    s.tells ∙ ap₂ next_from (w.tells ∙ ap (stored past) at) size in
    ap (λ n. record { last = n; items = look table; stores = look stores }) e
    ∙ ap (λ f. record { last = released past; items = f; stores = look stores }) at
    ∙ ap (λ f. record { last = released past; items = position (all_releases_line past) items; stores = f }) next

pub same_node : (past : List Entry) (items : List SourceEvent) (node last : ℕ) (steps : List Step) (own issues syncs nexts : List (Option ℕ))
    → steps ≡ steps_of node past → suc last ≡ length steps
    → Tells own (suc last) (position (record { kind = Own; node = node; last = last }) items)
    → Tells issues (suc last) (position (record { kind = Issues; node = node; last = last }) items)
    → Tells syncs (suc last) (position (record { kind = Syncs; node = node; last = last }) items)
    → Tells nexts (length syncs) (next_from (look syncs) (length syncs))
    → record { node = node; last = last; steps = steps; own = look own; issues = look issues; syncs = look nexts } ≡ node_at past items node
same_node past items node last steps own issues syncs nexts s l o i y n =
    let count = steps_length node past in
    let size = ap length s in
    let e : last ≡ requested node past = omega (arith, l, count, size) in
    let next : look nexts ≡ next_from (position (line_in past node Syncs) items) (suc (requested node past)) =
    n.tells ∙ ap₂ next_from (y.tells ∙ ap (λ u. position (record { kind = Syncs; node = node; last = u }) items) e) (y.size ∙ ap suc e) in
    ap (λ u. record { node = node; last = u; steps = steps; own = look own; issues = look issues; syncs = look nexts }) e
    ∙ ap (λ u. record { node = node; last = requested node past; steps = u; own = look own; issues = look issues; syncs = look nexts }) s
    ∙ ap (λ f. record { node = node; last = requested node past; steps = steps_of node past; own = f; issues = look issues; syncs = look nexts })
    (o.tells ∙ ap (λ u. position (record { kind = Own; node = node; last = u }) items) e)
    ∙ ap (λ f. record { node = node; last = requested node past; steps = steps_of node past; own = position (line_in past node Own) items; issues = f; syncs = look nexts })
    (i.tells ∙ ap (λ u. position (record { kind = Issues; node = node; last = u }) items) e)
    ∙ ap (λ f. record { node = node; last = requested node past; steps = steps_of node past; own = position (line_in past node Own) items; issues = position (line_in past node Issues) items; syncs = f })
    next

-- ---- all edges

pub nodes_more : (past : List Entry) (items : List SourceEvent) (node : ℕ) (r : ReleasesAt) (n : NodeAt) (new old begun : List Edge) → r ≡ releases_of past items
    → n ≡ node_at past items node → new ≡ old ++ node_edges r n items (length items) → old ≡ begun ++ nodes_edges past items node
    → new ≡ begun ++ nodes_edges past items (node + 1)
nodes_more past items node r n new old begun e f added so_far =
    edges_more (λ p. node_edges (releases_of past items) (node_at past items p) items (length items)) new old begun node
    (added ∙ ap (λ u. old ++ node_edges u n items (length items)) e ∙ ap (λ u. old ++ node_edges (releases_of past items) u items (length items)) f) so_far

pub all_more : (past : List Entry) (nodes : ℕ) (items : List SourceEvent) (r : ReleasesAt) (none one two three four five : List Edge) → r ≡ releases_of past items
    → none ≡ [] → one ≡ none ++ release_edges r items (length items) → two ≡ one ++ nodes_edges past items nodes
    → three ≡ two ++ keyed_edges Copied items (length items) → four ≡ three ++ keyed_edges LastWrite items (length items)
    → five ≡ four ++ keyed_edges NextWrite items (length items) → five ≡ all_edges past nodes items
all_more past nodes items r none one two three four five is e a b c d f =
    let A = release_edges (releases_of past items) items (length items) in
    let B = nodes_edges past items nodes in
    let C = keyed_edges Copied items (length items) in
    let D = keyed_edges LastWrite items (length items) in
    let E = keyed_edges NextWrite items (length items) in
    let a2 : one ≡ A = a ∙ ap (λ u. u ++ release_edges r items (length items)) e ∙ ap (λ u. release_edges u items (length items)) is in
    f ∙ ap (λ u. u ++ E) (d ∙ ap (λ u. u ++ D) (c ∙ ap (λ u. u ++ C) (b ∙ ap (λ u. u ++ B) a2)))
    ∙ append_assoc ((A ++ B) ++ C) D E ∙ append_assoc (A ++ B) C (D ++ E) ∙ append_assoc A B (C ++ (D ++ E))
