-- Plans that wait at first demands, and their laws.
use Rattle.std.proofs.Common.{◌≡◌, ℕ, ◌+◌, ◌<◌, List, [], Bool, false, ltb, length, get_or, replicate, sym, ap, ◌∙◌, subst, ⊎_elim, arith}
use Rattle.std.specs.List.{Contains, All}
use Rattle.std.proofs.lemmas.Bool.{both_ways, cases_lt, false_from_ne_true}
use Rattle.std.proofs.lemmas.List.{get_or_past, get_or-replicate, length-replicate}
use Rattle.std.proofs.lemmas.Option.{slice_get-get_or}
use Rattle.site_graph.specs.Bits.{Bits, IsSet}
use Rattle.site_graph.specs.Graph.{Graph}
use Rattle.site_graph.specs.Rising.{IsRising}
use Rattle.sync_place.specs.Demanding.{AreFirst}
use Rattle.sync_place.specs.Placed.{GoesOneWay, IsPlacedPlan, IsEarlyPlan}
use Rattle.sync_place.specs.Waiting.{GoesByFirst, AreMarks, AreMarked, AreWaitRows}
use Rattle.site_graph.proofs.Members.{in_nil}
use Rattle.sync_place.proofs.Demands.{demand_within, site_within}

-- ---- one-way sites by the first demands

pub one_way_from : (graph : Graph) (delays first : Bits) (site : ℕ) → AreFirst graph delays first → GoesByFirst graph first site → GoesOneWay graph delays site
one_way_from graph delays first site f (w, only) = (
  w,
  λ t d.
      let h = demand_within graph delays site t d.0 in
      only t h.1 ((f.pairs site t).1 (h.0, h.1, d)),
)

pub one_way_to : (graph : Graph) (delays first : Bits) (site : ℕ) → AreFirst graph delays first → GoesOneWay graph delays site → GoesByFirst graph first site
one_way_to graph delays first site f (w, only) = (w, λ t l s. only t ((f.pairs site t).0 s).2)

one_way_within : (graph : Graph) (delays : Bits) (site : ℕ) → GoesOneWay graph delays site → site < length graph.sites + 1
one_way_within graph delays site (w, only) = let h = (site_within graph site w.0 w.1).1 in omega (arith, h)

-- ---- the waits of a point

pub waits_from : (first : Bits) (marks : List Bool) (n : ℕ) (rows : List (List ℕ)) (site t : ℕ) → AreWaitRows first marks n rows → Contains (get_or rows t []) site
    → (t < n) × IsSet first site t × (get_or marks site false ≡ false)
waits_from first marks n rows site t a i = ⊎_elim
    (λ l. let row = a.each t (get_or rows t []) (slice_get-get_or rows t [] l) in
    let q = (row.sites site).0 i in
    (omega (arith, l, a.count), q.1, q.2))
    (λ l. absurd (in_nil site (subst (λ xs. Contains xs site) (get_or_past rows t [] l) i)))
    (cases_lt t (length rows))

pub waits_to : (first : Bits) (marks : List Bool) (n : ℕ) (rows : List (List ℕ)) (site t : ℕ) → AreWaitRows first marks n rows → t < n → site < first.rows → IsSet first site t
    → get_or marks site false ≡ false → Contains (get_or rows t []) site
waits_to first marks n rows site t a l h s m =
    let row = a.each t (get_or rows t []) (slice_get-get_or rows t [] (omega (arith, l, a.count))) in
    (row.sites site).1 (h, s, m)

pub rows_rise : (first : Bits) (marks : List Bool) (n : ℕ) (rows : List (List ℕ)) → AreWaitRows first marks n rows → All (λ row. IsRising ltb row) rows
rows_rise first marks n rows a k d l = (a.each k (get_or rows k d) (slice_get-get_or rows k d l)).rising

-- ---- the plans

pub placed : (graph : Graph) (delays first : Bits) (marks : List Bool) (waits : List (List ℕ)) (oneway : List ℕ) → AreFirst graph delays first
    → AreMarks graph first (length graph.sites + 1) marks → AreWaitRows first marks (length graph.points) waits → AreMarked marks (length marks) oneway
    → IsPlacedPlan graph delays (record { waits = waits; oneway = oneway })
placed graph delays first marks waits oneway f m w o = record {
  listed = record { count = w.count; rising = rows_rise first marks (length graph.points) waits w; oneway_rising = o.rising };
  oneway = λ site. (
    (λ i. let q = (o.sites site).0 i in one_way_from graph delays first site f ((m.each site (omega (arith, q.0, m.count))).0 q.1)),
    (λ g. let l = one_way_within graph delays site g in
        (o.sites site).1 (omega (arith, l, m.count), (m.each site l).1 (one_way_to graph delays first site f g))),
  );
  waits = λ site t. (
    (λ i. let q = waits_from first marks (length graph.points) waits site t w i in
        let d = (f.pairs site t).0 q.1 in
        (d.2, λ g. both_ways _ q.2 ((m.each site d.0).1 (one_way_to graph delays first site f g)))),
    (λ (d, none). let h = demand_within graph delays site t d.0 in
        waits_to first marks (length graph.points) waits site t w h.1 (omega (arith, h.0, f.same_rows)) ((f.pairs site t).1 (h.0, h.1, d))
        (false_from_ne_true _ (λ y. none (one_way_from graph delays first site f ((m.each site h.0).0 y))))),
  );
}

pub none_marked : (n site : ℕ) (marks : List Bool) → marks ≡ replicate n false → get_or marks site false ≡ false
none_marked n site marks e =
    ap (λ xs. get_or xs site false) e
    ∙ ⊎_elim (λ l. get_or-replicate n site false false l) (λ l. get_or_past (replicate n false) site false (omega (arith, length-replicate {A = Bool} n false))) (cases_lt site n)

pub placed_early : (graph : Graph) (delays first : Bits) (n : ℕ) (marks : List Bool) (waits : List (List ℕ)) (oneway : List ℕ) → AreFirst graph delays first
    → marks ≡ replicate n false → AreWaitRows first marks (length graph.points) waits → oneway ≡ [] → IsEarlyPlan graph delays (record { waits = waits; oneway = oneway })
placed_early graph delays first n marks waits oneway f m w o = record {
  listed = record {
    count = w.count;
    rising = rows_rise first marks (length graph.points) waits w;
    oneway_rising = subst (IsRising ltb) (sym o) (λ i j d l h. absurd (omega arith));
  };
  oneway = o;
  waits = λ site t. (
    (λ i. let q = waits_from first marks (length graph.points) waits site t w i in ((f.pairs site t).0 q.1).2),
    (λ d. let h = demand_within graph delays site t d.0 in
        waits_to first marks (length graph.points) waits site t w h.1 (omega (arith, h.0, f.same_rows)) ((f.pairs site t).1 (h.0, h.1, d)) (none_marked n site marks m)),
  );
}
