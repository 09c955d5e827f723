-- Rows of sites, as they are filled point after point and site after site.
use Rattle.std.proofs.Common.{◌≡◌, ◌⊎◌, ℕ, ◌+◌, ◌<◌, ◌≤◌, List, true, false, Some, length, refl, sym, ap, ◌∙◌, subst, inl, inr, ⊎_elim, arith}
use Rattle.std.specs.Prelude.{slice_index}
use Rattle.std.proofs.lemmas.Bool.{cases_eq, cases_lt, both_ways, false_from_ne_true}
use Rattle.site_graph.specs.declared.point.PointKind.TheVariants.{Access}
use Rattle.site_graph.specs.declared.site.Site.{Site}
use Rattle.site_graph.specs.Bits.{Bits, IsSet, IsOf, IsWith, IsWithCommon}
use Rattle.site_graph.specs.Graph.{Graph, kind_at, site_at, IsAt, is_blocking, is_split}
use Rattle.site_graph.specs.Kept.{IsFlow, IsSiteOf}
use Rattle.site_graph.specs.Reached.{ReachesBy}
use Rattle.site_graph.specs.Ways.{Goes, IsOverBefore, Precedes}
use Rattle.site_graph.proofs.Starts.{as_bits, leads_as}
use Rattle.site_graph.proofs.PointKinds.{kind_past}
use Rattle.delay_sets.specs.Preceding.{IsSiteIn, IsWithSites}
use Rattle.delay_sets.specs.Relations.{HasPairs}
use Rattle.delay_sets.specs.ClearSites.{is_stop, AreStops, IsNextSite, IsClearTo, ArePlaces, IsWithPreceded}
use Rattle.delay_sets.proofs.Before.{not_both}

pub point_of : (graph : Graph) (t number : ℕ) → IsAt graph number t → t < length graph.points
point_of graph t number is = ⊎_elim (λ l. l) (λ l. absurd (let plain = kind_past graph t l in cc)) (cases_lt t (length graph.points))

same_number : (graph : Graph) (t a b : ℕ) → IsAt graph a t → IsAt graph b t → a ≡ b
same_number graph t a b is to = let same : Access a ≡ Access b = sym is ∙ to in cc

-- ---- where ways end, point after point

abbrev pub StopsBelow : Graph → (count : ℕ) → Bits → Type 0
StopsBelow graph count bits = IsOf 1 (length graph.points) (λ r t. (t < count) × (is_stop (kind_at graph t) ≡ true)) bits

pub stop_set : (graph : Graph) (old new : Bits) (at : ℕ) → at < length graph.points → is_stop (kind_at graph at) ≡ true → StopsBelow graph at old
    → IsWith 0 at old new → StopsBelow graph (at + 1) new
stop_set graph old new at l is b w = record {
  same_rows = w.same_rows ∙ b.same_rows;
  same_columns = w.same_columns ∙ b.same_columns;
  pairs = λ r t. (
    (λ s. ⊎_elim (λ o. let (x, y, (k, h)) = (b.pairs r t).0 o in (x, y, (omega (arith, k), h)))
        (λ (e, f). (omega (arith, e), omega (arith, f, l), (omega (arith, f), subst (λ u. is_stop (kind_at graph u) ≡ true) (sym f) is))) ((w.pairs r t).0 s)),
    (λ (x, y, (k, h)). (w.pairs r t).1 (⊎_elim (λ e. inr (omega (arith, x), e)) (λ e. inl ((b.pairs r t).1 (x, y, (omega (arith, k, e), h)))) (cases_eq t at))),
  );
}

pub stop_left : (graph : Graph) (bits : Bits) (at : ℕ) → is_stop (kind_at graph at) ≡ false → StopsBelow graph at bits → StopsBelow graph (at + 1) bits
stop_left graph bits at none b =
    as_bits 1 (length graph.points) (λ r t. (t < at) × (is_stop (kind_at graph t) ≡ true)) (λ r t. (t < at + 1) × (is_stop (kind_at graph t) ≡ true)) bits b
    (λ r t h k (l, is). (omega (arith, l), is))
    (λ r t h k (l, is). ⊎_elim (λ e. absurd (both_ways _ (subst (λ u. is_stop (kind_at graph u) ≡ false) (sym e) none) is)) (λ e. (omega (arith, l, e), is)) (cases_eq t at))

pub stops_all : (graph : Graph) (bits : Bits) (n : ℕ) → length graph.points ≤ n → StopsBelow graph n bits → AreStops graph bits
stops_all graph bits n l b =
    as_bits 1 (length graph.points) (λ r t. (t < n) × (is_stop (kind_at graph t) ≡ true)) (λ r t. is_stop (kind_at graph t) ≡ true) bits b
    (λ r t h k (m, is). is) (λ r t h k is. (omega (arith, k, l), is))

-- ---- places

pub place_set : (graph : Graph) (old new : List ℕ) (at number : ℕ) → IsFlow graph → IsAt graph number at → length new ≡ length old → slice_index new number ≡ at
    → ((n : ℕ) → (n ≡ number → ⊥) → slice_index new n ≡ slice_index old n) → ArePlaces graph at old → ArePlaces graph (at + 1) new
place_set graph old new at number kept is long here others p = record {
  long = long ∙ p.long;
  at = λ n t l to. ⊎_elim
      (λ e. (let same = same_number graph at n number (subst (IsAt graph n) e to) is in ap (slice_index new) same ∙ (here ∙ sym e)))
      (λ e. (let below : t < at = omega (arith, l, e) in
      others n (λ same. e (kept.one_point number t at (subst (λ k. IsAt graph k t) same to) is)) ∙ p.at n t below to)) (cases_eq t at);
}

pub place_left : (graph : Graph) (places : List ℕ) (at : ℕ) → ((number : ℕ) → IsAt graph number at → ⊥) → ArePlaces graph at places → ArePlaces graph (at + 1) places
place_left graph places at none p = record {
  long = p.long;
  at = λ n t l to. ⊎_elim (λ e. absurd (none n (subst (IsAt graph n) e to))) (λ e. p.at n t (omega (arith, l, e)) to) (cases_eq t at);
}

pub place_at : (graph : Graph) (places : List ℕ) (number : ℕ) → IsFlow graph → ArePlaces graph (length graph.points) places → IsSiteOf graph number → IsAt graph number (slice_index places number)
place_at graph places number kept p site =
    let t = kept.has_point number site in
    subst (IsAt graph number) (sym (p.at number t.0 (point_of graph t.0 number t.1) t.1)) t.1

-- ---- sites in a row, site after site

module _ (graph : Graph) (over : Bits) (row : ℕ) where
  abbrev pub IsWithBelow : (limit : ℕ) → Bits → Bits → Type 0
  IsWithBelow limit old new = HasPairs old (λ r b. IsSet old r b ⊎ ((r ≡ row) × (b < limit) × IsSiteIn graph over (length graph.points) b)) new

  pub no_site : (bits : Bits) → IsFlow graph → IsWithBelow 1 bits bits
  no_site bits kept = (
    refl,
    refl,
    λ r b. (
      inl,
      λ s. ⊎_elim (λ o. o)
          (λ (e, l, (u, m, is, t)). (let some = kept.access_within u b is in absurd (omega (arith, l, some.0)))) s,
    ),
  )

  pub site_found : (places : List ℕ) (old now new : Bits) (other : ℕ) → IsFlow graph → ArePlaces graph (length graph.points) places → IsSiteOf graph other → IsSet over 0 (slice_index places other)
      → IsWithBelow other old now → IsWith row other now new → IsWithBelow (other + 1) old new
  site_found places old now new other kept p site here (a, b, f) w = (
    w.same_rows ∙ a,
    w.same_columns ∙ b,
    λ r c. (
      (λ s. ⊎_elim (λ o. ⊎_elim inl (λ (e, l, i). inr (e, omega (arith, l), i)) ((f r c).0 o))
          (λ (e, g). (let is = place_at graph places other kept p site in
          inr (e, omega (arith, g), subst (IsSiteIn graph over (length graph.points)) (sym g) (slice_index places other, point_of graph _ other is, is, here))))
          ((w.pairs r c).0 s)),
      (λ s. ⊎_elim (λ o. (w.pairs r c).1 (inl ((f r c).1 (inl o))))
          (λ (e, l, i). ⊎_elim (λ q. (w.pairs r c).1 (inr (e, q))) (λ q. (w.pairs r c).1 (inl ((f r c).1 (inr (e, omega (arith, l, q), i))))) (cases_eq c other)) s),
    ),
  )

  pub site_left : (places : List ℕ) (old now : Bits) (other : ℕ) → ArePlaces graph (length graph.points) places → (IsSet over 0 (slice_index places other) → ⊥)
      → IsWithBelow other old now → IsWithBelow (other + 1) old now
  site_left places old now other p none (a, b, f) = (
    a,
    b,
    λ r c. (
      (λ s. ⊎_elim inl (λ (e, l, i). inr (e, omega (arith, l), i)) ((f r c).0 s)),
      (λ s. ⊎_elim (λ o. (f r c).1 (inl o))
          (λ (e, l, i). ⊎_elim
          (λ q. (let u = subst (IsSiteIn graph over (length graph.points)) q i in
          absurd (none (subst (IsSet over 0) (sym (p.at other u.0 u.1 u.2)) u.3))))
          (λ q. (f r c).1 (inr (e, omega (arith, l, q), i))) (cases_eq c other)) s),
    ),
  )

  pub all_sites : (old new : Bits) (limit : ℕ) → IsFlow graph → length graph.sites + 1 ≤ limit → IsWithBelow limit old new → IsWithSites graph over row (length graph.points) old new
  all_sites old new limit kept le (a, b, f) = (
    a,
    b,
    λ r c. (
      (λ s. ⊎_elim inl (λ (e, l, i). inr (e, i)) ((f r c).0 s)),
      (λ s. ⊎_elim (λ o. (f r c).1 (inl o))
          (λ (e, i). (let few = kept.access_within i.0 c i.2 in (f r c).1 (inr (e, omega (arith, few.1, le), i)))) s),
    ),
  )

-- ---- rows of sites, point after point

module _ (graph : Graph) (R : ℕ → ℕ → Type 0) where
  abbrev Below : (count : ℕ) → (a b : ℕ) → Type 0
  Below count a b = (t : ℕ) × (t < count) × IsAt graph a t × R a b

  abbrev pub AreBelow : (count : ℕ) → Bits → Type 0
  AreBelow count bits = IsOf (length graph.sites + 1) (length graph.sites + 1) (Below count) bits

  pub point_passed : (bits : Bits) (at : ℕ) → ((number : ℕ) → IsAt graph number at → ⊥) → AreBelow at bits → AreBelow (at + 1) bits
  point_passed bits at none p =
      as_bits (length graph.sites + 1) (length graph.sites + 1) (Below at) (Below (at + 1)) bits p
      (λ r c h k (t, l, is, q). (t, omega (arith, l), is, q))
      (λ r c h k (t, l, is, q). ⊎_elim (λ e. absurd (none r (subst (IsAt graph r) e is))) (λ e. (t, omega (arith, l, e), is, q)) (cases_eq t at))

  pub site_passed : (old new : Bits) (at number : ℕ) → IsFlow graph → IsAt graph number at → ((a b : ℕ) → R a b → IsSiteOf graph b)
      → HasPairs old (λ r b. IsSet old r b ⊎ ((r ≡ number) × R r b)) new → AreBelow at old → AreBelow (at + 1) new
  site_passed old new at number kept is within (a, b, f) p = record {
    same_rows = a ∙ p.same_rows;
    same_columns = b ∙ p.same_columns;
    pairs = λ r c. (
      (λ s. ⊎_elim (λ o. let (h, k, (t, m, at_t, q)) = (p.pairs r c).0 o in (h, k, (t, omega (arith, m), at_t, q)))
          (λ (e, q). (let low = kept.access_within at number is in
          let column = within r c q in
          (omega (arith, e, low.1), omega (arith, column.1), (at, omega arith, subst (λ n. IsAt graph n at) (sym e) is, q))))
          ((f r c).0 s)),
      (λ (h, k, (t, m, at_t, q)). ⊎_elim
          (λ e. (f r c).1 (inr (same_number graph at r number (subst (IsAt graph r) e at_t) is, q)))
          (λ e. (f r c).1 (inl ((p.pairs r c).1 (h, k, (t, omega (arith, m, e), at_t, q))))) (cases_eq t at)),
    );
  }

  pub all_passed : (bits : Bits) (n : ℕ) → length graph.points ≤ n → ((a b : ℕ) → R a b → (t : ℕ) × IsAt graph a t) → AreBelow n bits
      → IsOf (length graph.sites + 1) (length graph.sites + 1) R bits
  all_passed bits n le from p =
      as_bits (length graph.sites + 1) (length graph.sites + 1) (Below n) R bits p
      (λ r c h k (t, m, is, q). q)
      (λ r c h k q. (let t = from r c q in let low = point_of graph t.0 r t.1 in (t.0, omega (arith, low, le), t.1, q)))

-- ---- what is added for a site

-- the next ones
open_to : (graph : Graph) (stops : Bits) (z : ℕ) → AreStops graph stops → (IsSet stops 0 z → ⊥) → is_stop (kind_at graph z) ≡ false
open_to graph stops z s h =
    ⊎_elim (λ l. false_from_ne_true _ (λ t. h ((s.pairs 0 z).1 (omega arith, l, t)))) (λ l. ap is_stop (kind_past graph z l)) (cases_lt z (length graph.points))

open_from : (graph : Graph) (stops : Bits) (z : ℕ) → AreStops graph stops → is_stop (kind_at graph z) ≡ false → IsSet stops 0 z → ⊥
open_from graph stops z s f t = let (x, y, e) = (s.pairs 0 z).0 t in both_ways _ f e

pub next_added : (graph : Graph) (stops reached old new : Bits) (at number : ℕ) → IsFlow graph → IsAt graph number at → AreStops graph stops
    → IsOf 1 (length graph.points) (λ r u. ReachesBy graph stops 0 at u) reached → IsWithSites graph reached number (length graph.points) old new
    → HasPairs old (λ r b. IsSet old r b ⊎ ((r ≡ number) × IsNextSite graph r b)) new
next_added graph stops reached old new at number kept is s f (a, b, g) = (
  a,
  b,
  λ r c. (
    (λ i. ⊎_elim inl
        (λ (e, (u, m, to, t)). (let w = (f.pairs 0 u).0 t in
        inr (
          e,
          (
            at,
            u,
            subst (λ n. IsAt graph n at) (sym e) is,
            to,
            leads_as (Goes graph) (λ z. IsSet stops 0 z → ⊥) (λ z. is_stop (kind_at graph z) ≡ false) (λ z h. open_to graph stops z s h) at u w.2,
          ),
        )))
        ((g r c).0 i)),
    (λ i. ⊎_elim (λ o. (g r c).1 (inl o))
        (λ (e, (t, u, from, to, way)).
        (let same : t ≡ at = kept.one_point number t at (subst (λ n. IsAt graph n t) e from) is in
        let low = point_of graph u c to in
        (g r c).1 (inr (
          e,
          (
            u,
            low,
            to,
            (f.pairs 0 u).1 (
              omega arith,
              low,
              subst (λ x. ReachesBy graph stops 0 x u) same
                  (leads_as (Goes graph) (λ z. is_stop (kind_at graph z) ≡ false) (λ z. IsSet stops 0 z → ⊥) (λ z h. open_from graph stops z s h) t u way),
            ),
          ),
        ))))
        i),
  ),
)

pub next_within : (graph : Graph) → IsFlow graph → (a b : ℕ) → IsNextSite graph a b → IsSiteOf graph b
next_within graph kept a b (t, u, from, to, way) = kept.access_within u b to

pub next_begins : (graph : Graph) (a b : ℕ) → IsNextSite graph a b → (t : ℕ) × IsAt graph a t
next_begins graph a b (t, u, from, to, way) = (t, from)

-- those that a blocking site precedes
pub blocking_added : (graph : Graph) (site : Site) (clear old new : Bits) (at number : ℕ) → IsFlow graph → IsAt graph number at → site_at graph number ≡ Some site → is_blocking site.kind ≡ true
    → IsOf (length graph.sites + 1) (length graph.sites + 1) (IsClearTo graph) clear → IsWithCommon number clear number clear number old new
    → IsWithPreceded graph number old new
blocking_added graph site clear old new at number kept is here holds f w = (
  w.same_rows,
  w.same_columns,
  λ r c. (
    (λ i. ⊎_elim inl
        (λ (e, s, s'). (let (h, k, (t, u, from, to, way)) = (f.pairs number c).0 s in
        inr (
          e,
          subst (λ n. Precedes graph n c) (sym e)
              (record { site = site; is_site = here; from = t; is_from = from; to = u; is_to = to; over = inl (holds, way) }),
        )))
        ((w.pairs r c).0 i)),
    (λ i. ⊎_elim (λ o. (w.pairs r c).1 (inl o)) (λ (e, q). let s = set_of c (subst (λ n. Precedes graph n c) e q) in (w.pairs r c).1 (inr (e, s, s))) i),
  ),
)
  where
    set_of : (c : ℕ) → Precedes graph number c → IsSet clear number c
    set_of c q =
        let same : q.site ≡ site = some_same (sym q.is_site ∙ here) in
        let row = kept.access_within at number is in
        let column = kept.access_within q.to c q.is_to in
        (f.pairs number c).1 (
          omega (arith, row.1),
          omega (arith, column.1),
          ⊎_elim (λ (t, way). (q.from, q.to, q.is_from, q.is_to, way))
              (λ (t, z, is, to, way). absurd (both_ways _ (not_both site.kind holds) (subst (λ (s : Site). is_split s.kind ≡ true) same t))) q.over,
        )
      where
        some_same : {x y : Site} → Some x ≡ Some y → x ≡ y
        some_same e = cc

-- and those that another does
pub other_added : (graph : Graph) (site : Site) (over old new : Bits) (at number : ℕ) → IsFlow graph → IsAt graph number at → site_at graph number ≡ Some site
    → IsOf 1 (length graph.points) (λ r u. IsOverBefore graph site at u) over → IsWithSites graph over number (length graph.points) old new
    → IsWithPreceded graph number old new
other_added graph site over old new at number kept is here f (a, b, g) = (
  a,
  b,
  λ r c. (
    (λ i. ⊎_elim inl
        (λ (e, (u, m, to, t)). (let w = (f.pairs 0 u).0 t in
        inr (
          e,
          subst (λ n. Precedes graph n c) (sym e)
              (record { site = site; is_site = here; from = at; is_from = is; to = u; is_to = to; over = w.2 }),
        )))
        ((g r c).0 i)),
    (λ i. ⊎_elim (λ o. (g r c).1 (inl o)) (λ (e, q). (g r c).1 (inr (e, set_of c (subst (λ n. Precedes graph n c) e q)))) i),
  ),
)
  where
    set_of : (c : ℕ) → Precedes graph number c → IsSiteIn graph over (length graph.points) c
    set_of c q =
        let same : q.site ≡ site = some_same (sym q.is_site ∙ here) in
        let from : q.from ≡ at = kept.one_point number q.from at q.is_from is in
        let low = point_of graph q.to c q.is_to in (
          q.to,
          low,
          q.is_to,
          (f.pairs 0 q.to).1 (omega arith, low, subst (λ t. IsOverBefore graph site t q.to) from (subst (λ (s : Site). IsOverBefore graph s q.from q.to) same q.over)),
        )
      where
        some_same : {x y : Site} → Some x ≡ Some y → x ≡ y
        some_same e = cc

pub precedes_within : (graph : Graph) → IsFlow graph → (a b : ℕ) → Precedes graph a b → IsSiteOf graph b
precedes_within graph kept a b q = kept.access_within q.to b q.is_to

pub precedes_begins : (graph : Graph) (a b : ℕ) → Precedes graph a b → (t : ℕ) × IsAt graph a t
precedes_begins graph a b q = (q.from, q.is_from)
