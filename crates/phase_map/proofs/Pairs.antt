-- Rows of sites and pairs of sites, one after another.
use Rattle.std.proofs.Common.{◌≡◌, ◌⊎◌, ◌↔◌, ℕ, ◌+◌, ◌<◌, ◌≤◌, List, Bool, true, false, Some, length, get_or, refl, sym, ap, ◌∙◌, subst, inl, inr, ⊎_elim, arith}
use Rattle.std.proofs.Math.ListN.{set}
use Rattle.std.proofs.lemmas.Bool.{cases_eq, cases_lt, cases_Bool, both_ways}
use Rattle.site_graph.specs.declared.point.PointKind.TheVariants.{Start, Plain}
use Rattle.site_graph.specs.declared.site.Site.{Site}
use Rattle.site_graph.specs.Bits.{Bits, IsSet, IsOf, IsWith, IsWithCommon, no_bits}
use Rattle.site_graph.specs.Graph.{Graph, IsAt, is_barrier, is_blocking}
use Rattle.site_graph.specs.Kept.{IsFlow, IsSiteOf}
use Rattle.site_graph.specs.Opened.{has}
use Rattle.site_graph.specs.Plans.{Blocks}
use Rattle.site_graph.specs.Ways.{Clear}
use Rattle.site_graph.proofs.Opened.{in_from_has, has_from}
use Rattle.site_graph.proofs.PointKinds.{kind_past}
use Rattle.site_graph.proofs.Starts.{none_of, as_bits}
use Rattle.site_graph.proofs.Ways.{some_site}
use Rattle.site_graph.specs.Reached.{ReachesBy}
use Rattle.phase_map.specs.Noting.{AreBarriers}
use Rattle.phase_map.proofs.Partings.{clear_from, clear_to}
use Rattle.phase_map.specs.Meeting.{Aligned, BeginsPhase, FailToMeet, ArePhases, AllMeet}
use Rattle.phase_map.specs.Phasing.{AreSiteRows, ArePlaces, IsRowFor, ShareBelow, IsMet, IsReachedSite, IsWithPairs}

-- ---- rows of sites

abbrev pub SitesBelow : Graph → (n : ℕ) → Bits → Type 0
SitesBelow graph n bits =
    IsOf 2 (length graph.sites + 1) (λ r a. (a < n) × IsSiteOf graph a × ((r ≡ 0) ⊎ (Blocks graph a → ⊥))) bits

abbrev pub OneExplicit : Graph → (a b : ℕ) → Type 0
OneExplicit graph a b = (Blocks graph a → ⊥) ⊎ (Blocks graph b → ⊥)

unset_or : (bits : Bits) (r c : ℕ) → IsSet bits r c ⊎ (IsSet bits r c → ⊥)
unset_or bits r c =
    ⊎_elim (λ t. inl (in_from_has bits.set r c t)) (λ f. inr (λ s. both_ways _ f (has_from bits.set r c s))) (cases_Bool (has bits.set r c))

-- the pairs of sites with R, the first of them below n
abbrev pub SiteRows : Graph → (ℕ → ℕ → Type 0) → (n : ℕ) → Bits → Type 0
SiteRows graph R n bits =
    IsOf (length graph.sites + 1) (length graph.sites + 1) (λ a b. (a < n) × (IsSiteOf graph a × IsSiteOf graph b × R a b)) bits

abbrev pub ReachedBelow : (places : List ℕ) → (found : Bits) → (n : ℕ) → Bits → Type 0
ReachedBelow places found n bits = IsOf 1 (length places) (λ r a. (a < n) × IsReachedSite places found r a) bits

pub sites_explicit : (graph : Graph) (n : ℕ) (old mid new : Bits) → IsSiteOf graph n → (Blocks graph n → ⊥) → SitesBelow graph n old → IsWith 0 n old mid → IsWith 1 n mid new
    → SitesBelow graph (n + 1) new
sites_explicit graph n old mid new site none b v w = record {
  same_rows = w.same_rows ∙ (v.same_rows ∙ b.same_rows);
  same_columns = w.same_columns ∙ (v.same_columns ∙ b.same_columns);
  pairs = λ r c. (
    (λ s. ⊎_elim
        (λ o. ⊎_elim (λ p. let (x, y, (l, is, k)) = (b.pairs r c).0 p in (x, y, (omega (arith, l), is, k)))
        (λ (e, f). (omega (arith, e), omega (arith, f, site.1), (omega (arith, f), subst (IsSiteOf graph) (sym f) site, inl e))) ((v.pairs r c).0 o))
        (λ (e, f). (omega (arith, e), omega (arith, f, site.1), (omega (arith, f), subst (IsSiteOf graph) (sym f) site, inr (subst (λ a. Blocks graph a → ⊥) (sym f) none))))
        ((w.pairs r c).0 s)),
    (λ (x, y, (l, is, k)). ⊎_elim
        (λ e. ⊎_elim (λ z. (w.pairs r c).1 (inl ((v.pairs r c).1 (inr (z, e))))) (λ z. (w.pairs r c).1 (inr (omega (arith, x, z), e))) (cases_eq r 0))
        (λ e. (w.pairs r c).1 (inl ((v.pairs r c).1 (inl ((b.pairs r c).1 (x, y, (omega (arith, l, e), is, k))))))) (cases_eq c n)),
  );
}

pub sites_blocking : (graph : Graph) (n : ℕ) (old new : Bits) → IsSiteOf graph n → Blocks graph n → SitesBelow graph n old → IsWith 0 n old new → SitesBelow graph (n + 1) new
sites_blocking graph n old new site blocks b v = record {
  same_rows = v.same_rows ∙ b.same_rows;
  same_columns = v.same_columns ∙ b.same_columns;
  pairs = λ r c. (
    (λ s. ⊎_elim (λ p. let (x, y, (l, is, k)) = (b.pairs r c).0 p in (x, y, (omega (arith, l), is, k)))
        (λ (e, f). (omega (arith, e), omega (arith, f, site.1), (omega (arith, f), subst (IsSiteOf graph) (sym f) site, inl e))) ((v.pairs r c).0 s)),
    (λ (x, y, (l, is, k)). ⊎_elim
        (λ e. ⊎_elim (λ z. (v.pairs r c).1 (inr (z, e))) (λ none. absurd (none (subst (Blocks graph) (sym e) blocks))) k)
        (λ e. (v.pairs r c).1 (inl ((b.pairs r c).1 (x, y, (omega (arith, l, e), is, k))))) (cases_eq c n)),
  );
}

pub sites_all : (graph : Graph) (n : ℕ) (bits : Bits) → length graph.sites + 1 ≤ n → SitesBelow graph n bits → AreSiteRows graph bits
sites_all graph n bits l b =
    as_bits 2 (length graph.sites + 1) (λ r a. (a < n) × IsSiteOf graph a × ((r ≡ 0) ⊎ (Blocks graph a → ⊥)))
    (λ r a. IsSiteOf graph a × ((r ≡ 0) ⊎ (Blocks graph a → ⊥))) bits b
    (λ r c h k (x, is, q). (is, q)) (λ r c h k (is, q). (omega (arith, k, l), is, q))

pub no_site_rows : (graph : Graph) (n : ℕ) (bits : Bits) → n ≡ length graph.sites + 1 → bits ≡ no_bits 2 n → SitesBelow graph 1 bits
no_site_rows graph n bits l e =
    none_of 2 (length graph.sites + 1) (λ r a. (a < 1) × IsSiteOf graph a × ((r ≡ 0) ⊎ (Blocks graph a → ⊥))) bits (e ∙ ap (no_bits 2) l)
    (λ r c h k (x, is, q). omega (arith, x, is.0))

-- ---- pairs of sites, row after row

pub no_pairs : (graph : Graph) (R : ℕ → ℕ → Type 0) (n m : ℕ) (bits : Bits) → n ≡ length graph.sites + 1 → m ≡ length graph.sites + 1 → bits ≡ no_bits n m → SiteRows graph R 1 bits
no_pairs graph R n m bits l k e =
    none_of (length graph.sites + 1) (length graph.sites + 1) (λ a b. (a < 1) × (IsSiteOf graph a × IsSiteOf graph b × R a b)) bits
    (e ∙ (ap (λ x. no_bits x m) l ∙ ap (no_bits (length graph.sites + 1)) k)) (λ r c h j (x, (is, js, q)). omega (arith, x, is.0))

pub rows_more : (graph : Graph) (R : ℕ → ℕ → Type 0) (n row : ℕ) (sites old new : Bits) → IsSiteOf graph n → ((c : ℕ) → IsSet sites row c ↔ (IsSiteOf graph c × R n c))
    → SiteRows graph R n old → IsWithCommon n sites row sites row old new → SiteRows graph R (n + 1) new
rows_more graph R n row sites old new site partners b w = record {
  same_rows = w.same_rows ∙ b.same_rows;
  same_columns = w.same_columns ∙ b.same_columns;
  pairs = λ r c. (
    (λ s. ⊎_elim (λ o. let (x, y, (l, more)) = (b.pairs r c).0 o in (x, y, (omega (arith, l), more)))
        (λ (e, t, u). let (is, q) = (partners c).0 t in (
          omega (arith, e, site.1),
          omega (arith, is.1),
          (omega (arith, e), (subst (IsSiteOf graph) (sym e) site, is, subst (λ a. R a c) (sym e) q)),
        ))
        ((w.pairs r c).0 s)),
    (λ (x, y, (l, (is, js, q))). ⊎_elim
        (λ e. let t = (partners c).1 (js, subst (λ a. R a c) e q) in (w.pairs r c).1 (inr (e, t, t)))
        (λ e. (w.pairs r c).1 (inl ((b.pairs r c).1 (x, y, (omega (arith, l, e), (is, js, q)))))) (cases_eq r n)),
  );
}

pub all_partners : (graph : Graph) (sites : Bits) → AreSiteRows graph sites → (c : ℕ) → IsSet sites 0 c ↔ (IsSiteOf graph c × Unit {0})
all_partners graph sites b c = (
  (λ s. let (x, y, (is, k)) = (b.pairs 0 c).0 s in (is, tt)),
  (λ (is, u). (b.pairs 0 c).1 (omega arith, omega (arith, is.1), (is, inl refl))),
)

pub own_partners : (graph : Graph) (sites : Bits) (a row : ℕ) → AreSiteRows graph sites → IsRowFor graph a row → (c : ℕ) → IsSet sites row c ↔ (IsSiteOf graph c × OneExplicit graph a c)
own_partners graph sites a row b (inl (blocks, e)) c = (
  (λ s. let (x, y, (is, k)) = (b.pairs row c).0 s in (is, ⊎_elim (λ z. absurd (omega (arith, e, z))) (λ none. inr none) k)),
  (λ (is, k). (b.pairs row c).1 (omega (arith, e), omega (arith, is.1), (is, ⊎_elim (λ none. absurd (none blocks)) (λ none. inr none) k))),
)
own_partners graph sites a row b (inr (none, e)) c = (
  (λ s. let (x, y, (is, k)) = (b.pairs row c).0 s in (is, inl none)),
  (λ (is, k). (b.pairs row c).1 (omega (arith, e), omega (arith, is.1), (is, inl e))),
)

pub all_pairs : (graph : Graph) (n : ℕ) (bits : Bits) → length graph.sites + 1 ≤ n → SiteRows graph (λ a b. Unit {0}) n bits → AllMeet graph bits
all_pairs graph n bits l b = record {
  meets_is = as_bits (length graph.sites + 1) (length graph.sites + 1) (λ a b. (a < n) × (IsSiteOf graph a × IsSiteOf graph b × Unit {0}))
      (λ a b. IsSiteOf graph a × IsSiteOf graph b) bits b (λ r c h k (x, (is, js, u)). (is, js)) (λ r c h k (is, js). (omega (arith, h, l), (is, js, tt)));
}

pub own_pairs : (graph : Graph) (n : ℕ) (bits : Bits) → length graph.sites + 1 ≤ n → SiteRows graph (OneExplicit graph) n bits
    → IsOf (length graph.sites + 1) (length graph.sites + 1) (IsMet graph 0) bits
own_pairs graph n bits l b =
    as_bits (length graph.sites + 1) (length graph.sites + 1) (λ a b. (a < n) × (IsSiteOf graph a × IsSiteOf graph b × OneExplicit graph a b)) (IsMet graph 0) bits b
    (λ r c h k (x, (is, js, q)). (is, js, ⊎_elim (λ none. inl none) (λ none. inr (inl none)) q))
    (λ r c h k (is, js, q). (
      omega (arith, h, l),
      (is, js, ⊎_elim (λ none. inl none) (λ more. ⊎_elim (λ none. inr none) (λ share. absurd (omega (arith, share.3))) more) q),
    ))

-- ---- the sites of one phase

pub reached_set : (places : List ℕ) (found old new : Bits) (n : ℕ) → 1 ≤ n → n < length places → IsSet found 0 (get_or places n 0) → ReachedBelow places found n old
    → IsWith 0 n old new → ReachedBelow places found (n + 1) new
reached_set places found old new n low high here b w = record {
  same_rows = w.same_rows ∙ b.same_rows;
  same_columns = w.same_columns ∙ b.same_columns;
  pairs = λ r c. (
    (λ s. ⊎_elim (λ o. let (x, y, (l, k)) = (b.pairs r c).0 o in (x, y, (omega (arith, l), k)))
        (λ (e, f). (omega (arith, e), omega (arith, f, high), (omega (arith, f), (omega (arith, f, low), subst (λ a. IsSet found 0 (get_or places a 0)) (sym f) here))))
        ((w.pairs r c).0 s)),
    (λ (x, y, (l, k)). ⊎_elim (λ e. (w.pairs r c).1 (inr (omega (arith, x), e)))
        (λ e. (w.pairs r c).1 (inl ((b.pairs r c).1 (x, y, (omega (arith, l, e), k))))) (cases_eq c n)),
  );
}

pub reached_left : (places : List ℕ) (found bits : Bits) (n : ℕ) → (IsSet found 0 (get_or places n 0) → ⊥) → ReachedBelow places found n bits → ReachedBelow places found (n + 1) bits
reached_left places found bits n none b =
    as_bits 1 (length places) (λ r a. (a < n) × IsReachedSite places found r a) (λ r a. (a < n + 1) × IsReachedSite places found r a) bits b
    (λ r c h k (l, q). (omega (arith, l), q))
    (λ r c h k (l, q). ⊎_elim (λ e. absurd (none (subst (λ a. IsSet found 0 (get_or places a 0)) e q.1))) (λ e. (omega (arith, l, e), q)) (cases_eq c n))

pub reached_all : (places : List ℕ) (found bits : Bits) (n : ℕ) → length places ≤ n → ReachedBelow places found n bits → IsOf 1 (length places) (IsReachedSite places found) bits
reached_all places found bits n l b =
    as_bits 1 (length places) (λ r a. (a < n) × IsReachedSite places found r a) (IsReachedSite places found) bits b
    (λ r c h k (x, q). q) (λ r c h k q. (omega (arith, k, l), q))

-- the sites of the phase that begins there
reached_sites : (graph : Graph) (places items : List ℕ) (barriers found sites : Bits) (at : ℕ) → IsFlow graph → ArePlaces graph (length graph.points) places → items ≡ places
    → AreBarriers graph barriers → IsOf 1 (length graph.points) (λ r t. ReachesBy graph barriers 0 at t) found → IsOf 1 (length items) (IsReachedSite items found) sites
    → (a : ℕ) → IsSet sites 0 a ↔ ((t : ℕ) × IsAt graph a t × Clear graph at t)
reached_sites graph places items barriers found sites at kept p e b f s a = (
  (λ is.
      let (x, y, (low, set)) = (s.pairs 0 a).0 is in
      let site : IsSiteOf graph a = (low, omega (arith, y, long)) in
      let (t, at_t) = kept.has_point a site in
      let (z, k, way) = (f.pairs 0 (get_or items a 0)).0 set in
      (t, at_t, subst (Clear graph at) (place t at_t) (clear_from graph barriers at (get_or items a 0) b way))),
  (λ (t, at_t, way).
      let site = kept.access_within t a at_t in
      (s.pairs 0 a).1 (
        omega arith,
        omega (arith, site.1, long),
        (site.0, subst (IsSet found 0) (sym (place t at_t)) ((f.pairs 0 t).1 (omega arith, within t at_t, clear_to graph barriers at t b way))),
      )),
)
  where
    long : length items ≡ length graph.sites + 1
    long = ap (λ (xs : List ℕ). length xs) e ∙ p.count

    within : (t : ℕ) → IsAt graph a t → t < length graph.points
    within t is = ⊎_elim (λ l. l) (λ l. absurd (let plain = kind_past graph t l in cc)) (cases_lt t (length graph.points))

    place : (t : ℕ) → IsAt graph a t → get_or items a 0 ≡ t
    place t is = ap (λ (xs : List ℕ). get_or xs a 0) e ∙ p.each a t (within t is) is

pub pairs_more : (sites old now new : Bits) (n : ℕ) → IsSet sites 0 n → IsWithPairs sites n old now → IsWithCommon n sites 0 sites 0 now new → IsWithPairs sites (n + 1) old new
pairs_more sites old now new n here b w = record {
  same_rows = w.same_rows ∙ b.same_rows;
  same_columns = w.same_columns ∙ b.same_columns;
  pairs = λ r c. (
    (λ s. ⊎_elim (λ o. ⊎_elim inl (λ (l, t, u). inr (omega (arith, l), t, u)) ((b.pairs r c).0 o))
        (λ (e, t, u). inr (omega (arith, e), subst (IsSet sites 0) (sym e) here, t)) ((w.pairs r c).0 s)),
    (λ s. ⊎_elim (λ o. (w.pairs r c).1 (inl ((b.pairs r c).1 (inl o))))
        (λ (l, t, u). ⊎_elim (λ e. (w.pairs r c).1 (inr (e, u, u))) (λ e. (w.pairs r c).1 (inl ((b.pairs r c).1 (inr (omega (arith, l, e), t, u))))) (cases_eq r n)) s),
  );
}

pub pairs_left : (sites old now : Bits) (n : ℕ) → (IsSet sites 0 n → ⊥) → IsWithPairs sites n old now → IsWithPairs sites (n + 1) old now
pairs_left sites old now n none b = record {
  same_rows = b.same_rows;
  same_columns = b.same_columns;
  pairs = λ r c. (
    (λ s. ⊎_elim inl (λ (l, t, u). inr (omega (arith, l), t, u)) ((b.pairs r c).0 s)),
    (λ s. ⊎_elim (λ o. (b.pairs r c).1 (inl o))
        (λ (l, t, u). ⊎_elim (λ e. absurd (none (subst (IsSet sites 0) e t))) (λ e. (b.pairs r c).1 (inr (omega (arith, l, e), t, u))) (cases_eq r n)) s),
  );
}

-- ---- phase after phase

abbrev pub AreMet : Graph → (n : ℕ) → Bits → Type 0
AreMet graph n bits = IsOf (length graph.sites + 1) (length graph.sites + 1) (IsMet graph n) bits

pub met_more : (graph : Graph) (places items : List ℕ) (barriers found sites old new : Bits) (n k : ℕ) → IsFlow graph → ArePlaces graph (length graph.points) places → items ≡ places
    → AreBarriers graph barriers → BeginsPhase graph n → IsOf 1 (length graph.points) (λ r t. ReachesBy graph barriers 0 n t) found
    → IsOf 1 (length items) (IsReachedSite items found) sites → k ≡ sites.columns → AreMet graph n old → IsWithPairs sites k old new → AreMet graph (n + 1) new
met_more graph places items barriers found sites old new n k kept p e b begins f s width m w =
    let of = reached_sites graph places items barriers found sites n kept p e b f s in
    record {
      same_rows = w.same_rows ∙ m.same_rows;
      same_columns = w.same_columns ∙ m.same_columns;
      pairs = λ r c. (
        (λ set. ⊎_elim
            (λ o. let (x, y, (is, js, q)) = (m.pairs r c).0 o in (x, y, (is, js, more q)))
            (λ (l, in_r, in_c).
            let (t, at_t, way_t) = (of r).0 in_r in
            let (u, at_u, way_u) = (of c).0 in_c in
            let is = kept.access_within t r at_t in
            let js = kept.access_within u c at_u in
            (omega (arith, is.1), omega (arith, js.1), (is, js, inr (inr (n, t, u, omega arith, begins, at_t, at_u, way_t, way_u)))))
            ((w.pairs r c).0 set)),
        (λ (x, y, (is, js, q)). ⊎_elim
            (λ none. (w.pairs r c).1 (inl ((m.pairs r c).1 (x, y, (is, js, inl none)))))
            (λ rest. ⊎_elim
            (λ none. (w.pairs r c).1 (inl ((m.pairs r c).1 (x, y, (is, js, inr (inl none))))))
            (λ (v, t, u, low, starts, at_t, at_u, way_t, way_u). ⊎_elim
            (λ same.
            let in_r = (of r).1 (t, at_t, subst (λ z. Clear graph z t) same way_t) in
            let in_c = (of c).1 (u, at_u, subst (λ z. Clear graph z u) same way_u) in
            (w.pairs r c).1 (inr (omega (arith, x, width, s.same_columns, ap (λ (xs : List ℕ). length xs) e, p.count), in_r, in_c)))
            (λ other. (w.pairs r c).1 (inl ((m.pairs r c).1 (x, y, (is, js, inr (inr (v, t, u, omega (arith, low, other), starts, at_t, at_u, way_t, way_u)))))))
            (cases_eq v n)) rest) q),
      );
    }
  where
    more : {r c : ℕ} → (Blocks graph r → ⊥) ⊎ ((Blocks graph c → ⊥) ⊎ ShareBelow graph n r c) → (Blocks graph r → ⊥) ⊎ ((Blocks graph c → ⊥) ⊎ ShareBelow graph (n + 1) r c)
    more q = ⊎_elim inl (λ rest. ⊎_elim (λ none. inr (inl none)) (λ (v, t, u, low, starts, at_t, at_u, way_t, way_u). inr (inr (v, t, u, omega (arith, low), starts, at_t, at_u, way_t, way_u))) rest) q

pub met_left : (graph : Graph) (bits : Bits) (n : ℕ) → (BeginsPhase graph n → ⊥) → AreMet graph n bits → AreMet graph (n + 1) bits
met_left graph bits n none m =
    as_bits (length graph.sites + 1) (length graph.sites + 1) (IsMet graph n) (IsMet graph (n + 1)) bits m
    (λ r c h k (is, js, q). (is, js, ⊎_elim inl (λ rest. ⊎_elim (λ x. inr (inl x)) (λ (v, t, u, low, starts, at_t, at_u, way_t, way_u). inr (inr (v, t, u, omega (arith, low), starts, at_t, at_u, way_t, way_u))) rest) q))
    (λ r c h k (is, js, q). (
      is,
      js,
      ⊎_elim inl
          (λ rest. ⊎_elim (λ x. inr (inl x))
          (λ (v, t, u, low, starts, at_t, at_u, way_t, way_u). ⊎_elim (λ e. absurd (none (subst (BeginsPhase graph) e starts)))
          (λ e. inr (inr (v, t, u, omega (arith, low, e), starts, at_t, at_u, way_t, way_u))) (cases_eq v n)) rest) q,
    ))

-- ---- phases

blocks_or : (graph : Graph) (a : ℕ) → IsSiteOf graph a → Blocks graph a ⊎ (Blocks graph a → ⊥)
blocks_or graph a is =
    let (site, at) = some_site graph a is in
    ⊎_elim (λ t. inl (site, at, t))
    (λ f. inr (λ (other, at_other, t).
    let same : Some other ≡ Some site = sym at_other ∙ at in
    let one : other ≡ site = cc in
    both_ways _ f (subst (λ (s : Site). is_blocking s.kind ≡ true) one t)))
    (cases_Bool (is_blocking site.kind))

begins_within : (graph : Graph) (s : ℕ) → BeginsPhase graph s → s < length graph.points
begins_within graph s begins = ⊎_elim (λ l. l)
    (λ l. let plain = kind_past graph s l in
    absurd (⊎_elim (λ start. let c : Plain ≡ Start = sym plain ∙ start in cc) (λ bar. let c : false ≡ true = sym (ap is_barrier plain) ∙ bar in cc) begins))
    (cases_lt s (length graph.points))

pub whole_phases : (graph : Graph) (aligned : Bool) (meets : Bits) → (aligned ≡ true) ↔ Aligned graph → aligned ≡ true → AreMet graph (length graph.points) meets → ArePhases graph aligned meets
whole_phases graph aligned meets are holds m = record {
  aligned_is = are;
  meets_is = as_bits (length graph.sites + 1) (length graph.sites + 1) (IsMet graph (length graph.points))
      (λ a b. IsSiteOf graph a × IsSiteOf graph b × (FailToMeet graph a b → ⊥)) meets m
      (λ r c h k (is, js, q). (
        is,
        js,
        λ fail. ⊎_elim (λ none. none fail.first_blocks)
            (λ rest. ⊎_elim (λ none. none fail.second_blocks)
            (λ (s, t, u, low, begins, at_t, at_u, way_t, way_u). fail.apart t u at_t at_u (s, begins, way_t, way_u)) rest) q,
      ))
      (λ r c h k (is, js, not_failing). (is, js, by_test r c is js not_failing (blocks_or graph r is) (blocks_or graph c js) (share_or r c h k is js)));
}
  where
    share_or : (r c : ℕ) → r < length graph.sites + 1 → c < length graph.sites + 1 → IsSiteOf graph r → IsSiteOf graph c
        → IsSet meets r c ⊎ (ShareBelow graph (length graph.points) r c → ⊥)
    share_or r c h k is js = ⊎_elim inl (λ none. inr (λ share. none ((m.pairs r c).1 (h, k, (is, js, inr (inr share)))))) (unset_or meets r c)

    by_test : (r c : ℕ) → IsSiteOf graph r → IsSiteOf graph c → (FailToMeet graph r c → ⊥) → Blocks graph r ⊎ (Blocks graph r → ⊥) → Blocks graph c ⊎ (Blocks graph c → ⊥)
        → IsSet meets r c ⊎ (ShareBelow graph (length graph.points) r c → ⊥)
        → (Blocks graph r → ⊥) ⊎ ((Blocks graph c → ⊥) ⊎ ShareBelow graph (length graph.points) r c)
    by_test r c is js not_failing (inr none) y z = inl none
    by_test r c is js not_failing (inl x) (inr none) z = inr (inl none)
    by_test r c is js not_failing (inl x) (inl y) (inl set) = let (h, k, (i, j, q)) = (m.pairs r c).0 set in q
    by_test r c is js not_failing (inl x) (inl y) (inr none) = absurd (not_failing (record {
      aligned = are.0 holds;
      first_blocks = x;
      second_blocks = y;
      apart = λ t u at_t at_u (s, begins, way_t, way_u). none (s, t, u, begins_within graph s begins, begins, at_t, at_u, way_t, way_u);
    }))

pub broken_phases : (graph : Graph) (aligned : Bool) (meets : Bits) → (aligned ≡ true) ↔ Aligned graph → aligned ≡ false → AllMeet graph meets → ArePhases graph aligned meets
broken_phases graph aligned meets are fails all = record {
  aligned_is = are;
  meets_is = as_bits (length graph.sites + 1) (length graph.sites + 1) (λ a b. IsSiteOf graph a × IsSiteOf graph b)
      (λ a b. IsSiteOf graph a × IsSiteOf graph b × (FailToMeet graph a b → ⊥)) meets all.meets_is
      (λ r c h k (is, js). (is, js, λ fail. both_ways _ fails (are.1 fail.aligned))) (λ r c h k (is, js, other). (is, js));
}
