-- Clear ways between sites are chains of ways with no access on them.
use Rattle.std.proofs.Common.{◌≡◌, ◌⊎◌, ℕ, List, [], ◌∷◌, false, ◌+◌, ◌<◌, length, refl, ap, ◌∙◌, subst, inl, inr, ⊎_elim, arith}
use Rattle.effect_order.specs.Flow.{PathBy, LeadsBy}
use Rattle.site_graph.specs.declared.point.PointKind.{PointKind}
use Rattle.site_graph.specs.declared.point.PointKind.TheVariants.{Start, Plain, Access, Sync, Barrier, StoreSync, Call, Return}
use Rattle.site_graph.specs.Bits.{Bits, IsSet, IsOf}
use Rattle.site_graph.specs.Graph.{Graph, kind_at, IsAt, is_barrier}
use Rattle.site_graph.specs.Kept.{IsFlow}
use Rattle.site_graph.specs.Ways.{Goes}
use Rattle.site_graph.proofs.Searching.{leads_further}
use Rattle.site_graph.proofs.Starts.{leads_as}
use Rattle.delay_sets.specs.Relations.{IsClosed}
use Rattle.delay_sets.specs.ClearSites.{is_stop, IsNextSite, IsClearTo}

access_or_not : (kind : PointKind) → is_barrier kind ≡ false → ((n : ℕ) × (kind ≡ Access n)) ⊎ (is_stop kind ≡ false)
access_or_not Start h = inr refl
access_or_not Plain h = inr refl
access_or_not (Access n) h = inl (n, refl)
access_or_not Sync h = inr refl
access_or_not Barrier h = cc
access_or_not StoreSync h = cc
access_or_not Call h = inr refl
access_or_not Return h = inr refl

no_barrier : (kind : PointKind) → is_stop kind ≡ false → is_barrier kind ≡ false
no_barrier Start h = refl
no_barrier Plain h = refl
no_barrier (Access n) h = refl
no_barrier Sync h = refl
no_barrier Barrier h = cc
no_barrier StoreSync h = cc
no_barrier Call h = refl
no_barrier Return h = refl

joined : {S : Type 0} (Goes : S → S → Type 0) (P : S → Type 0) (a : S) (xs : List S) (m b : S) → PathBy Goes P a xs m → P m → LeadsBy Goes P m b → LeadsBy Goes P a b
joined Goes P a [] m b g p way = (m ∷ way.0, (g, p, way.1))
joined Goes P a (x ∷ xs) m b (g, q, rest) p way = let w = joined Goes P x xs m b rest p way in (x ∷ w.0, (g, q, w.1))

module _ (graph : Graph) where
  abbrev Open : ℕ → Type 0
  Open z = is_stop (kind_at graph z) ≡ false

  abbrev Free : ℕ → Type 0
  Free z = is_barrier (kind_at graph z) ≡ false

  -- from the site a at s an open way leads to each point to which an edge leads from x, and a clear one from x to u
  chain : (a s b u x : ℕ) (zs : List ℕ) → IsAt graph a s → IsAt graph b u → ((y : ℕ) → Goes graph x y → LeadsBy (Goes graph) Open s y)
      → PathBy (Goes graph) Free x zs u → LeadsBy (IsNextSite graph) (λ z. Unit {0}) a b
  chain a s b u x [] at to so_far g = ([], (s, u, at, to, so_far u g))
  chain a s b u x (z ∷ zs) at to so_far (g, free, rest) =
      ⊎_elim
      (λ (n, is). (let w = chain n z b u z zs is to (λ y h. ([], h)) rest in (n ∷ w.0, ((s, z, at, is, so_far z g), tt, w.1))))
      (λ passed. chain a s b u z zs at to (λ y h. leads_further (Goes graph) Open s z y (so_far z g) passed h) rest)
      (access_or_not (kind_at graph z) free)

  pub chain_from : (a b : ℕ) → IsClearTo graph a b → LeadsBy (IsNextSite graph) (λ z. Unit {0}) a b
  chain_from a b (s, u, at, to, (zs, path)) = chain a s b u s zs at to (λ y h. ([], h)) path

  clear_next : (a b : ℕ) → IsNextSite graph a b → IsClearTo graph a b
  clear_next a b (t, u, at, to, way) = (t, u, at, to, leads_as (Goes graph) Open Free (λ z h. no_barrier (kind_at graph z) h) t u way)

  chain_to : IsFlow graph → (a : ℕ) (ns : List ℕ) (b : ℕ) → PathBy (IsNextSite graph) (λ z. Unit {0}) a ns b → IsClearTo graph a b
  chain_to kept a [] b next = clear_next a b next
  chain_to kept a (n ∷ ns) b (next, tt, rest) =
      let (t, m, at, at_m, way) = clear_next a n next in
      let (m', u, at_m', to, further) = chain_to kept n ns b rest in
      let same : m' ≡ m = kept.one_point n m' m at_m' at_m in
      let on : LeadsBy (Goes graph) Free m u = subst (λ z. LeadsBy (Goes graph) Free z u) same further in
      (t, u, at, to, joined (Goes graph) Free t way.0 m u way.1 (ap is_barrier at_m) on)

  pub clear_from_chain : IsFlow graph → (a b : ℕ) → LeadsBy (IsNextSite graph) (λ z. Unit {0}) a b → IsClearTo graph a b
  clear_from_chain kept a b (ns, path) = chain_to kept a ns b path

  -- ---- as rows of bits

  path_by : (R Q : ℕ → ℕ → Type 0) → ((a b : ℕ) → R a b → Q a b) → (a : ℕ) (ns : List ℕ) (b : ℕ) → PathBy R (λ z. Unit {0}) a ns b → PathBy Q (λ z. Unit {0}) a ns b
  path_by R Q h a [] b g = h a b g
  path_by R Q h a (n ∷ ns) b (g, t, rest) = (h a n g, t, path_by R Q h n ns b rest)

  low : IsFlow graph → (number t : ℕ) → IsAt graph number t → number < length graph.sites + 1
  low kept number t is = let few = kept.access_within t number is in omega (arith, few.1)

  pub closed_ways : (old new : Bits) → IsFlow graph → IsOf (length graph.sites + 1) (length graph.sites + 1) (IsNextSite graph) old → IsClosed old new
      → IsOf (length graph.sites + 1) (length graph.sites + 1) (IsClearTo graph) new
  closed_ways old new kept f (a, b, g) = record {
    same_rows = a ∙ f.same_rows;
    same_columns = b ∙ f.same_columns;
    pairs = λ r c. (
      (λ s. (let (ns, path) = (g r c).0 s in
          let w = clear_from_chain kept r c (ns, path_by (IsSet old) (IsNextSite graph) (λ x y t. let q = (f.pairs x y).0 t in q.2) r ns c path) in
          (low kept r w.0 w.2, low kept c w.1 w.3, w))),
      (λ (x, y, w). (let (ns, path) = chain_from r c w in
          (g r c).1 (ns, path_by (IsNextSite graph) (IsSet old) (λ d e q. (f.pairs d e).1 (low kept d q.0 q.2, low kept e q.1 q.3, q)) r ns c path))),
    );
  }
