-- A flow's ways are those of the laws of the order; and plans that wait directly wait in time.
use Rattle.std.proofs.Common.{◌≡◌, ℕ, zero, suc, ◌<◌, List, [], ◌∷◌, ◌++◌, Bool, true, false, Some, length, refl, sym, ap, ◌∙◌, subst, inl, inr, ⊎_elim, arith}
use Rattle.std.specs.List.{Contains, slice_get}
use Rattle.std.specs.Option.{option_map_or}
use Rattle.effect_order.specs.Flow.{PathBy}
use Rattle.site_graph.specs.declared.point.PointKind.{PointKind}
use Rattle.site_graph.specs.declared.point.PointKind.TheVariants.{Start, Plain, Access, Sync, Barrier, StoreSync, Call, Return}
use Rattle.site_graph.specs.declared.site.Site.{Site}
use Rattle.site_graph.specs.declared.site.SiteKind.{SiteKind}
use Rattle.site_graph.specs.Graph.{Graph, kind_at, site_at, IsAt, is_blocking, is_split}
use Rattle.site_graph.specs.Kept.{IsSiteOf}
use Rattle.site_graph.specs.Order.{is_sync, accesses, WaysAreOfOrder}
use Rattle.site_graph.specs.Plans.{Uses, PlainPlansWaitInTime}
use Rattle.site_graph.specs.Ways.{Goes, IsOverBefore}
use Rattle.site_graph.proofs.Members.{in_first}

-- ---- the access of a site

pub accesses_at : (graph : Graph) (test : SiteKind → Bool) (number t : ℕ) (site : Site) → IsAt graph number t → site_at graph number ≡ Some site
    → accesses graph test (kind_at graph t) ≡ test site.kind
accesses_at graph test number t site at is =
    ap (accesses graph test) at ∙ ap (λ o. option_map_or (λ (s : Site). test s.kind) o false) is

pub some_site : (graph : Graph) (number : ℕ) → IsSiteOf graph number → (site : Site) × (site_at graph number ≡ Some site)
some_site graph zero (l, h) = absurd (omega arith)
some_site graph (suc n) (l, h) = some_at graph.sites n (omega arith)
  where
    some_at : (sites : List Site) (k : ℕ) → k < length sites → (site : Site) × (slice_get sites k ≡ Some site)
    some_at [] k l = absurd (omega arith)
    some_at (x ∷ xs) zero l = (x, refl)
    some_at (x ∷ xs) (suc k) l = some_at xs k (omega arith)

sync_from : (kind : PointKind) → is_sync kind ≡ true → kind ≡ Sync
sync_from Sync t = refl
sync_from Start t = cc
sync_from Plain t = cc
sync_from (Access n) t = cc
sync_from Barrier t = cc
sync_from StoreSync t = cc
sync_from Call t = cc
sync_from Return t = cc

pub ways_of_order : WaysAreOfOrder
ways_of_order graph own across meets kept = record {
  path = λ a b. (λ w. w, λ w. w);
  clear = λ a b. (λ w. w, λ w. w);
  precedes = λ a b t u at_a at_b. (
    (λ p. let from = kept.one_point a p.from t p.is_from at_a in
        let to = kept.one_point b p.to u p.is_to at_b in
        let over = subst (λ x. IsOverBefore graph p.site x u) from (subst (λ x. IsOverBefore graph p.site p.from x) to p.over) in
        ⊎_elim
        (λ o. inl (accesses_at graph is_blocking a t p.site at_a p.is_site ∙ o.0, o.1))
        (λ (split, s, sync, path, clear). inr (accesses_at graph is_split a t p.site at_a p.is_site ∙ split, s, ap is_sync sync, path, clear))
        over),
    (λ o. let site = some_site graph a (kept.access_within t a at_a) in
        record {
          site = site.0;
          is_site = site.1;
          from = t;
          is_from = at_a;
          to = u;
          is_to = at_b;
          over = ⊎_elim
              (λ q. inl (sym (accesses_at graph is_blocking a t site.0 at_a site.1) ∙ q.0, q.1))
              (λ (split, s, sync, path, clear). inr (sym (accesses_at graph is_split a t site.0 at_a site.1) ∙ split, s, sync_from (kind_at graph s) sync, path, clear))
              o;
        }),
  );
}

-- ---- plans that wait directly

first_of : (graph : Graph) (P : ℕ → Type 0) (a : ℕ) (inner : List ℕ) (t : ℕ) → PathBy (Goes graph) P a inner t → (u : ℕ) × Contains (inner ++ t ∷ []) u × Goes graph a u
first_of graph P a [] t g = (t, in_first t [], g)
first_of graph P a (z ∷ zs) t (g, p, rest) = (z, in_first z (zs ++ t ∷ []), g)

pub plain_plans : PlainPlansWaitInTime
plain_plans graph plan plain site a t s inner is read at path uses =
    let first = first_of graph (λ z. Uses graph site z → ⊥) a inner t path in
    (first.0, first.1, (plain.waits first.0 site).1 ((s, is, ap is_blocking read), (a, at, first.2)))
