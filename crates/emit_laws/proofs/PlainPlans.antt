-- A plan that waits directly behind each blocking access waits in time.
use Rattle.std.proofs.Common.{◌≡◌, ℕ, List, [], ◌∷◌, ◌++◌, Some, refl, ap, arith}
use Rattle.std.specs.List.{Contains}
use Rattle.effect_order.specs.Flow.{PathBy}
use Rattle.site_graph.specs.declared.plan.Plan.{Plan}
use Rattle.site_graph.specs.declared.site.Site.{Site}
use Rattle.site_graph.specs.declared.site.SiteKind.TheVariants.{Read}
use Rattle.site_graph.specs.Graph.{Graph, site_at, IsAt, is_blocking}
use Rattle.site_graph.specs.Ways.{Goes}
use Rattle.site_graph.specs.Plans.{waits_at, Uses, IsPlainPlan, PlainPlansWaitInTime}

first_of : (x : ℕ) (xs : List ℕ) → Contains (x ∷ xs) x
first_of x xs = (0, omega arith, refl)

module _ (graph : Graph) (plan : Plan) (plain : IsPlainPlan graph plan) where
  waited_behind : (site a t : ℕ) (s : Site) → site_at graph site ≡ Some s → s.kind ≡ Read → IsAt graph site a → Goes graph a t
      → Contains (waits_at plan t) site
  waited_behind site a t s is_site reads is_at goes =
      (plain.waits t site).1 ((s, is_site, ap is_blocking reads), (a, is_at, goes))

  on_path : (site a t : ℕ) (s : Site) (inner : List ℕ) → site_at graph site ≡ Some s → s.kind ≡ Read → IsAt graph site a
      → PathBy (Goes graph) (λ z. Uses graph site z → ⊥) a inner t
      → (u : ℕ) × Contains (inner ++ t ∷ []) u × Contains (waits_at plan u) site
  on_path site a t s [] is_site reads is_at path = (t, first_of t [], waited_behind site a t s is_site reads is_at path)
  on_path site a t s (z ∷ zs) is_site reads is_at path =
      (z, first_of z (zs ++ t ∷ []), waited_behind site a z s is_site reads is_at path.0)

pub plain_plans_wait_in_time : PlainPlansWaitInTime
plain_plans_wait_in_time graph plan plain site a t s inner is_site reads is_at path uses =
    on_path graph plan plain site a t s inner is_site reads is_at path
