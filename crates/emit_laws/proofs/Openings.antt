-- A plan that waits in time, as the runs of the code want it.
use Rattle.std.proofs.Common.{◌≡◌, ◌⊎◌, inl, inr, ⊎_elim, ℕ, zero, suc, ◌<◌, List, [], ◌∷◌, ◌++◌, length, Some, slice_index_or, sym, subst, arith}
use Rattle.std.specs.List.{All, Contains}
use Rattle.std.proofs.lemmas.List.Elements.{All-head, All-tail}
use Rattle.effect_order.specs.Flow.{PathBy}
use Rattle.site_graph.specs.declared.plan.Plan.{Plan}
use Rattle.site_graph.specs.declared.site.Site.{Site}
use Rattle.site_graph.specs.declared.site.SiteKind.TheVariants.{Read}
use Rattle.site_graph.specs.Graph.{Graph, site_at, IsAt}
use Rattle.site_graph.specs.Kept.{IsSiteOf}
use Rattle.site_graph.specs.Ways.{Goes}
use Rattle.site_graph.specs.Plans.{waits_at, Uses, WaitsInTime}
use Rattle.emit_laws.proofs.Parts.{In}

in_at : (xs : List ℕ) (x k : ℕ) → k < length xs → slice_index_or xs k x ≡ x → In x xs
in_at [] x k l e = absurd (omega (arith, l))
in_at (y ∷ ys) x zero l e = inl (sym e)
in_at (y ∷ ys) x (suc k) l e = inr (in_at ys x k (omega (arith, l)) e)

pub in_of : (xs : List ℕ) (x : ℕ) → Contains xs x → In x xs
in_of xs x h = in_at xs x h.0 h.1 h.2

pub contains_of : (xs : List ℕ) (x : ℕ) → In x xs → Contains xs x
contains_of [] x h = absurd h
contains_of (y ∷ ys) x (inl e) = (zero, omega arith, sym e)
contains_of (y ∷ ys) x (inr h) = let g = contains_of ys x h in (suc g.0, omega (arith, g.1), g.2)

in_cases : (x : ℕ) (xs ys : List ℕ) → In x (xs ++ ys) → In x xs ⊎ In x ys
in_cases x [] ys h = inr h
in_cases x (y ∷ xs) ys (inl e) = inl (inl e)
in_cases x (y ∷ xs) ys (inr h) = ⊎_elim (λ g. inl (inr g)) (λ g. inr g) (in_cases x xs ys h)

path_on : (Goes : ℕ → ℕ → Type 0) (P : ℕ → Type 0) (a : ℕ) (zs : List ℕ) (b d : ℕ) → PathBy Goes P a zs b → P b → Goes b d → PathBy Goes P a (zs ++ b ∷ []) d
path_on Goes P a [] b d path p goes = (path, p, goes)
path_on Goes P a (z ∷ zs) b d path p goes = (path.0, path.1, path_on Goes P z zs b d path.2 p goes)

-- the point is that of the read of the site
pub record IsReadAt (graph : Graph) (t site : ℕ) : Type 0 where
  pub what : Site
  pub is_site : site_at graph site ≡ Some what
  pub reads : what.kind ≡ Read
  pub is_at : IsAt graph site t

-- a path leads from the read to the point, and no point between uses what was fetched or waits for it
pub record IsOpen (graph : Graph) (plan : Plan) (u site : ℕ) : Type 0 where
  pub from : ℕ
  pub read : IsReadAt graph from site
  pub inner : List ℕ
  pub path : PathBy (Goes graph) (λ z. Uses graph site z → ⊥) from inner u
  pub unwaited : (z : ℕ) → In z inner → In site (waits_at plan z) → ⊥

module _ (graph : Graph) (plan : Plan) where
  pub opens : (t u site : ℕ) → IsReadAt graph t site → Goes graph t u → IsOpen graph plan u site
  opens t u site read goes = record { from = t; read = read; inner = []; path = goes; unwaited = λ z i. absurd i }

  pub opens_on : (t u site : ℕ) → IsOpen graph plan t site → (Uses graph site t → ⊥) → (In site (waits_at plan t) → ⊥) → Goes graph t u → IsOpen graph plan u site
  opens_on t u site h unused unwaited goes = record {
    from = h.from;
    read = h.read;
    inner = h.inner ++ t ∷ [];
    path = path_on (Goes graph) (λ z. Uses graph site z → ⊥) h.from h.inner t u h.path unused goes;
    unwaited = λ z i w. ⊎_elim (λ g. h.unwaited z g w) (λ g. at_last z w g) (in_cases z h.inner (t ∷ []) i);
  }
    where
      at_last : (z : ℕ) → In site (waits_at plan z) → In z (t ∷ []) → ⊥
      at_last z w (inl e) = unwaited (subst (λ z. In site (waits_at plan z)) e w)
      at_last z w (inr i) = i

  -- where the point uses what was fetched, the plan waits for it there
  pub waited_there : WaitsInTime graph plan → (t site : ℕ) → IsOpen graph plan t site → Uses graph site t → In site (waits_at plan t)
  waited_there in_time t site h uses =
      let w = in_time site h.from t h.read.what h.inner h.read.is_site h.read.reads h.read.is_at h.path uses in
      by_place w.0 (in_of (waits_at plan w.0) site w.2) (in_cases w.0 h.inner (t ∷ []) (in_of (h.inner ++ t ∷ []) w.0 w.1))
    where
      by_place : (u : ℕ) → In site (waits_at plan u) → In u h.inner ⊎ In u (t ∷ []) → In site (waits_at plan t)
      by_place u w (inl i) = absurd (h.unwaited u i w)
      by_place u w (inr (inl e)) = subst (λ z. In site (waits_at plan z)) e w
      by_place u w (inr (inr i)) = absurd i

  all_in : (P : ℕ → Type 0) (xs : List ℕ) (x : ℕ) → All P xs → In x xs → P x
  all_in P [] x h i = absurd i
  all_in P (y ∷ ys) x h (inl e) = subst P (sym e) (All-head P y ys h)
  all_in P (y ∷ ys) x h (inr i) = all_in P ys x (All-tail P y ys h) i

  row_in : (rows : List (List ℕ)) (t site : ℕ) → All (λ row. All (IsSiteOf graph) row) rows → In site (slice_index_or rows t []) → IsSiteOf graph site
  row_in [] t site h i = absurd i
  row_in (row ∷ rows) zero site h i = all_in (IsSiteOf graph) row site (All-head (λ row. All (IsSiteOf graph) row) row rows h) i
  row_in (row ∷ rows) (suc t) site h i = row_in rows t site (All-tail (λ row. All (IsSiteOf graph) row) row rows h) i

  -- the plan waits for sites of the flow
  pub waits_within : (t site : ℕ) → All (λ row. All (IsSiteOf graph) row) plan.waits → In site (waits_at plan t) → IsSiteOf graph site
  waits_within t site h i = row_in plan.waits t site h i
