-- Placed and early plans wait in time, are plans, and speak of the demands that the laws of the order speak of.
use Rattle.std.proofs.Common.{◌≡◌, ◌⊎◌, ℕ, zero, suc, ◌<◌, List, [], ◌∷◌, ◌++◌, true, false, Option, Some, None, length, get_or, refl, sym, ap, ◌∙◌, subst, inl, inr, ⊎_elim, arith}
use Rattle.std.specs.List.{Contains, slice_get}
use Rattle.std.proofs.lemmas.Bool.{both_ways, cases_Bool}
use Rattle.std.proofs.lemmas.List.{get_or_default}
use Rattle.std.proofs.lemmas.List.Elements.{Contains-get_or}
use Rattle.effect_order.specs.Plan as order_plan
use Rattle.effect_order.specs.Flow.{PathBy, LeadsBy}
use Rattle.site_graph.specs.declared.plan.Plan.{Plan}
use Rattle.site_graph.specs.declared.point.Point.{Point}
use Rattle.site_graph.specs.declared.point.PointKind.{PointKind}
use Rattle.site_graph.specs.declared.point.PointKind.TheVariants.{Start, Plain, Access, Sync, Barrier, StoreSync, Call, Return}
use Rattle.site_graph.specs.declared.site.Site.{Site}
use Rattle.site_graph.specs.declared.site.SiteKind.{SiteKind}
use Rattle.site_graph.specs.declared.site.SiteKind.TheVariants.{Read, Write, Get, Put, Store, Copy}
use Rattle.site_graph.specs.Bits.{Bits, IsSet}
use Rattle.site_graph.specs.Graph.{Graph, kind_at, site_at, IsAt, is_barrier, is_blocking}
use Rattle.site_graph.specs.Kept.{IsFlow}
use Rattle.site_graph.specs.Order.{is_write}
use Rattle.site_graph.specs.Plans.{waits_at, Uses, Blocks, takes, names, returns}
use Rattle.site_graph.specs.Ways.{Goes}
use Rattle.site_graph.proofs.Members.{in_nil, in_first, in_later}
use Rattle.site_graph.proofs.Opened.{has_from, in_from_has}
use Rattle.site_graph.proofs.Starts.{leads_as}
use Rattle.site_graph.proofs.Ways.{accesses_at, some_site}
use Rattle.site_graph.specs.Opened.{has}
use Rattle.sync_place.specs.Laws.{IsOne, PlansWaitInTime, PlansArePlans, OrderDemand, PlansAreOfOrder}
use Rattle.sync_place.specs.Placed.{Demanded, Demand, First, IsListed, at_barrier, by_delay, by_use}
use Rattle.sync_place.proofs.Demands.{demand_within, site_within, kind_from}

-- ---- whether a point that uses nothing demands a site

abbrev access_of : PointKind → Option ℕ
access_of (Access n) = Some n
access_of _ = None

access_from : (k : PointKind) (n : ℕ) → access_of k ≡ Some n → k ≡ Access n
access_from (Access m) n e = let same : m ≡ n = cc in ap Access same
access_from Start n e = cc
access_from Plain n e = cc
access_from Sync n e = cc
access_from Barrier n e = cc
access_from StoreSync n e = cc
access_from Call n e = cc
access_from Return n e = cc

no_delay : (graph : Graph) (delays : Bits) (site z : ℕ) → is_barrier (kind_at graph z) ≡ false → (Uses graph site z → ⊥) → ((b : ℕ) → IsAt graph b z → IsSet delays site b → ⊥)
    → Demanded graph delays site z → ⊥
no_delay graph delays site z f u none (at_barrier t) = both_ways _ f t
no_delay graph delays site z f u none (by_delay b is s) = none b is s
no_delay graph delays site z f u none (by_use x) = u x

abbrev Decided : Graph → Bits → (site z : ℕ) → Type 0
Decided graph delays site z = Demand graph delays site z ⊎ (Demand graph delays site z → ⊥)

by_access : (graph : Graph) (delays : Bits) (site z : ℕ) → Blocks graph site → is_barrier (kind_at graph z) ≡ false → (Uses graph site z → ⊥) → (o : Option ℕ) → access_of (kind_at graph z) ≡ o
    → Decided graph delays site z
by_access graph delays site z blocks f u None e =
    inr (λ d. no_delay graph delays site z f u (λ b is s. let c : None ≡ Some b = sym e ∙ ap access_of is in cc) d.1)
by_access graph delays site z blocks f u (Some n) e =
    let is = access_from (kind_at graph z) n e in
    ⊎_elim
    (λ t. inl (blocks, by_delay n is (in_from_has delays.set site n t)))
    (λ t. inr (λ d. no_delay graph delays site z f u
    (λ b at s. let c : Some n ≡ Some b = sym e ∙ ap access_of at in
    let same : b ≡ n = cc in
    both_ways _ t (has_from delays.set site n (subst (IsSet delays site) same s)))
    d.1))
    (cases_Bool (has delays.set site n))

decided : (graph : Graph) (delays : Bits) (site z : ℕ) → Blocks graph site → (Uses graph site z → ⊥) → Decided graph delays site z
decided graph delays site z blocks u =
    ⊎_elim (λ t. inl (blocks, at_barrier t)) (λ f. by_access graph delays site z blocks f u (access_of (kind_at graph z)) refl) (cases_Bool (is_barrier (kind_at graph z)))

-- ---- the first demand on a path

first_demand : (graph : Graph) (delays : Bits) (site a : ℕ) (inner : List ℕ) (t : ℕ) → Blocks graph site → PathBy (Goes graph) (λ z. Uses graph site z → ⊥) a inner t → Demand graph delays site t
    → (u : ℕ) × Contains (inner ++ t ∷ []) u × LeadsBy (Goes graph) (λ z. Demand graph delays site z → ⊥) a u × Demand graph delays site u
first_demand graph delays site a [] t blocks g d = (t, in_first t [], ([], g), d)
first_demand graph delays site a (z ∷ zs) t blocks (g, p, rest) d =
    ⊎_elim
    (λ e. (z, in_first z (zs ++ t ∷ []), ([], g), e))
    (λ none. let f = first_demand graph delays site z zs t blocks rest d in
    (f.0, in_later z f.0 (zs ++ t ∷ []) f.1, (z ∷ f.2.0, (g, none, f.2.1)), f.3))
    (decided graph delays site z blocks p)

waits_there : (graph : Graph) (delays : Bits) (plan : Plan) (site u : ℕ) (s : Site) → site_at graph site ≡ Some s → s.kind ≡ Read → IsOne graph delays plan → First graph delays site u
    → Contains (waits_at plan u) site
waits_there graph delays plan site u s is read (inr early) f = (early.waits site u).1 f
waits_there graph delays plan site u s is read (inl placed) f = (placed.waits site u).1 (
  f,
  λ ((w, at, write), only).
      let same : Some s ≡ Some w = sym is ∙ at in
      let eq : s ≡ w = cc in
      let c : Read ≡ Write = sym read ∙ (ap (λ (x : Site). x.kind) eq ∙ write) in
      cc,
)

pub wait_in_time : PlansWaitInTime
wait_in_time graph delays plan kept one site a t s inner is read at path uses =
    let blocks : Blocks graph site = (s, is, ap is_blocking read) in
    let f = first_demand graph delays site a inner t blocks path (blocks, by_use uses) in
    (f.0, f.1, waits_there graph delays plan site f.0 s is read one (f.3, (a, at, f.2)))

-- ---- they are plans

waited : (graph : Graph) (delays : Bits) (plan : Plan) (site t : ℕ) → IsOne graph delays plan → Contains (waits_at plan t) site → First graph delays site t
waited graph delays plan site t (inl placed) i = ((placed.waits site t).0 i).0
waited graph delays plan site t (inr early) i = (early.waits site t).0 i

listed : (graph : Graph) (delays : Bits) (plan : Plan) → IsOne graph delays plan → IsListed graph plan
listed graph delays plan (inl placed) = placed.listed
listed graph delays plan (inr early) = early.listed

pub nil_from_none : (xs : List ℕ) → ((x : ℕ) → Contains xs x → ⊥) → xs ≡ []
nil_from_none [] h = refl
nil_from_none (x ∷ xs) h = absurd (h x (in_first x xs))

abbrev Idle : Point → Type 0
Idle p = ((p.kind ≡ Start) ⊎ (p.kind ≡ Plain)) × (p.takes ≡ []) × (p.reads ≡ []) × ((local : ℕ) → p.writes ≡ Some local → ⊥)

no_barrier : (k : PointKind) → (k ≡ Start) ⊎ (k ≡ Plain) → is_barrier k ≡ false
no_barrier k (inl e) = ap is_barrier e
no_barrier k (inr e) = ap is_barrier e

no_access : (k : PointKind) (n : ℕ) → (k ≡ Start) ⊎ (k ≡ Plain) → k ≡ Access n → ⊥
no_access k n (inl e) f = cc
no_access k n (inr e) f = cc

no_return : (k : PointKind) → (k ≡ Start) ⊎ (k ≡ Plain) → k ≡ Return → ⊥
no_return k (inl e) f = cc
no_return k (inr e) f = cc

idle_uses : (graph : Graph) (site t : ℕ) (p : Point) → slice_get graph.points t ≡ Some p → Idle p → Uses graph site t → ⊥
idle_uses graph site t p s idle (takes q sq i) =
    let same : Some q ≡ Some p = sym sq ∙ s in
    let eq : q ≡ p = cc in
    in_nil site (subst (λ xs. Contains xs site) (ap (λ (x : Point). x.takes) eq ∙ idle.1) i)
idle_uses graph site t p s idle (names st local a q r is f at sq sr e n) =
    let same : Some r ≡ Some p = sym sr ∙ s in
    let eq : r ≡ p = cc in
    ⊎_elim (λ i. in_nil local (subst (λ xs. Contains xs local) (ap (λ (x : Point). x.reads) eq ∙ idle.2) i))
    (λ w. idle.3 local (ap (λ (x : Point). x.writes) (sym eq) ∙ w)) n
idle_uses graph site t p s idle (returns st local a q r is f at sq sr e n) =
    let same : Some r ≡ Some p = sym sr ∙ s in
    let eq : r ≡ p = cc in
    no_return p.kind idle.0 (ap (λ (x : Point). x.kind) (sym eq) ∙ n)

idle_demands : (graph : Graph) (delays : Bits) (site t : ℕ) (p : Point) → slice_get graph.points t ≡ Some p → Idle p → Demanded graph delays site t → ⊥
idle_demands graph delays site t p s idle (at_barrier b) = both_ways _ (ap is_barrier (kind_from graph t p s) ∙ no_barrier p.kind idle.0) b
idle_demands graph delays site t p s idle (by_delay b is x) = no_access p.kind b idle.0 (sym (kind_from graph t p s) ∙ is)
idle_demands graph delays site t p s idle (by_use u) = idle_uses graph site t p s idle u

some_point : (points : List Point) (t : ℕ) → t < length points → (p : Point) × (slice_get points t ≡ Some p)
some_point [] t l = absurd (omega arith)
some_point (x ∷ xs) zero l = (x, refl)
some_point (x ∷ xs) (suc t) l = some_point xs t (omega arith)

pub are_plans : PlansArePlans
are_plans graph delays plan kept idle one =
    let l = listed graph delays plan one in
    record {
      count = l.count;
      on_sites = λ k d h j e m.
          let same = get_or_default plan.waits k d [] h in
          let i = Contains-get_or (get_or plan.waits k d) j e m in
          let f = waited graph delays plan (get_or (get_or plan.waits k d) j e) k one (subst (λ xs. Contains xs (get_or (get_or plan.waits k d) j e)) same i) in
          site_within graph (get_or (get_or plan.waits k d) j e) f.0.0.0 f.0.0.1;
      rising = l.rising;
      none_first = λ t first. nil_from_none (waits_at plan t) (λ site i.
          let f = waited graph delays plan site t one i in
          let w = demand_within graph delays site t f.0 in
          let p = some_point graph.points t w.1 in
          idle_demands graph delays site t p.0 p.1 (idle t p.0 first p.1) f.0.1);
    }

-- ---- the laws of the order speak of them

same_access : (graph : Graph) (a b t : ℕ) → IsAt graph a t → IsAt graph b t → a ≡ b
same_access graph a b t x y = let e : Access a ≡ Access b = sym x ∙ y in cc

demand_to : (graph : Graph) (delays : Bits) (site t u : ℕ) → IsAt graph site t → Demand graph delays site u → OrderDemand graph delays t u
demand_to graph delays site t u at d = (site, at, d)

demand_of : (graph : Graph) (delays : Bits) (site t u : ℕ) → IsAt graph site t → OrderDemand graph delays t u → Demand graph delays site u
demand_of graph delays site t u at (n, here, d) = subst (λ x. Demand graph delays x u) (same_access graph n site t here at) d

first_to : (graph : Graph) (delays : Bits) (site t u : ℕ) → IsFlow graph → IsAt graph site t → First graph delays site u → order_plan.First (Goes graph) (OrderDemand graph delays) t u
first_to graph delays site t u kept at (d, (a, here, path)) = (
  demand_to graph delays site t u at d,
  leads_as (Goes graph) (λ z. Demand graph delays site z → ⊥) (λ z. OrderDemand graph delays t z → ⊥) (λ z none o. none (demand_of graph delays site t z at o)) t u
      (subst (λ x. LeadsBy (Goes graph) (λ z. Demand graph delays site z → ⊥) x u) (kept.one_point site a t here at) path),
)

first_back : (graph : Graph) (delays : Bits) (site t u : ℕ) → IsAt graph site t → order_plan.First (Goes graph) (OrderDemand graph delays) t u → First graph delays site u
first_back graph delays site t u at (d, path) = (
  demand_of graph delays site t u at d,
  (
    t,
    at,
    leads_as (Goes graph) (λ z. OrderDemand graph delays t z → ⊥) (λ z. Demand graph delays site z → ⊥) (λ z none o. none (demand_to graph delays site t z at o)) t u path,
  ),
)

write_from : (k : SiteKind) → is_write k ≡ true → k ≡ Write
write_from Write t = refl
write_from Read t = cc
write_from Get t = cc
write_from Put t = cc
write_from Store t = cc
write_from (Copy m) t = cc

pub are_of_order : PlansAreOfOrder
are_of_order graph delays own across meets kept = record {
  demand = λ site t u at. (demand_to graph delays site t u at, demand_of graph delays site t u at);
  first = λ site t u at. (first_to graph delays site t u kept at, first_back graph delays site t u at);
  one_way = λ site t at. (
    (λ ((s, is, write), only). (accesses_at graph is_write site t s at is ∙ ap is_write write, λ u f. only u (first_back graph delays site t u at f))),
    (λ (may, only). let s = some_site graph site (kept.access_within t site at) in
        ((s.0, s.1, write_from s.0.kind (sym (accesses_at graph is_write site t s.0 at s.1) ∙ may)), λ u f. only u (first_to graph delays site t u kept at f))),
  );
}
