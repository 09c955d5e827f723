-- The points directly behind the accesses of blocking sites, edge after edge, and the plain plan.
use Rattle.std.proofs.Common.{◌≡◌, ◌⊎◌, ℕ, ◌+◌, ◌<◌, ◌≤◌, List, [], ◌∷◌, ◌++◌, Bool, true, false, Some, length, get_or, replicate, refl, sym, ap, ◌∙◌, subst, inl, inr, ⊎_elim, arith}
use Rattle.std.specs.List.{Contains, slice_get}
use Rattle.std.proofs.lemmas.List.Elements.{Contains-append_left, Contains-push, Contains-push_cases, Contains-get_or, All-contains}
use Rattle.std.proofs.lemmas.List.{get_or_default}
use Rattle.site_graph.specs.declared.flow.Edge.{Edge}
use Rattle.site_graph.specs.declared.plan.Plan.{Plan}
use Rattle.site_graph.specs.declared.point.Point.{Point}
use Rattle.site_graph.specs.declared.point.PointKind.TheVariants.{Access}
use Rattle.site_graph.specs.Bits.{Bits, IsSet, IsWith}
use Rattle.site_graph.specs.Graph.{Graph, kind_at, IsAt}
use Rattle.site_graph.specs.Kept.{IsFlow, IsPointOf}
use Rattle.site_graph.specs.Plans.{waits_at, Blocks, IsPlan, IsPlainPlan}
use Rattle.site_graph.specs.Ways.{Goes}
use Rattle.site_graph.proofs.Members.{in_nil}
use Rattle.sync_place.specs.declared.demanding.Blocking.{Blocking}
use Rattle.sync_place.specs.Demanding.{IsBlocking, Accesses}
use Rattle.sync_place.specs.Plain.{FirstsFollowNoAccess, BehindBy, AreBehind, IsMarkedBehind}
use Rattle.sync_place.specs.Waiting.{AreWaitRows}
use Rattle.sync_place.proofs.Demands.{kind_from, site_within}
use Rattle.sync_place.proofs.Placing.{waits_from, waits_to, rows_rise, none_marked}
use Rattle.sync_place.proofs.PlanLaws.{nil_from_none}

-- ---- one edge

pub behind_with : (graph : Graph) (edge : Edge) (p : Point) (b : Blocking) (old new : Bits) → slice_get graph.points edge.from ≡ Some p →
    IsBlocking graph p b → IsWith b.site edge.to old new → IsMarkedBehind graph edge old new
behind_with graph edge p b old new there is with = record {
  same_rows = with.same_rows;
  same_columns = with.same_columns;
  pairs = λ r c. (
    (λ s. ⊎_elim (λ o. inl o)
        (λ q. inr (
          sym q.1,
          subst (Blocks graph) (sym q.0) (is.site, is.is_site, is.blocks),
          subst (λ n. IsAt graph n edge.from) (sym q.0) (kind_from graph edge.from p there ∙ is.access),
        ))
        ((with.pairs r c).0 s)),
    (λ h. ⊎_elim (λ o. (with.pairs r c).1 (inl o))
        (λ q. let e : Access r ≡ Access b.site = sym q.2 ∙ (kind_from graph edge.from p there ∙ is.access) in
        let same : r ≡ b.site = cc in
        (with.pairs r c).1 (inr (same, sym q.0)))
        h),
  );
}

pub behind_none : (graph : Graph) (edge : Edge) (p : Point) (old : Bits) → slice_get graph.points edge.from ≡ Some p →
    ((number : ℕ) → Accesses graph p number → ⊥) → IsMarkedBehind graph edge old old
behind_none graph edge p old there none = record {
  same_rows = refl;
  same_columns = refl;
  pairs = λ r c. (
    (λ s. inl s),
    (λ h. ⊎_elim (λ o. o) (λ q. absurd (none r (sym (kind_from graph edge.from p there) ∙ q.2, q.1))) h),
  );
}

-- ---- edge after edge

behind_more_from : (graph : Graph) (edges : List Edge) (edge : Edge) (r c : ℕ) → BehindBy graph edges r c → BehindBy graph (edges ++ edge ∷ []) r c
behind_more_from graph edges edge r c (blocks, (a, at, i)) = (blocks, (a, at, Contains-append_left edges (edge ∷ []) _ i))

behind_last : (graph : Graph) (edges : List Edge) (edge : Edge) (r c : ℕ) → edge.to ≡ c → Blocks graph r → IsAt graph r edge.from → BehindBy graph (edges ++ edge ∷ []) r c
behind_last graph edges edge r c e blocks at =
    (blocks, (edge.from, at, subst (λ n. Contains (edges ++ edge ∷ []) (record { from = edge.from; to = n })) e (Contains-push edges edge)))

behind_cases : (graph : Graph) (edges : List Edge) (edge : Edge) (r c : ℕ) → BehindBy graph (edges ++ edge ∷ []) r c →
    BehindBy graph edges r c ⊎ ((edge.to ≡ c) × Blocks graph r × IsAt graph r edge.from)
behind_cases graph edges edge r c (blocks, (a, at, i)) =
    ⊎_elim (λ j. inl (blocks, (a, at, j)))
    (λ e. inr (ap (λ (x : Edge). x.to) e, blocks, subst (IsAt graph r) (sym (ap (λ (x : Edge). x.from) e)) at))
    (Contains-push_cases edges edge (record { from = a; to = c }) i)

pub behind_more : (graph : Graph) (edges : List Edge) (edge : Edge) (old new : Bits) → edge.to < length graph.points →
    IsMarkedBehind graph edge old new → AreBehind graph edges old → AreBehind graph (edges ++ edge ∷ []) new
behind_more graph edges edge old new to m b = record {
  same_rows = m.same_rows ∙ b.same_rows;
  same_columns = m.same_columns ∙ b.same_columns;
  pairs = λ r c. (
    (λ s. ⊎_elim
        (λ o. let q = (b.pairs r c).0 o in (q.0, q.1, behind_more_from graph edges edge r c q.2))
        (λ q. let w = site_within graph r q.1.0 q.1.1 in
        (omega (arith, w.1), omega (arith, q.0, to), behind_last graph edges edge r c q.0 q.1 q.2))
        ((m.pairs r c).0 s)),
    (λ q. ⊎_elim (λ k. (m.pairs r c).1 (inl ((b.pairs r c).1 (q.0, q.1, k)))) (λ k. (m.pairs r c).1 (inr k))
        (behind_cases graph edges edge r c q.2)),
  );
}

-- ---- the plan

behind_within : (graph : Graph) (site t : ℕ) → BehindBy graph graph.edges site t → site < length graph.sites + 1
behind_within graph site t h = let w = site_within graph site h.0.0 h.0.1 in omega (arith, w.1)

plain_waits : (graph : Graph) (behind : Bits) (marks : List Bool) (waits : List (List ℕ)) → AreBehind graph graph.edges behind →
    ((site : ℕ) → get_or marks site false ≡ false) → AreWaitRows behind marks (length graph.points) waits →
    (t site : ℕ) → Contains (get_or waits t []) site → BehindBy graph graph.edges site t
plain_waits graph behind marks waits b none w t site i =
    let q = waits_from behind marks (length graph.points) waits site t w i in ((b.pairs site t).0 q.1).2

-- an edge leads to a point of the flow
pub edges_lead : (graph : Graph) → IsFlow graph → (e : Edge) → Contains graph.edges e → e.to < length graph.points
edges_lead graph kept e i =
    (All-contains (λ (x : Edge). IsPointOf graph x.from × IsPointOf graph x.to) graph.edges e kept.edges_within i).1

pub plain_is : (graph : Graph) (behind : Bits) (n : ℕ) (marks : List Bool) (waits : List (List ℕ)) (oneway : List ℕ) → FirstsFollowNoAccess graph →
    AreBehind graph graph.edges behind → marks ≡ replicate n false → ((e : Edge) → Contains graph.edges e → e.to < length graph.points) → AreWaitRows behind marks (length graph.points) waits → oneway ≡ [] →
    IsPlainPlan graph (record { waits = waits; oneway = oneway })
plain_is graph behind n marks waits oneway firsts b m within w none =
    let unmarked : (site : ℕ) → get_or marks site false ≡ false = λ site. none_marked n site marks m in
    let from = plain_waits graph behind marks waits b unmarked w in
    record {
      is_plan = record {
        count = w.count;
        on_sites = λ k d h j e l.
            let same = get_or_default waits k d [] h in
            let i = Contains-get_or (get_or waits k d) j e l in
            let f = from k (get_or (get_or waits k d) j e) (subst (λ xs. Contains xs (get_or (get_or waits k d) j e)) same i) in
            site_within graph (get_or (get_or waits k d) j e) f.0.0 f.0.1;
        rising = rows_rise behind marks (length graph.points) waits w;
        none_first = λ t first. nil_from_none (get_or waits t []) (λ site i.
            let f = from t site i in
            firsts t f.1.0 site first f.1.2 f.1.1);
      };
      waits = λ t site. (
        from t site,
        λ h.
            let r = behind_within graph site t h in
            let l = within (record { from = h.1.0; to = t }) h.1.2 in
            waits_to behind marks (length graph.points) waits site t w l (omega (arith, r, b.same_rows))
            ((b.pairs site t).1 (r, l, h)) (unmarked site),
      );
      none_one_way = none;
    }
