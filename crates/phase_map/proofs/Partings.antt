-- The points that part nodes by what is known of locals, point after point; and barriers.
use Rattle.std.proofs.Common.{◌≡◌, ℕ, ◌+◌, ◌<◌, ◌≤◌, List, [], ◌∷◌, ◌++◌, true, false, Some, length, get_or, sym, ap, ◌∙◌, subst, inl, inr, ⊎_elim, arith}
use Rattle.std.specs.List.{All, Contains, slice_get}
use Rattle.std.specs.Option.{option_map_or}
use Rattle.std.proofs.lemmas.Bool.{cases_eq, cases_lt, both_ways, false_from_ne_true}
use Rattle.std.proofs.lemmas.List.Elements.{Contains-get_or, Contains-append_left, Contains-push, Contains-push_cases}
use Rattle.site_graph.specs.declared.point.Point.{Point}
use Rattle.site_graph.specs.declared.point.PointKind.TheVariants.{Plain}
use Rattle.site_graph.specs.Bits.{Bits, IsSet, IsOf, IsWith}
use Rattle.site_graph.specs.Graph.{Graph, kind_at, is_barrier}
use Rattle.site_graph.specs.Kept.{IsPointOf}
use Rattle.site_graph.specs.Reached.{ReachesBy, AreReachedFromAny}
use Rattle.site_graph.specs.Ways.{Goes, Clear}
use Rattle.site_graph.proofs.Members.{in_nil}
use Rattle.site_graph.proofs.PointKinds.{kind_past}
use Rattle.site_graph.proofs.Starts.{as_bits, leads_as}
use Rattle.phase_map.specs.declared.noting.Locals.{Locals}
use Rattle.phase_map.specs.Uneven.{IsPoint, Branches, UnevenPoint, returns, reads_mark, reads_local}
use Rattle.phase_map.specs.Noting.{AreBarriers, AreKnown, PointParts, PartsBy, ArePartings, IsBehind}
use Rattle.phase_map.proofs.Noted.{reads_so}

-- ---- barriers

abbrev pub BarriersBelow : Graph → (n : ℕ) → Bits → Type 0
BarriersBelow graph n bits = IsOf 1 (length graph.points) (λ r t. (t < n) × (is_barrier (kind_at graph t) ≡ true)) bits

pub barrier_set : (graph : Graph) (old new : Bits) (at : ℕ) → at < length graph.points → is_barrier (kind_at graph at) ≡ true → BarriersBelow graph at old
    → IsWith 0 at old new → BarriersBelow graph (at + 1) new
barrier_set graph old new at l is b w = record {
  same_rows = w.same_rows ∙ b.same_rows;
  same_columns = w.same_columns ∙ b.same_columns;
  pairs = λ r t. (
    (λ s. ⊎_elim (λ o. let (x, y, (k, h)) = (b.pairs r t).0 o in (x, y, (omega (arith, k), h)))
        (λ (e, f). (omega (arith, e), omega (arith, f, l), (omega (arith, f), subst (λ u. is_barrier (kind_at graph u) ≡ true) (sym f) is))) ((w.pairs r t).0 s)),
    (λ (x, y, (k, h)). (w.pairs r t).1 (⊎_elim (λ e. inr (omega (arith, x), e)) (λ e. inl ((b.pairs r t).1 (x, y, (omega (arith, k, e), h)))) (cases_eq t at))),
  );
}

pub barrier_left : (graph : Graph) (bits : Bits) (at : ℕ) → is_barrier (kind_at graph at) ≡ false → BarriersBelow graph at bits → BarriersBelow graph (at + 1) bits
barrier_left graph bits at none b =
    as_bits 1 (length graph.points) (λ r t. (t < at) × (is_barrier (kind_at graph t) ≡ true)) (λ r t. (t < at + 1) × (is_barrier (kind_at graph t) ≡ true)) bits b
    (λ r t h k (l, is). (omega (arith, l), is))
    (λ r t h k (l, is). ⊎_elim (λ e. absurd (both_ways _ (subst (λ u. is_barrier (kind_at graph u) ≡ false) (sym e) none) is)) (λ e. (omega (arith, l, e), is)) (cases_eq t at))

pub barriers_all : (graph : Graph) (bits : Bits) (n : ℕ) → length graph.points ≤ n → BarriersBelow graph n bits → AreBarriers graph bits
barriers_all graph bits n l b =
    as_bits 1 (length graph.points) (λ r t. (t < n) × (is_barrier (kind_at graph t) ≡ true)) (λ r t. is_barrier (kind_at graph t) ≡ true) bits b
    (λ r t h k (m, is). is) (λ r t h k is. (omega (arith, k, l), is))

free_from : (graph : Graph) (bits : Bits) (z : ℕ) → AreBarriers graph bits → (IsSet bits 0 z → ⊥) → is_barrier (kind_at graph z) ≡ false
free_from graph bits z b h =
    ⊎_elim (λ l. false_from_ne_true _ (λ t. h ((b.pairs 0 z).1 (omega arith, l, t)))) (λ l. ap is_barrier (kind_past graph z l)) (cases_lt z (length graph.points))

free_to : (graph : Graph) (bits : Bits) (z : ℕ) → AreBarriers graph bits → is_barrier (kind_at graph z) ≡ false → IsSet bits 0 z → ⊥
free_to graph bits z b f s = let (x, y, t) = (b.pairs 0 z).0 s in both_ways _ f t

pub clear_from : (graph : Graph) (bits : Bits) (a u : ℕ) → AreBarriers graph bits → ReachesBy graph bits 0 a u → Clear graph a u
clear_from graph bits a u b = leads_as (Goes graph) (λ z. IsSet bits 0 z → ⊥) (λ z. is_barrier (kind_at graph z) ≡ false) (λ z h. free_from graph bits z b h) a u

pub clear_to : (graph : Graph) (bits : Bits) (a u : ℕ) → AreBarriers graph bits → Clear graph a u → ReachesBy graph bits 0 a u
clear_to graph bits a u b = leads_as (Goes graph) (λ z. is_barrier (kind_at graph z) ≡ false) (λ z. IsSet bits 0 z → ⊥) (λ z h. free_to graph bits z b h) a u

-- ---- points that part nodes

pub no_partings : (graph : Graph) (known : Locals) → ArePartings graph known 0 []
no_partings graph known t = (λ i. absurd (in_nil t i), λ (l, h). absurd (omega (arith, l)))

pub parting_found : (graph : Graph) (known : Locals) (n : ℕ) (p : Point) (ts : List ℕ) → IsPoint graph n p → Branches graph n → PointParts known p
    → ArePartings graph known n ts → ArePartings graph known (n + 1) (ts ++ n ∷ [])
parting_found graph known n p ts at two parts a t = (
  (λ i. ⊎_elim (λ j. let (l, h) = (a t).0 j in (omega (arith, l), h))
      (λ e. (omega (arith, e), subst (PartsBy graph known) e (two, (p, at, parts)))) (Contains-push_cases ts n t i)),
  (λ (l, h). ⊎_elim (λ e. subst (Contains (ts ++ n ∷ [])) (sym e) (Contains-push ts n))
      (λ e. Contains-append_left ts (n ∷ []) t ((a t).1 (omega (arith, l, e), h))) (cases_eq t n)),
)

pub parting_left : (graph : Graph) (known : Locals) (n : ℕ) (p : Point) (ts : List ℕ) → IsPoint graph n p → (Branches graph n → PointParts known p → ⊥)
    → ArePartings graph known n ts → ArePartings graph known (n + 1) ts
parting_left graph known n p ts at none a t = (
  (λ i. let (l, h) = (a t).0 i in (omega (arith, l), h)),
  (λ (l, h). ⊎_elim (λ e. absurd (left e h)) (λ e. (a t).1 (omega (arith, l, e), h)) (cases_eq t n)),
)
  where
    left : t ≡ n → PartsBy graph known t → ⊥
    left e (two, (q, is, parts)) =
        let same : Some q ≡ Some p = sym is ∙ (ap (λ m. slice_get graph.points m) e ∙ at) in
        let one : q ≡ p = cc in
        none (subst (Branches graph) e two) (subst (PointParts known) one parts)

pub parts_so : (graph : Graph) (known : Locals) (t : ℕ) → AreKnown graph known → PartsBy graph known t → UnevenPoint graph t
parts_so graph known t is (two, (p, at, parts)) = ⊎_elim
    (λ e. returns t two (ap (λ o. option_map_or (λ (q : Point). q.kind) o Plain) at ∙ e))
    (λ r. ⊎_elim (λ m. reads_mark t p two at m) (λ (x, i, e, d). reads_local t x p two at i e d) (reads_so graph known p is r)) parts

pub behind_so : (graph : Graph) (known : Locals) (ts items : List ℕ) (n : ℕ) (barriers behind : Bits) → AreKnown graph known → ArePartings graph known n ts → items ≡ ts
    → AreBarriers graph barriers → AreReachedFromAny graph items barriers 0 behind → IsBehind graph behind
behind_so graph known ts items n barriers behind is a e b r t s =
    let (x, y, (u, i, way)) = (r.pairs 0 t).0 s in
    (u, parts_so graph known u is ((a u).0 (subst (λ xs. Contains xs u) e i)).1, clear_from graph barriers u t b way)

pub points_of : (graph : Graph) (known : Locals) (ts items : List ℕ) → items ≡ ts → ArePartings graph known (length graph.points) ts → All (IsPointOf graph) items
points_of graph known ts items e a k d l = ((a (get_or items k d)).0 (subst (λ xs. Contains xs (get_or items k d)) e (Contains-get_or items k d l))).0
