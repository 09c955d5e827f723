-- Which access is over before another, by searches for the points of the flow one after another.
use Rattle.std.proofs.Common.{◌≡◌, ℕ, ◌+◌, ◌<◌, ◌≤◌, List, [], ◌∷◌, ◌++◌, true, false, Result, Ok, Err, IfOk, length, get_or, refl, sym, ap, ◌∙◌, subst, inl, inr, ⊎_elim, arith}
use Rattle.std.specs.List.{All, Contains}
use Rattle.std.proofs.lemmas.Bool.{cases_eq, cases_lt, both_ways, false_from_ne_true}
use Rattle.std.proofs.lemmas.List.Elements.{Contains-get_or, Contains-append_left, Contains-push, Contains-push_cases}
use Rattle.site_graph.specs.declared.point.PointKind.{PointKind}
use Rattle.site_graph.specs.declared.point.PointKind.TheVariants.{Start, Plain, Access, Sync, Barrier, StoreSync, Call, Return}
use Rattle.sc_base.specs.declared.value.CopyMode.TheVariants.{Blocking}
use Rattle.site_graph.specs.declared.site.Site.{Site}
use Rattle.site_graph.specs.declared.site.SiteKind.{SiteKind}
use Rattle.site_graph.specs.declared.site.SiteKind.TheVariants.{Read, Write, Get, Put, Store, Copy}
use Rattle.site_graph.specs.Bits.{Bits, IsSet, IsOf, IsWith, no_bits}
use Rattle.site_graph.specs.Graph.{Graph, kind_at, is_barrier, is_blocking, is_split}
use Rattle.site_graph.specs.Order.{is_sync}
use Rattle.site_graph.specs.Kept.{IsPointOf}
use Rattle.site_graph.specs.Reached.{ReachesBy, AreReachedFromAny}
use Rattle.site_graph.specs.Ways.{Goes, Path, Clear, IsOverBefore}
use Rattle.site_graph.proofs.Members.{in_nil}
use Rattle.site_graph.proofs.Starts.{none_of, as_bits, leads_as}
use Rattle.site_graph.proofs.PointKinds.{kind_past}
use Rattle.delay_sets.specs.Preceding.{AreBarriers, AreSyncsIn}

-- ---- barriers, point after point

abbrev pub BarriersBelow : Graph → (count : ℕ) → Bits → Type 0
BarriersBelow graph count bits = IsOf 2 (length graph.points) (λ r t. (r ≡ 0) × (t < count) × (is_barrier (kind_at graph t) ≡ true)) bits

pub barrier_set : (graph : Graph) (old new : Bits) (at : ℕ) → at < length graph.points → is_barrier (kind_at graph at) ≡ true → BarriersBelow graph at old
    → IsWith 0 at old new → BarriersBelow graph (at + 1) new
barrier_set graph old new at l is b w = record {
  same_rows = w.same_rows ∙ b.same_rows;
  same_columns = w.same_columns ∙ b.same_columns;
  pairs = λ r t. (
    (λ s. ⊎_elim (λ o. let (x, y, (z, k, h)) = (b.pairs r t).0 o in (x, y, (z, omega (arith, k), h)))
        (λ (e, f). (omega (arith, e), omega (arith, f, l), (e, omega (arith, f), subst (λ u. is_barrier (kind_at graph u) ≡ true) (sym f) is))) ((w.pairs r t).0 s)),
    (λ (x, y, (z, k, h)). (w.pairs r t).1 (⊎_elim (λ e. inr (z, e)) (λ e. inl ((b.pairs r t).1 (x, y, (z, omega (arith, k, e), h)))) (cases_eq t at))),
  );
}

pub barrier_left : (graph : Graph) (bits : Bits) (at : ℕ) → is_barrier (kind_at graph at) ≡ false → BarriersBelow graph at bits
    → BarriersBelow graph (at + 1) bits
barrier_left graph bits at none b =
    as_bits 2 (length graph.points) (λ r t. (r ≡ 0) × (t < at) × (is_barrier (kind_at graph t) ≡ true))
    (λ r t. (r ≡ 0) × (t < at + 1) × (is_barrier (kind_at graph t) ≡ true)) bits b
    (λ r t h k (z, l, is). (z, omega (arith, l), is))
    (λ r t h k (z, l, is). ⊎_elim (λ e. absurd (both_ways _ (subst (λ u. is_barrier (kind_at graph u) ≡ false) (sym e) none) is)) (λ e. (z, omega (arith, l, e), is)) (cases_eq t at))

pub barriers_all : (graph : Graph) (bits : Bits) (n : ℕ) → length graph.points ≤ n → BarriersBelow graph n bits → AreBarriers graph bits
barriers_all graph bits n l b =
    as_bits 2 (length graph.points) (λ r t. (r ≡ 0) × (t < n) × (is_barrier (kind_at graph t) ≡ true))
    (λ r t. (r ≡ 0) × (is_barrier (kind_at graph t) ≡ true)) bits b
    (λ r t h k (z, m, is). (z, is)) (λ r t h k (z, is). (z, omega (arith, k, l), is))

-- ---- syncs, point after point

pub from_sync : (kind : PointKind) → is_sync kind ≡ true → kind ≡ Sync
from_sync Start is = cc
from_sync Plain is = cc
from_sync (Access number) is = cc
from_sync Sync is = refl
from_sync Barrier is = cc
from_sync StoreSync is = cc
from_sync Call is = cc
from_sync Return is = cc

pub no_syncs : (graph : Graph) (reached : Bits) → AreSyncsIn graph reached 0 []
no_syncs graph reached s = (λ i. absurd (in_nil s i), λ (l, h, k). absurd (omega (arith, l)))

pub sync_found : (graph : Graph) (reached : Bits) (at : ℕ) (syncs : List ℕ) → kind_at graph at ≡ Sync → IsSet reached 0 at → AreSyncsIn graph reached at syncs
    → AreSyncsIn graph reached (at + 1) (syncs ++ at ∷ [])
sync_found graph reached at syncs is here h s = (
  (λ i. ⊎_elim (λ j. let (l, k, t) = (h s).0 j in (omega (arith, l), k, t))
      (λ e. (omega (arith, e), subst (λ u. kind_at graph u ≡ Sync) e is, subst (IsSet reached 0) e here)) (Contains-push_cases syncs at s i)),
  (λ (l, k, t). ⊎_elim (λ e. subst (Contains (syncs ++ at ∷ [])) (sym e) (Contains-push syncs at))
      (λ e. Contains-append_left syncs (at ∷ []) s ((h s).1 (omega (arith, l, e), k, t))) (cases_eq s at)),
)

pub sync_left : (graph : Graph) (reached : Bits) (at : ℕ) (syncs : List ℕ) → ((kind_at graph at ≡ Sync) → IsSet reached 0 at → ⊥) → AreSyncsIn graph reached at syncs
    → AreSyncsIn graph reached (at + 1) syncs
sync_left graph reached at syncs none h s = (
  (λ i. let (l, k, t) = (h s).0 i in (omega (arith, l), k, t)),
  (λ (l, k, t). ⊎_elim (λ e. absurd (none (subst (λ u. kind_at graph u ≡ Sync) e k) (subst (IsSet reached 0) e t)))
      (λ e. (h s).1 (omega (arith, l, e), k, t)) (cases_eq s at)),
)

-- ---- ways that are clear, and paths, by the rows of barriers and of none

free_from : (graph : Graph) (bits : Bits) (z : ℕ) → AreBarriers graph bits → (IsSet bits 0 z → ⊥) → is_barrier (kind_at graph z) ≡ false
free_from graph bits z b h =
    ⊎_elim (λ l. false_from_ne_true _ (λ t. h ((b.pairs 0 z).1 (omega arith, l, (refl, t)))))
    (λ l. ap is_barrier (kind_past graph z l)) (cases_lt z (length graph.points))

free_to : (graph : Graph) (bits : Bits) (z : ℕ) → AreBarriers graph bits → is_barrier (kind_at graph z) ≡ false → IsSet bits 0 z → ⊥
free_to graph bits z b f s = let (x, y, (e, t)) = (b.pairs 0 z).0 s in both_ways _ f t

clear_from : (graph : Graph) (bits : Bits) (a u : ℕ) → AreBarriers graph bits → ReachesBy graph bits 0 a u → Clear graph a u
clear_from graph bits a u b = leads_as (Goes graph) (λ z. IsSet bits 0 z → ⊥) (λ z. is_barrier (kind_at graph z) ≡ false) (λ z h. free_from graph bits z b h) a u

clear_to : (graph : Graph) (bits : Bits) (a u : ℕ) → AreBarriers graph bits → Clear graph a u → ReachesBy graph bits 0 a u
clear_to graph bits a u b = leads_as (Goes graph) (λ z. is_barrier (kind_at graph z) ≡ false) (λ z. IsSet bits 0 z → ⊥) (λ z h. free_to graph bits z b h) a u

path_from : (graph : Graph) (bits : Bits) (a u : ℕ) → ReachesBy graph bits 1 a u → Path graph a u
path_from graph bits a u = leads_as (Goes graph) (λ z. IsSet bits 1 z → ⊥) (λ z. Unit {0}) (λ z h. tt) a u

path_to : (graph : Graph) (bits : Bits) (a u : ℕ) → AreBarriers graph bits → Path graph a u → ReachesBy graph bits 1 a u
path_to graph bits a u b =
    leads_as (Goes graph) (λ z. Unit {0}) (λ z. IsSet bits 1 z → ⊥) (λ z h s. let (x, y, (e, t)) = (b.pairs 1 z).0 s in omega (arith, e)) a u

-- ---- where an access is over

pub not_both : (kind : SiteKind) → is_blocking kind ≡ true → is_split kind ≡ false
not_both Read is = refl
not_both Write is = refl
not_both (Copy Blocking) is = refl
not_both Get is = cc
not_both Put is = cc
not_both Store is = cc
not_both (Copy mode) is = cc

pub over_split : (graph : Graph) (site : Site) (bits reached found : Bits) (syncs : List ℕ) (at n : ℕ) → AreBarriers graph bits → is_blocking site.kind ≡ false
    → is_split site.kind ≡ true → IsOf 1 (length graph.points) (λ r u. ReachesBy graph bits 1 at u) reached → length graph.points ≤ n
    → AreSyncsIn graph reached n syncs
    → AreReachedFromAny graph syncs bits 0 found → IsOf 1 (length graph.points) (λ r u. IsOverBefore graph site at u) found
over_split graph site bits reached found syncs at n b none holds f l are g =
    as_bits 1 (length graph.points) (λ r u. (a : ℕ) × Contains syncs a × ReachesBy graph bits 0 a u) (λ r u. IsOverBefore graph site at u) found g
    (λ r u h k (s, i, way). let (m, is, t) = (are s).0 i in let (x, y, to) = (f.pairs 0 s).0 t in
    inr (holds, s, is, path_from graph bits at s to, clear_from graph bits s u b way))
    (λ r u h k s. ⊎_elim (λ (t, way). absurd (both_ways _ none t))
    (λ (t, s, is, to, way).
    let below : s < length graph.points = point_of s is in
    (s, (are s).1 (omega (arith, below, l), is, (f.pairs 0 s).1 (omega arith, below, path_to graph bits at s b to)), clear_to graph bits s u b way)) s)
  where
    point_of : (s : ℕ) → kind_at graph s ≡ Sync → s < length graph.points
    point_of s is = ⊎_elim (λ l. l) (λ l. absurd (let plain = kind_past graph s l in cc)) (cases_lt s (length graph.points))

pub over_none : (graph : Graph) (site : Site) (found : Bits) (at n : ℕ) → is_blocking site.kind ≡ false → is_split site.kind ≡ false → found ≡ no_bits 1 n
    → n ≡ length graph.points → IsOf 1 (length graph.points) (λ r u. IsOverBefore graph site at u) found
over_none graph site found at n none nor e l =
    none_of 1 (length graph.points) (λ r u. IsOverBefore graph site at u) found (e ∙ ap (no_bits 1) l)
    (λ r u h k s. ⊎_elim (λ (t, way). both_ways _ none t) (λ (t, z, is, to, way). both_ways _ nor t) s)

pub points_of : (graph : Graph) (reached : Bits) (syncs items : List ℕ) → items ≡ syncs → AreSyncsIn graph reached (length graph.points) syncs
    → All (IsPointOf graph) items
points_of graph reached syncs items e are k d l =
    ((are (get_or items k d)).0 (subst (λ xs. Contains xs (get_or items k d)) e (Contains-get_or items k d l))).0

pub split_answer : {E : Type 0} (graph : Graph) (site : Site) (bits reached : Bits) (syncs items : List ℕ) (at : ℕ) (result : Result Bits E) → AreBarriers graph bits
    → is_blocking site.kind ≡ false → is_split site.kind ≡ true → IsOf 1 (length graph.points) (λ r u. ReachesBy graph bits 1 at u) reached → items ≡ syncs
    → AreSyncsIn graph reached (length graph.points) syncs → IfOk result (AreReachedFromAny graph items bits 0)
    → IfOk result (IsOf 1 (length graph.points) (λ r u. IsOverBefore graph site at u))
split_answer graph site bits reached syncs items at (Ok found) b none is f e are g =
    over_split graph site bits reached found syncs at (length graph.points) b none is f (omega arith) are (subst (λ xs. AreReachedFromAny graph xs bits 0 found) e g)
split_answer graph site bits reached syncs items at (Err x) b none is f e are g = tt

pub none_answer : {E : Type 0} (graph : Graph) (site : Site) (at n : ℕ) (result : Result Bits E) → is_blocking site.kind ≡ false → is_split site.kind ≡ false
    → IfOk result (λ b. b ≡ no_bits 1 n) → n ≡ length graph.points → IfOk result (IsOf 1 (length graph.points) (λ r u. IsOverBefore graph site at u))
none_answer graph site at n (Ok found) none nor e l = over_none graph site found at n none nor e l
none_answer graph site at n (Err x) none nor e l = tt
