-- First demands, site after site.
use Rattle.std.proofs.Common.{◌≡◌, ℕ, ◌+◌, ◌<◌, ◌≤◌, List, Some, length, get_or, sym, ap, ◌∙◌, subst, inl, inr, ⊎_elim, arith}
use Rattle.std.specs.Option.{option_map_or}
use Rattle.std.proofs.lemmas.Bool.{cases_eq, cases_lt}
use Rattle.std.proofs.lemmas.Option.{slice_get_past, slice_get-get_or}
use Rattle.effect_order.specs.Flow.{LeadsBy}
use Rattle.site_graph.specs.declared.point.Point.{Point}
use Rattle.site_graph.specs.declared.point.PointKind.TheVariants.{Plain, Access}
use Rattle.site_graph.specs.Bits.{Bits, IsSet, IsOf, IsWithCommon, no_bits}
use Rattle.site_graph.specs.Graph.{Graph, kind_at, IsAt}
use Rattle.site_graph.specs.Kept.{IsFlow}
use Rattle.site_graph.specs.Reached.{ReachesBy}
use Rattle.site_graph.specs.Ways.{Goes}
use Rattle.site_graph.proofs.Starts.{none_of, as_bits}
use Rattle.pending_flow.specs.Pending.{IsFirstDemand, ArePending, IsAdded}

pub site_added : (graph : Graph) (demand found old new : Bits) (site at : ℕ) → IsOf 1 (length graph.points) (λ r t. ReachesBy graph demand site at t) found
    → IsWithCommon site found 0 demand site old new → IsAdded graph demand site at old new
site_added graph demand found old new site at f w = record {
  same_rows = w.same_rows;
  same_columns = w.same_columns;
  pairs = λ r t. (
    (λ s. ⊎_elim inl (λ n. let p = (f.pairs 0 t).0 n.1 in inr (n.0, n.2, p.1, p.2)) ((w.pairs r t).0 s)),
    (λ s. ⊎_elim (λ o. (w.pairs r t).1 (inl o)) (λ n. (w.pairs r t).1 (inr (n.0, (f.pairs 0 t).1 (omega arith, n.2, n.3), n.1))) s),
  );
}

-- the first demands of the sites whose points are below the number
abbrev pub FirstsBelow : Graph → (demand : Bits) → (points : ℕ) → (site t : ℕ) → Type 0
FirstsBelow graph demand n site t =
    IsSet demand site t × ((a : ℕ) × (a < n) × IsAt graph site a × LeadsBy (Goes graph) (λ z. IsSet demand site z → ⊥) a t)

abbrev pub PendingBelow : Graph → (demand : Bits) → (points : ℕ) → Bits → Type 0
PendingBelow graph demand n pending = IsOf (length graph.sites + 1) (length graph.points) (FirstsBelow graph demand n) pending

pub none_pending : (graph : Graph) (demand pending : Bits) (n m : ℕ) → pending ≡ no_bits n m → n ≡ length graph.sites + 1 → m ≡ length graph.points → PendingBelow graph demand 0 pending
none_pending graph demand pending n m e f g =
    none_of (length graph.sites + 1) (length graph.points) (FirstsBelow graph demand 0) pending (e ∙ (ap (λ x. no_bits x m) f ∙ ap (λ x. no_bits (length graph.sites + 1) x) g))
    (λ r c h k q. absurd (omega (arith, q.1.1)))

pub kind_of : (graph : Graph) (points : List Point) (at : ℕ) (p : Point) → points ≡ graph.points → at < length points → p ≡ get_or points at p → kind_at graph at ≡ p.kind
kind_of graph points at p e l is =
    ap (λ ps. kind_at (record graph { points = ps }) at) (sym e) ∙ ap (λ o. option_map_or (λ (q : Point). q.kind) o Plain) (slice_get-get_or points at p l ∙ ap Some (sym is))

-- a point that is no access adds none
pub point_passed : (graph : Graph) (demand pending : Bits) (at : ℕ) → ((number : ℕ) → IsAt graph number at → ⊥) → PendingBelow graph demand at pending
    → PendingBelow graph demand (at + 1) pending
point_passed graph demand pending at none p =
    as_bits (length graph.sites + 1) (length graph.points) (FirstsBelow graph demand at) (FirstsBelow graph demand (at + 1)) pending p
    (λ r c h k q. (q.0, (q.1.0, omega (arith, q.1.1), q.1.2, q.1.3)))
    (λ r c h k (s, (a, l, is, path)). ⊎_elim (λ e. absurd (none r (subst (IsAt graph r) e is))) (λ e. (s, (a, omega arith, is, path))) (cases_eq a at))

pub access_passed : (graph : Graph) (demand old new : Bits) (site at : ℕ) → IsFlow graph → IsAt graph site at → PendingBelow graph demand at old
    → IsAdded graph demand site at old new → PendingBelow graph demand (at + 1) new
access_passed graph demand old new site at kept is p w = record {
  same_rows = w.same_rows ∙ p.same_rows;
  same_columns = w.same_columns ∙ p.same_columns;
  pairs = λ r t. (
    (λ s. ⊎_elim (λ o. let q = (p.pairs r t).0 o in (q.0, q.1, (q.2.0, (q.2.1.0, omega (arith, q.2.1.1), q.2.1.2, q.2.1.3))))
        (λ n. let within = kept.access_within at site is in (
          omega (arith, n.0, within.1),
          n.2,
          subst (λ x. FirstsBelow graph demand (at + 1) x t) (sym n.0) (n.1, (at, omega arith, is, n.3)),
        ))
        ((w.pairs r t).0 s)),
    (λ (h, k, (s, (a, l, here, path))). ⊎_elim
        (λ e. let same : r ≡ site = same_site graph r site a at here is e in
        (w.pairs r t).1 (inr (
          same,
          subst (λ x. IsSet demand x t) same s,
          k,
          subst (λ x. LeadsBy (Goes graph) (λ z. IsSet demand x z → ⊥) at t) same (subst (λ x. LeadsBy (Goes graph) (λ z. IsSet demand r z → ⊥) x t) e path),
        )))
        (λ e. (w.pairs r t).1 (inl ((p.pairs r t).1 (h, k, (s, (a, omega arith, here, path)))))) (cases_eq a at)),
  );
}
  where
    same_site : (graph : Graph) (r site a at : ℕ) → IsAt graph r a → IsAt graph site at → a ≡ at → r ≡ site
    same_site graph r site a at here is e = let same : Access r ≡ Access site = sym here ∙ (ap (kind_at graph) e ∙ is) in cc

past : (graph : Graph) (r a : ℕ) → length graph.points ≤ a → IsAt graph r a → ⊥
past graph r a h is = let e : Plain ≡ Access r = sym (ap (λ o. option_map_or (λ (p : Point). p.kind) o Plain) (slice_get_past graph.points a h)) ∙ is in cc

at_within : (graph : Graph) (n r a : ℕ) → length graph.points ≤ n → IsAt graph r a → a < n
at_within graph n r a l is = ⊎_elim (λ h. omega arith) (λ h. absurd (past graph r a h is)) (cases_lt a (length graph.points))

pub all_passed : (graph : Graph) (demand pending : Bits) (n : ℕ) → length graph.points ≤ n → PendingBelow graph demand n pending → ArePending graph demand pending
all_passed graph demand pending n l p =
    as_bits (length graph.sites + 1) (length graph.points) (FirstsBelow graph demand n) (IsFirstDemand graph demand) pending p
    (λ r c h k q. (q.0, (q.1.0, q.1.2, q.1.3)))
    (λ r c h k (s, (a, is, path)). (s, (a, at_within graph n r a l is, is, path)))
