-- Rows of bits for the points that stop, and for starting points one after another.
use Rattle.std.proofs.Common.{◌≡◌, ℕ, ◌+◌, ◌^◌, ◌<◌, ◌≤◌, List, [], ◌∷◌, Bool, true, false, length, get_or, zero-add, refl, sym, ap, ◌∙◌, subst, inl, inr, ⊎_elim, arith}
use Rattle.std.specs.List.{All, range_with_len}
use Rattle.std.proofs.lemmas.Bool.{both_ways, cases_eq, cases_lt, false_from_ne_true}
use Rattle.std.proofs.lemmas.List.{get_or_past}
use Rattle.std.proofs.lemmas.List.FromFn.{length-range_with_len, get_or-range_with_len}
use Rattle.effect_order.specs.Flow.{PathBy, LeadsBy}
use Rattle.site_graph.specs.Bits.{Bits, IsSet, IsOf, IsWith, IsWithCommon, no_bits}
use Rattle.site_graph.specs.declared.point.Point.{Point}
use Rattle.site_graph.specs.Graph.{Graph}
use Rattle.site_graph.specs.Kept.{IsFlow, IsPointOf}
use Rattle.site_graph.specs.Reached.{Reaches, ReachesBy, AreReached, AreReachedFrom}
use Rattle.site_graph.specs.Ways.{Goes}
use Rattle.site_graph.proofs.Members.{in_nil}

-- ---- relations of bits

pub as_bits : (n m : ℕ) (R Q : ℕ → ℕ → Type 0) (bits : Bits) → IsOf n m R bits → ((r c : ℕ) → r < n → c < m → R r c → Q r c) → ((r c : ℕ) → r < n → c < m → Q r c → R r c)
    → IsOf n m Q bits
as_bits n m R Q bits b to from = record {
  same_rows = b.same_rows;
  same_columns = b.same_columns;
  pairs = λ r c. (
    (λ s. let p = (b.pairs r c).0 s in (p.0, p.1, to r c p.0 p.1 p.2)),
    (λ q. (b.pairs r c).1 (q.0, q.1, from r c q.0 q.1 q.2)),
  );
}

pub none_of : (n m : ℕ) (R : ℕ → ℕ → Type 0) (bits : Bits) → bits ≡ no_bits n m → ((r c : ℕ) → r < n → c < m → R r c → ⊥) → IsOf n m R bits
none_of n m R bits e none = subst (IsOf n m R) (sym e) (record {
  same_rows = refl;
  same_columns = refl;
  pairs = λ r c. (λ s. absurd (in_nil (r, c) s), λ q. absurd (none r c q.0 q.1 q.2));
})

-- ---- the points that stop

abbrev StopsTo : List Bool → (point : ℕ) → ℕ → ℕ → Type 0
StopsTo stops point r t = (t < point) × (get_or stops t false ≡ true)

pub row_set : (stops : List Bool) (old new : Bits) (point : ℕ) → IsOf 1 (length stops) (StopsTo stops point) old → point < length stops → get_or stops point false ≡ true
    → IsWith 0 point old new → IsOf 1 (length stops) (StopsTo stops (point + 1)) new
row_set stops old new point b l stop w = record {
  same_rows = w.same_rows ∙ b.same_rows;
  same_columns = w.same_columns ∙ b.same_columns;
  pairs = λ r c. (
    (λ s. ⊎_elim (λ o. let p = (b.pairs r c).0 o in (p.0, p.1, (omega (arith, p.2.0), p.2.1)))
        (λ n. (omega (arith, n.0), omega (arith, n.1, l), (omega (arith, n.1), subst (λ x. get_or stops x false ≡ true) (sym n.1) stop)))
        ((w.pairs r c).0 s)),
    (λ (h, k, (m, t)). ⊎_elim (λ e. (w.pairs r c).1 (inr (omega arith, e))) (λ e. (w.pairs r c).1 (inl ((b.pairs r c).1 (h, k, (omega arith, t))))) (cases_eq c point)),
  );
}

pub row_kept : (stops : List Bool) (bits : Bits) (point : ℕ) → IsOf 1 (length stops) (StopsTo stops point) bits → get_or stops point false ≡ false
    → IsOf 1 (length stops) (StopsTo stops (point + 1)) bits
row_kept stops bits point b go =
    as_bits 1 (length stops) (StopsTo stops point) (StopsTo stops (point + 1)) bits b
    (λ r c h k q. (omega (arith, q.0), q.1))
    (λ r c h k q. ⊎_elim (λ e. absurd (both_ways _ (subst (λ x. get_or stops x false ≡ false) (sym e) go) q.1)) (λ e. (omega (arith, q.0, e), q.1)) (cases_eq c point))

pub row_whole : (stops : List Bool) (bits : Bits) (point : ℕ) → IsOf 1 (length stops) (StopsTo stops point) bits → length stops ≤ point
    → IsOf 1 (length stops) (λ r t. get_or stops t false ≡ true) bits
row_whole stops bits point b l =
    as_bits 1 (length stops) (StopsTo stops point) (λ r t. get_or stops t false ≡ true) bits b (λ r c h k q. q.1) (λ r c h k q. (omega (arith, k, l), q))

-- ---- a path by one way of saying which points stop, and by another

pub path_as : {S : Type 0} (Goes : S → S → Type 0) (P Q : S → Type 0) → ((z : S) → P z → Q z) → (a : S) (zs : List S) (b : S) → PathBy Goes P a zs b → PathBy Goes Q a zs b
path_as Goes P Q h a [] b g = g
path_as Goes P Q h a (z ∷ zs) b (g, p, rest) = (g, h z p, path_as Goes P Q h z zs b rest)

pub leads_as : {S : Type 0} (Goes : S → S → Type 0) (P Q : S → Type 0) → ((z : S) → P z → Q z) → (a b : S) → LeadsBy Goes P a b → LeadsBy Goes Q a b
leads_as Goes P Q h a b (zs, path) = (zs, path_as Goes P Q h a zs b path)

-- with a row of bits for the points that stop, a path of the flow goes by either
abbrev StopRow : List Bool → Bits → Type 0
StopRow stops row = IsOf 1 (length stops) (λ r t. get_or stops t false ≡ true) row

free_from : (stops : List Bool) (bits : Bits) (z : ℕ) → StopRow stops bits → (IsSet bits 0 z → ⊥) → get_or stops z false ≡ false
free_from stops bits z b h =
    ⊎_elim (λ l. false_from_ne_true _ (λ t. h ((b.pairs 0 z).1 (omega arith, l, t)))) (λ l. get_or_past stops z false l) (cases_lt z (length stops))

free_to : (stops : List Bool) (bits : Bits) (z : ℕ) → StopRow stops bits → get_or stops z false ≡ false → IsSet bits 0 z → ⊥
free_to stops bits z b f s = both_ways _ f ((b.pairs 0 z).0 s).2

pub reaches_from : (graph : Graph) (stops : List Bool) (bits : Bits) (a t : ℕ) → StopRow stops bits → ReachesBy graph bits 0 a t → Reaches graph stops a t
reaches_from graph stops bits a t b p =
    leads_as (Goes graph) (λ z. IsSet bits 0 z → ⊥) (λ z. get_or stops z false ≡ false) (λ z h. free_from stops bits z b h) a t p

pub reaches_to : (graph : Graph) (stops : List Bool) (bits : Bits) (a t : ℕ) → StopRow stops bits → Reaches graph stops a t → ReachesBy graph bits 0 a t
reaches_to graph stops bits a t b p =
    leads_as (Goes graph) (λ z. get_or stops z false ≡ false) (λ z. IsSet bits 0 z → ⊥) (λ z h. free_to stops bits z b h) a t p

-- ---- starting points, one after another

abbrev ReachedTo : Graph → (starts : List ℕ) → (stops : List Bool) → (count : ℕ) → ℕ → ℕ → Type 0
ReachedTo graph starts stops count r t = (r < count) × Reaches graph stops (get_or starts r 0) t

pub more_reached : (graph : Graph) (starts : List ℕ) (stops : List Bool) (stop_row found old new : Bits) (n start : ℕ) → StopRow stops stop_row
    → IsOf (length starts) (length graph.points) (ReachedTo graph starts stops n) old → n < length starts → start ≡ get_or starts n 0
    → IsOf 1 (length graph.points) (λ r t. ReachesBy graph stop_row 0 start t) found → IsWithCommon n found 0 found 0 old new
    → IsOf (length starts) (length graph.points) (ReachedTo graph starts stops (n + 1)) new
more_reached graph starts stops stop_row found old new n start b o l e f w = record {
  same_rows = w.same_rows ∙ o.same_rows;
  same_columns = w.same_columns ∙ o.same_columns;
  pairs = λ r c. (
    (λ s. ⊎_elim (λ was. let p = (o.pairs r c).0 was in (p.0, p.1, (omega (arith, p.2.0), p.2.1)))
        (λ is. let p = (f.pairs 0 c).0 is.1 in (
          omega (arith, is.0, l),
          p.1,
          (
            omega (arith, is.0),
            reaches_from graph stops stop_row (get_or starts r 0) c b
                (subst (λ x. ReachesBy graph stop_row 0 x c) (e ∙ ap (λ x. get_or starts x 0) (sym is.0)) p.2),
          ),
        ))
        ((w.pairs r c).0 s)),
    (λ (h, k, (m, p)). ⊎_elim
        (λ q. let s = (f.pairs 0 c).1 (omega arith, k, reaches_to graph stops stop_row start c b (subst (λ x. Reaches graph stops x c) (ap (λ x. get_or starts x 0) q ∙ sym e) p)) in
        (w.pairs r c).1 (inr (q, s, s)))
        (λ q. (w.pairs r c).1 (inl ((o.pairs r c).1 (h, k, (omega arith, p)))))
        (cases_eq r n)),
  );
}

pub all_reached : (graph : Graph) (starts : List ℕ) (stops : List Bool) (bits : Bits) (n : ℕ) → IsOf (length starts) (length graph.points) (ReachedTo graph starts stops n) bits
    → length starts ≤ n → AreReachedFrom graph starts stops bits
all_reached graph starts stops bits n b l =
    as_bits (length starts) (length graph.points) (ReachedTo graph starts stops n) (λ r t. Reaches graph stops (get_or starts r 0) t) bits b
    (λ r c h k q. q.1) (λ r c h k q. (omega (arith, h, l), q))

-- from all points
pub from_all : (graph : Graph) (starts : List ℕ) (stops : List Bool) (bits : Bits) (n : ℕ) → starts ≡ range_with_len 0 n → n ≡ length graph.points
    → AreReachedFrom graph starts stops bits → AreReached graph stops bits
from_all graph starts stops bits n e f b =
    let long : length starts ≡ length graph.points = ap (λ (xs : List ℕ). length xs) e ∙ (length-range_with_len 0 n ∙ f) in
    let at_self : (r : ℕ) → r < length graph.points → get_or starts r 0 ≡ r =
    λ r h. ap (λ xs. get_or xs r 0) e ∙ (get_or-range_with_len 0 n r 0 (omega arith) ∙ zero-add r) in
    subst (λ m. IsOf m (length graph.points) (Reaches graph stops) bits) long
    (as_bits (length starts) (length graph.points) (λ r t. Reaches graph stops (get_or starts r 0) t) (Reaches graph stops) bits b
    (λ r c h k q. subst (λ x. Reaches graph stops x c) (at_self r (omega arith)) q)
    (λ r c h k q. subst (λ x. Reaches graph stops x c) (sym (at_self r (omega arith))) q))

pub row_set_as : (stops : List Bool) (old new is : Bits) (point : ℕ) → is ≡ new → IsOf 1 (length stops) (StopsTo stops point) old → point < length stops → get_or stops point false ≡ true
    → IsWith 0 point old new → IsOf 1 (length stops) (StopsTo stops (point + 1)) is
row_set_as stops old new is point e b l stop w = subst (IsOf 1 (length stops) (StopsTo stops (point + 1))) (sym e) (row_set stops old new point b l stop w)

pub row_kept_as : (stops : List Bool) (old is : Bits) (point : ℕ) → is ≡ old → IsOf 1 (length stops) (StopsTo stops point) old → get_or stops point false ≡ false
    → IsOf 1 (length stops) (StopsTo stops (point + 1)) is
row_kept_as stops old is point e b go = subst (IsOf 1 (length stops) (StopsTo stops (point + 1))) (sym e) (row_kept stops old point b go)

pub starts_few : (graph : Graph) (starts of : List ℕ) (points : List Point) → IsFlow graph → points ≡ graph.points → starts ≡ of → of ≡ range_with_len 0 (length points)
    → length starts < 2 ^ 32
starts_few graph starts of points kept e f g =
    let long = ap (λ (xs : List ℕ). length xs) (f ∙ g) ∙ length-range_with_len 0 (length points) in
    let same = ap (λ (xs : List Point). length xs) e in
    let few = kept.few_points in
    omega (arith, long, same, few)

pub starts_within : (graph : Graph) (starts of : List ℕ) (points : List Point) → points ≡ graph.points → starts ≡ of → of ≡ range_with_len 0 (length points)
    → All (IsPointOf graph) starts
starts_within graph starts of points e f g =
    let all = f ∙ g in
    subst (All (IsPointOf graph)) (sym all)
    (λ k d l. let long = length-range_with_len 0 (length points) in
    let at = get_or-range_with_len 0 (length points) k d (omega (arith, l, long)) in
    let same = ap (λ (xs : List Point). length xs) e in
    omega (arith, at, l, long, same))
