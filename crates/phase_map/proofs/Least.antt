-- A pass that notes no local has found all uneven points: by induction on why a point or a local is uneven.
use Rattle.std.proofs.Common.{◌≡◌, ◌≢◌, ◌↔◌, ℕ, ◌<◌, List, Some, None, Option, length, refl, sym, ap, ◌∙◌, subst, inl, inr, arith}
use Rattle.std.specs.List.{Contains, slice_get}
use Rattle.std.specs.Option.{option_map_or}
use Rattle.std.proofs.lemmas.Option.{slice_get_within}
use Rattle.site_graph.specs.declared.point.Point.{Point}
use Rattle.site_graph.specs.declared.point.PointKind.TheVariants.{Plain, Return}
use Rattle.site_graph.specs.declared.point.TheConstants.{NODE_MARK}
use Rattle.site_graph.specs.Bits.{Bits, IsSet}
use Rattle.site_graph.specs.Graph.{Graph, kind_at}
use Rattle.site_graph.specs.Reached.{AreReachedFromAny}
use Rattle.site_graph.specs.Ways.{Clear}
use Rattle.phase_map.specs.declared.noting.Locals.{Locals}
use Rattle.phase_map.specs.Uneven.{IsPoint, UnevenPoint, UnevenLocal, returns, reads_mark, reads_local, of_called, main_called, set_by_mark, set_by_local, set_behind}
use Rattle.phase_map.specs.Noting.{AreBarriers, MayDiffer, AreKnown, ArePartings, AllNoted}
use Rattle.phase_map.proofs.Partings.{parts_so, clear_to}

some_point : (graph : Graph) (t : ℕ) → kind_at graph t ≡ Return → (p : Point) × IsPoint graph t p
some_point graph t is = some_or (slice_get graph.points t) refl
  where
    some_or : (o : Option Point) → slice_get graph.points t ≡ o → (p : Point) × (slice_get graph.points t ≡ Some p)
    some_or (Some p) e = (p, e)
    some_or None e = absurd (let plain : kind_at graph t ≡ Plain = ap (λ o. option_map_or (λ (q : Point). q.kind) o Plain) e in cc)

module _ (graph : Graph) (known : Locals) (ts : List ℕ) (behind : Bits) (is : AreKnown graph known) (a : ArePartings graph known (length graph.points) ts)
    (reached : (u t : ℕ) → t < length graph.points → Contains ts u → Clear graph u t → IsSet behind 0 t) (all : AllNoted graph behind (length graph.points) known) where
  mutual
    point_found : (t : ℕ) → UnevenPoint graph t → Contains ts t
    point_found _ (returns t two kind) =
        let (p, at) = some_point graph t kind in
        (a t).1 (slice_get_within graph.points t p at, (two, (p, at, inl (sym (ap (λ o. option_map_or (λ (q : Point). q.kind) o Plain) at) ∙ kind))))
    point_found _ (reads_mark t p two at i) = (a t).1 (slice_get_within graph.points t p at, (two, (p, at, inr (NODE_MARK, i, inl refl))))
    point_found _ (reads_local t x p two at i e d) =
        (a t).1 (slice_get_within graph.points t p at, (two, (p, at, inr (x, i, inr (local_found p.function x d e)))))

    local_found : (f x : ℕ) → UnevenLocal graph f x → x ≢ NODE_MARK → MayDiffer known f x
    local_found _ _ (of_called f x other) e = inr (inl (λ own. other ((is.main_is f).1 own)))
    local_found _ _ (main_called f x called) e = inl (is.called_is.1 called)
    local_found _ _ (set_by_mark w x p at writes mark) e = all w x p (slice_get_within graph.points w p at) at writes e (inr (NODE_MARK, mark, inl refl))
    local_found _ _ (set_by_local w x y p at writes i other d) e =
        all w x p (slice_get_within graph.points w p at) at writes e (inr (y, i, inr (local_found p.function y d other)))
    local_found _ _ (set_behind u w x p uneven clear at writes) e =
        all w x p (slice_get_within graph.points w p at) at writes e (inl (reached u w (slice_get_within graph.points w p at) (point_found u uneven) clear))

pub all_found : (graph : Graph) (known : Locals) (ts items : List ℕ) (barriers behind : Bits) → AreKnown graph known
    → ArePartings graph known (length graph.points) ts → items ≡ ts → AreBarriers graph barriers → AreReachedFromAny graph items barriers 0 behind
    → AllNoted graph behind (length graph.points) known → (t : ℕ) → Contains ts t ↔ UnevenPoint graph t
all_found graph known ts items barriers behind is a e b r all t = (
  (λ i. parts_so graph known t is ((a t).0 i).1),
  (λ u. point_found graph known ts behind is a reached all t u),
)
  where
    reached : (u t : ℕ) → t < length graph.points → Contains ts u → Clear graph u t → IsSet behind 0 t
    reached u t l i way = (r.pairs 0 t).1 (omega arith, l, (u, subst (λ xs. Contains xs u) (sym e) i, clear_to graph barriers u t b way))
