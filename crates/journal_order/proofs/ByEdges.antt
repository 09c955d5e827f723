-- The source order of a run that can be ordered, by edges; and the items with some numbers, one after another.
use Rattle.std.proofs.Common.{◌≡◌, ℕ, zero, suc, Bool, true, false, ◌==◌, if◌then◌else◌, ◌<◌, List, [], ◌∷◌, length, get_or, reverse, Some, None, All, subst, arith}
use Rattle.sc_meaning.specs.declared.event.SourceEvent.TheVariants.{Release}
use Rattle.effect_order.specs.Lists.{Each}
use Rattle.least_order.specs.declared.edge.Edge.{Edge}
use Rattle.least_order.specs.Least.{taken, least_order}
use Rattle.least_order.proofs.Items.{orderable_least}
use Rattle.least_order.proofs.Reduced.{taken_within}
use Rattle.source_order.specs.Moments.{does, sooner}
use Rattle.source_order.specs.Items.{items, may_follow}
use Rattle.source_order.specs.Needs.{needs}
use Rattle.source_order.proofs.Orderable.{items_are_orderable}
use Rattle.journal_order.specs.Ordering.{OrderIsByEdges}

pub order_is_by_edges : OrderIsByEdges
order_is_by_edges processes machine journal edges can ways =
    orderable_least does processes.start (sooner processes.start (reverse journal)) (needs (reverse journal))
    (may_follow processes (reverse journal)) (items processes.start processes.nodes (reverse journal)) (Release 0) edges
    (items_are_orderable processes machine journal can.waits can.run can.made can.no_cycle) ways

each_at : {X : Type 0} (P : X → Type 0) (xs : List X) → Each P xs → (k : ℕ) (d : X) → k < length xs → P (get_or xs k d)
each_at P [] e k d w = absurd (omega (arith, w))
each_at P (x ∷ xs) e zero d w = e.0
each_at P (x ∷ xs) e (suc k) d w = each_at P xs e.1 k d (omega (arith, w))

-- the least order has numbers of items alone
pub numbers_within : (edges : List Edge) (count : ℕ) (order : List ℕ) → least_order edges count ≡ Some order →
    All (λ number. number < count) order
numbers_within edges count order is = by (length (taken edges count) == count) is
  where
    by : (b : Bool) → (if b then Some (taken edges count) else None) ≡ Some order → All (λ number. number < count) order
    by true e =
        let same : taken edges count ≡ order = cc in
        subst (All (λ number. number < count)) same (each_at (λ number. number < count) (taken edges count) (taken_within edges count))
    by false e = absurd cc
