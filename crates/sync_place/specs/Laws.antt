-- What holds of placed and early plans, whatever the delays are.
use Rattle.std.specs.Prelude.{◌≡◌, ◌↔◌, ◌⊎◌, ℕ, [], Bool, true, Some, slice_get}
use Rattle.effect_order.specs.Flow as order
use Rattle.effect_order.specs.Plan as order_plan
use Rattle.site_graph.specs.declared.plan.Plan.{Plan}
use Rattle.site_graph.specs.declared.point.Point.{Point}
use Rattle.site_graph.specs.declared.point.PointKind.TheVariants.{Start, Plain}
use Rattle.site_graph.specs.Bits.{Bits}
use Rattle.site_graph.specs.Graph.{Graph, IsAt}
use Rattle.site_graph.specs.Kept.{IsFlow}
use Rattle.site_graph.specs.Order.{order_flow}
use Rattle.site_graph.specs.Plans.{IsFirst, IsPlan, WaitsInTime}
use Rattle.sync_place.specs.Placed.{Demand, First, GoesOneWay, IsPlacedPlan, IsEarlyPlan}

-- a plan that waits at first demands
abbrev pub IsOne : Graph → (delays : Bits) → Plan → Type 0
IsOne graph delays plan = IsPlacedPlan graph delays plan ⊎ IsEarlyPlan graph delays plan

-- code with such a plan waits in time
abbrev pub PlansWaitInTime : Type 0
PlansWaitInTime = (graph : Graph) (delays : Bits) (plan : Plan) → IsFlow graph → IsOne graph delays plan →
    WaitsInTime graph plan

-- Start and the first point of a function do nothing, and so demand nothing
abbrev pub FirstPointsAreIdle : Graph → Type 0
FirstPointsAreIdle graph =
    (t : ℕ) (p : Point) → IsFirst graph t → slice_get graph.points t ≡ Some p
    → ((p.kind ≡ Start) ⊎ (p.kind ≡ Plain)) × (p.takes ≡ []) × (p.reads ≡ [])
    × ((local : ℕ) → p.writes ≡ Some local → ⊥)

-- such a plan is a plan of the flow
abbrev pub PlansArePlans : Type 0
PlansArePlans =
    (graph : Graph) (delays : Bits) (plan : Plan) → IsFlow graph → FirstPointsAreIdle graph →
    IsOne graph delays plan → IsPlan graph plan

-- ---- the demands are those of the laws of the order

-- the point u demands the access of the point t's site
abbrev pub OrderDemand : Graph → (delays : Bits) → (t u : ℕ) → Type 0
OrderDemand graph delays t u = (site : ℕ) × IsAt graph site t × Demand graph delays site u

-- at the points of sites, first demands and one-way sites are those that the laws of the order speak of
pub record IsOfOrder (graph : Graph) (delays : Bits) (flow : order.Flow ℕ) : Type 0 where
  pub demand : (site t u : ℕ) → IsAt graph site t → Demand graph delays site u ↔ OrderDemand graph delays t u
  pub first : (site t u : ℕ) → IsAt graph site t →
      First graph delays site u ↔ order_plan.First flow.Goes (OrderDemand graph delays) t u
  pub one_way : (site t : ℕ) → IsAt graph site t →
      GoesOneWay graph delays site ↔ order_plan.OneWay flow.Goes (OrderDemand graph delays) flow.may_go_one_way
      flow.is_barrier t

abbrev pub PlansAreOfOrder : Type 0
PlansAreOfOrder =
    (graph : Graph) (delays : Bits) (own across meets : ℕ → ℕ → Bool) → IsFlow graph →
    IsOfOrder graph delays
    (order_flow graph (λ t u. own t u ≡ true) (λ t u. across t u ≡ true) (λ t u. meets t u ≡ true))
