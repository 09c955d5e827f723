-- The points that a source passes are a walk through its flow, and its requests are those of the points.
use Rattle.std.proofs.Common.{refl}
use Rattle.site_graph.specs.Graph.{Graph}
use Rattle.flow_form.specs.FlowOf.{flow_of}
use Rattle.flow_form.specs.Walk.{GoesOn, Requests}
use Rattle.flow_form.specs.Laws.{PointsAreAWalk, RequestsAreOfTheirPoints}
use Rattle.flow_laws.proofs.Passing.{Keeps, begun_keeps}

walk_is_kept : (graph : Graph) → Keeps graph (GoesOn graph)
walk_is_kept graph = record {
  stops = λ t halt. tt;
  says = λ t text doing h. h;
  asks = λ t request fits go made h. h;
  requests = λ t request doing made h. h;
  passes = λ t u doing goes h. (goes, h);
}

requests_are_kept : (graph : Graph) → Keeps graph (Requests graph)
requests_are_kept graph = record {
  stops = λ t halt. tt;
  says = λ t text doing h. h;
  asks = λ t request fits go made h. (made, h);
  requests = λ t request doing made h. (made, h);
  passes = λ t u doing goes h. h;
}

pub points_are_a_walk : PointsAreAWalk
points_are_a_walk here budget =
    let graph = flow_of here.layout.nodes here.program in
    (refl, begun_keeps here (GoesOn graph) (walk_is_kept graph) budget)

pub requests_are_of_their_points : RequestsAreOfTheirPoints
requests_are_of_their_points here budget =
    let graph = flow_of here.layout.nodes here.program in
    begun_keeps here (Requests graph) (requests_are_kept graph) budget
