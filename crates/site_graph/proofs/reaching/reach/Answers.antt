use Rattle.std.proofs.Common.{List, length, ap, ◌∙◌, subst}
use Rattle.std.proofs.lemmas.Result.{IfOk-weaker}
use Rattle.site_graph.specs.declared.point.Point.{Point}
use Rattle.site_graph.specs.Graph.{Graph}
use Rattle.site_graph.specs.Kept.{IsFlow}
use Rattle.site_graph.specs.Reached.{AreReached, AreReachedFrom}
use Rattle.site_graph.proofs.Starts.{starts_within, starts_few, from_all}
use Rattle.site_graph.proofs.reaching.reach.Goals as goal

pub reach_from-requires : goal.reach_from-requires
reach_from-requires c =
    let points = c.as_slice.ensures ∙ ap (λ (g : Graph). g.points) c.flow.view_is in
    record {
      few =
          starts_few c.args.flow.now c.deref.result.now c.in_ok-starts.starts.items c.as_slice.result.now (subst IsFlow c.flow.view_is c.flow.invariant) points
          c.deref.ensures.value c.in_ok-starts.ensures;
      points = starts_within c.args.flow.now c.deref.result.now c.in_ok-starts.starts.items c.as_slice.result.now points c.deref.ensures.value c.in_ok-starts.ensures;
      stops = c.requires;
    }

pub returns : goal.returns
returns c =
    let points = c.as_slice.ensures ∙ ap (λ (g : Graph). g.points) c.flow.view_is in
    IfOk-weaker c.reach_from.result (AreReachedFrom c.args.flow.now c.deref.result.now c.args.stops.now) (AreReached c.args.flow.now c.args.stops.now)
    (λ b h. from_all c.args.flow.now c.deref.result.now c.args.stops.now b (length c.as_slice.result.now) (c.deref.ensures.value ∙ c.in_ok-starts.ensures)
    (ap (λ (xs : List Point). length xs) points) h)
    c.reach_from.ensures
