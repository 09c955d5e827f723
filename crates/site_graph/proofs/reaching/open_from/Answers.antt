use Rattle.std.proofs.Common.{◌+◌, List, length, get_or, ap, subst, ◌∙◌, arith}
use Rattle.site_graph.specs.declared.flow.Edge.{Edge}
use Rattle.site_graph.specs.Graph.{Graph}
use Rattle.site_graph.specs.Kept.{IsFlow}
use Rattle.site_graph.specs.Opened.{IsOpened, IsTarget}
use Rattle.site_graph.specs.Ways.{Goes}
use Rattle.site_graph.proofs.Opened.{as_opened}
use Rattle.site_graph.proofs.Firsts.{firsts_order, target_goes, goes_target, targets_within}
use Rattle.site_graph.proofs.reaching.open_from.Goals as goal

pub open_targets-requires : goal.open_targets-requires
open_targets-requires c =
    let same = c.as_slice.ensures ∙ ap (λ (g : Graph). g.edges) c.flow.view_is in
    let long = ap (λ (xs : List Edge). length xs) same in
    let within = c.requires.firsts.within (c.args.point + 1) (omega arith) in
    record {
      order = firsts_order c.args.flow.now c.args.firsts.now c.args.point c.requires.firsts c.requires.point;
      edges = omega (arith, within, long);
      row = c.requires.row;
      within =
          targets_within c.args.flow.now c.as_slice.result.now c.args.found.now.columns (subst IsFlow c.flow.view_is c.flow.invariant) same c.requires.columns;
    }

pub returns : goal.returns
returns c =
    let same = c.as_slice.ensures ∙ ap (λ (g : Graph). g.edges) c.flow.view_is in
    as_opened (IsTarget c.args.flow.now.edges (get_or c.args.firsts.now c.args.point 0) (get_or c.args.firsts.now (c.args.point + 1) 0))
    (Goes c.args.flow.now c.args.point) c.args.found.now c.open_targets.new.found c.args.todo.now.items c.open_targets.new.todo.items
    (subst
    (λ es. IsOpened (IsTarget es (get_or c.args.firsts.now c.args.point 0) (get_or c.args.firsts.now (c.args.point + 1) 0)) c.args.found.now c.open_targets.new.found
    c.args.todo.now.items c.open_targets.new.todo.items)
    same c.in_ok-open_targets.ensures)
    (λ t g. goes_target c.args.flow.now c.args.firsts.now c.args.point t c.requires.firsts c.requires.point g)
    (λ t g. target_goes c.args.flow.now c.args.firsts.now c.args.point t c.requires.firsts c.requires.point g)
