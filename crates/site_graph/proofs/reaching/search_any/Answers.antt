use Rattle.std.proofs.Common.{◌∙◌, List, length, sym, ap, subst, arith}
use Rattle.std.specs.List.{Contains}
use Rattle.std.proofs.lemmas.Bool.{both_ways}
use Rattle.std.proofs.lemmas.List.{nil_from_length}
use Rattle.site_graph.specs.declared.point.Point.{Point}
use Rattle.site_graph.specs.Graph.{Graph}
use Rattle.site_graph.specs.Kept.{IsFlow}
use Rattle.site_graph.proofs.Opened.{begun_all}
use Rattle.site_graph.proofs.Searching.{search_begins, search_stops, search_goes, search_ends, listed_within}
use Rattle.site_graph.proofs.reaching.search_any.Goals as goal

pub loop-point-init : goal.loop-point-init
loop-point-init c =
    search_begins c.args.flow.now c.args.stops.now c.args.stop_row (Contains c.args.starts.now) _ c.in_ok-found.found c.open_from_all.new.found c.new-todo.result.items c.open_from_all.new.todo.items c.in_ok-found.ensures
    (ap (λ (xs : List Point). length xs) (c.as_slice.ensures ∙ ap (λ (g : Graph). g.points) c.flow.view_is)) c.new-todo.ensures.items
    (begun_all c.args.flow.now c.args.starts.now _ _ _ _ c.in_ok-open_from_all.ensures)

pub get-requires-clause-column : goal.get-requires-clause-column
get-requires-clause-column c =
    let l = listed_within c.args.flow.now c.args.stops.now c.args.stop_row (Contains c.args.starts.now) c.in-Some.point c.loop-point.found c.loop-point.todo.items c.pop.new.self.items
    (subst IsFlow c.flow.view_is c.flow.invariant) c.in-Some.ensures.items c.loop-point.invariant in
    omega (arith, l, c.requires.columns)

pub open_from-requires-clause-point : goal.open_from-requires-clause-point
open_from-requires-clause-point c =
    listed_within c.args.flow.now c.args.stops.now c.args.stop_row (Contains c.args.starts.now) c.in-Some.point c.loop-point.found c.loop-point.todo.items c.pop.new.self.items
    (subst IsFlow c.flow.view_is c.flow.invariant) c.in-Some.ensures.items c.loop-point.invariant

pub loop-point-preserved-in-Continue-branch-3 : goal.loop-point-preserved-in-Continue-branch-3
loop-point-preserved-in-Continue-branch-3 c =
    search_goes c.args.flow.now c.args.stops.now c.args.stop_row (Contains c.args.starts.now) c.in-Some.point c.loop-point.found c.open_from.new.found c.loop-point.todo.items
    c.pop.new.self.items c.open_from.new.todo.items c.in-Some.ensures.items (λ s. both_ways _ c.if-not-get.true (c.get.ensures.1 s)) c.loop-point.invariant
    c.in_ok-open_from.ensures

pub loop-point-preserved : goal.loop-point-preserved
loop-point-preserved c =
    search_stops c.args.flow.now c.args.stops.now c.args.stop_row (Contains c.args.starts.now) c.in-Some.point c.loop-point.found c.loop-point.todo.items c.pop.new.self.items
    c.in-Some.ensures.items (c.get.ensures.0 c.if-not-get.false) c.loop-point.invariant

pub returns : goal.returns
returns c =
    search_ends c.args.flow.now c.args.stops.now c.args.stop_row (Contains c.args.starts.now) c.loop-point.found c.loop-point.todo.items (subst IsFlow c.flow.view_is c.flow.invariant)
    (nil_from_length c.loop-point.todo.items (sym c.loop-point.todo.ok.0 ∙ c.in_default.ensures.cases.0)) c.loop-point.invariant
