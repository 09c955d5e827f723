-- A flow while the statements of a function are drawn: beside the drawing, the points from which `break` and
-- `continue` lead, and those from which evaluation comes to the end of the innermost `if`, over the arms so far.
use Rattle.std.specs.Prelude.{ℕ, List, ◌++◌, length, map, flat_map, filter_map}
use Rattle.sc_core.specs.Core.{Does}
use Rattle.flow_form.specs.declared.scan.Entry.{Entry}
use Rattle.flow_form.specs.Within.{Within, Placed}
use Rattle.flow_form.specs.Exits.{leaves}
use Rattle.flow_form.specs.Statements.{points_in}
use Rattle.flow_draw.specs.declared.drawing.Drawing.{Drawing}
use Rattle.flow_draw.specs.Around.{edges_by}
use Rattle.flow_walk.specs.declared.walk.Walk.{Walk}

-- with these points more, behind which evaluation goes on from there
unfoldable pub gaining : List Entry → List Placed → (froms : List ℕ) → Drawing → Drawing
gaining entries ps froms d = record d {
  points = d.points ++ map (λ p. p.point) ps;
  edges = d.edges ++ flat_map (edges_by entries) ps;
  sites = d.sites ++ filter_map (λ p. p.site) ps;
  froms = froms;
}

-- behind a statement
unfoldable pub walked : List Entry → Within → Does → Walk → Walk
walked entries w d x =
    let k = length x.drawing.points in
    let l = leaves w.returns d k x.drawing.froms in
    record {
      drawing = gaining entries (points_in w d k (length x.drawing.sites) x.drawing.froms) l.falls x.drawing;
      breaks = x.breaks ++ l.breaks;
      continues = x.continues ++ l.continues;
      ends = x.ends;
    }
