-- What an expression adds to a flow that is drawn. Its first step is entered from the points `froms`, and those from
-- which evaluation goes on behind it are `froms` then. The sites whose fetched value it may give come behind `takes`,
-- and the locals that occur in it, with the node mark, are put among `occurs`.
use Rattle.std.specs.Prelude.{ℕ, List, ◌++◌, length, map, flat_map, filter_map}
use Rattle.sc_core.specs.Core.{Core, Arguments}
use Rattle.flow_form.specs.declared.scan.Entry.{Entry}
use Rattle.flow_form.specs.Within.{Within, Placed}
use Rattle.flow_form.specs.Occurring.{occurring, occurring_all}
use Rattle.flow_form.specs.Exits.{fetched, fetched_all, exits, exits_all}
use Rattle.flow_form.specs.Expressions.{points, points_all}
use Rattle.flow_draw.specs.declared.drawing.Drawing.{Drawing}
use Rattle.flow_draw.specs.Noted.{noted}
use Rattle.flow_draw.specs.Around.{edges_by}

module _ (entries : List Entry) where
  -- with these points more, behind which evaluation goes on from there
  unfoldable pub with_points : List Placed → (froms takes occurs : List ℕ) → Drawing → Drawing
  with_points ps froms takes occurs d = record {
    points = d.points ++ map (λ p. p.point) ps;
    edges = d.edges ++ flat_map (edges_by entries) ps;
    sites = d.sites ++ filter_map (λ p. p.site) ps;
    froms = froms;
    takes = d.takes ++ takes;
    occurs = noted occurs d.occurs;
  }

  unfoldable pub drawn : Within → Core → Drawing → Drawing
  drawn w e d =
      let k = length d.points in
      let s = length d.sites in
      with_points (points w e k s d.froms) (exits w.returns e k d.froms) (fetched e s) (occurring w.params e) d

  unfoldable pub drawn_all : Within → Arguments → Drawing → Drawing
  drawn_all w arguments d =
      let k = length d.points in
      let s = length d.sites in
      with_points (points_all w arguments k s d.froms) (exits_all w.returns arguments k d.froms)
      (fetched_all arguments s) (occurring_all w.params arguments) d
