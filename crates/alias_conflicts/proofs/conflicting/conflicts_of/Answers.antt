use Rattle.std.proofs.Common.{◌∙◌, ap}
use Rattle.site_graph.specs.Graph.{Graph}
use Rattle.alias_conflicts.proofs.Tables.{rows_marked, item_at}
use Rattle.alias_conflicts.proofs.conflicting.conflicts_of.Goals as goal

pub loop-before-preserved : goal.loop-before-preserved
loop-before-preserved c =
    let same = c.as_slice-other-items.ensures ∙ ap (λ (g : Graph). g.sites) c.flow.view_is in
    rows_marked c.args.layout.now c.args.flow.now c.args.meets.now c.args.number c.args.site.now _ c.loop-before.before c.conflict_across-from_two.result c.share_own-from_one.result
    c.args.cross.now c.args.own.now c.loop-before.cross c.loop-before.own c.mark.new.rows c.mark-in-loop-before.new.rows
    (item_at c.as_slice-other-items.result.now c.args.flow.now.sites c.loop-before.before _ same c.loop-before-test.true)
    c.conflict_across-from_two.ensures c.share_own-from_one.ensures c.loop-before.invariant c.mark.ensures c.mark-in-loop-before.ensures
