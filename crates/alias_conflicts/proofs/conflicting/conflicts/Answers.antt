use Rattle.std.proofs.Common.{◌∙◌, ap, subst}
use Rattle.site_graph.specs.Graph.{Graph}
use Rattle.alias_conflicts.specs.Pairs.{AreTables}
use Rattle.alias_conflicts.proofs.Tables.{tables_grow, all_tables, item_at, all_items}
use Rattle.alias_conflicts.proofs.conflicting.conflicts.Goals as goal

pub loop-before-preserved : goal.loop-before-preserved
loop-before-preserved c =
    let same = c.as_slice-sites.ensures ∙ ap (λ (g : Graph). g.sites) c.flow.view_is in
    tables_grow c.args.layout.now c.args.flow.now c.args.phases.now.meets c.loop-before.before _ c.loop-before.cross c.loop-before.own c.conflicts_of.new.cross c.conflicts_of.new.own
    (item_at c.as_slice-sites.result.now c.args.flow.now.sites c.loop-before.before _ same c.loop-before-test.true) c.loop-before.invariant c.conflicts_of.ensures

pub returns : goal.returns
returns c =
    let same = c.as_slice-sites.ensures ∙ ap (λ (g : Graph). g.sites) c.flow.view_is in
    let end = all_items c.as_slice-sites.result.now c.args.flow.now.sites c.loop-before.before same c.loop-before.auto.before-end c.loop-before-test.false in
    all_tables c.args.layout.now c.args.flow.now c.args.phases.now.meets c.loop-before.cross c.loop-before.own
    (subst (λ n. AreTables c.args.layout.now c.args.flow.now c.args.phases.now.meets n c.loop-before.cross c.loop-before.own) end c.loop-before.invariant)
