-- The flow of a laid source names objects of its layout only, and its first points are entered from no access.
use Rattle.std.proofs.Common.{◌≡◌, length, sym, ap, ◌∙◌, subst}
use Rattle.sc_core.specs.ViewStatements.{plain_program}
use Rattle.site_graph.specs.Graph.{Graph}
use Rattle.site_graph.specs.Kept.{Names as NamesObjects}
use Rattle.flow_form.specs.FlowOf.{flow_of}
use Rattle.sync_place.specs.Plain.{FirstsFollowNoAccess}
use Rattle.flow_facts.proofs.FlowFacts.{flows_name_laid_objects, firsts_are_called}
use Rattle.splitc_compile.proofs.analysed.flow_of.Goals as goal

pub returns-in-Ok-clause-names : goal.returns-in-Ok-clause-names
returns-in-Ok-clause-names c =
    let program = plain_program c.args.core.now in
    subst (λ (graph : Graph). NamesObjects (length c.args.layout.now.objects) graph)
    (sym (c.in-Ok.ensures.flow ∙ ap (λ n. flow_of n program) c.nodes.ensures))
    (flows_name_laid_objects c.args.layout.now program c.requires)

pub returns-in-Ok-clause-firsts : goal.returns-in-Ok-clause-firsts
returns-in-Ok-clause-firsts c =
    subst (λ (graph : Graph). FirstsFollowNoAccess graph) (sym c.in-Ok.ensures.flow)
    (firsts_are_called c.nodes.result (plain_program c.args.core.now))
