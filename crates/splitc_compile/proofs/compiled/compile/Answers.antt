-- Each part is that of the ones before.
use Rattle.std.proofs.Common.{rules, ◌≡◌, ◌<◌, ◌^◌, ◌∙◌, sym, ap, subst}
use Rattle.site_graph.specs.Graph.{Graph}
use Rattle.sc_core.specs.ViewStatements.{plain_program}
use Rattle.sc_core.specs.Lowering.{core_of}
use Rattle.sc_core.specs.Core.{Program}
use Rattle.sc_tree.specs.ViewTypedTree.{plain_typed_tree}
use Rattle.node_emit.specs.Sources.{IsCodeOf}
use Rattle.node_emit.specs.Law.{BeginsInMain}
use Rattle.splitc_compile.proofs.Begins.{begins_in_main}
use Rattle.splitc_compile.proofs.compiled.compile.Goals as goal

pub returns-clause-compiled : goal.returns-clause-compiled
returns-clause-compiled c =
    let source = c.args.source.now in
    let nodes = c.args.nodes in
    let accepted = c.in-Ok.accepted in
    let typed = plain_typed_tree accepted.typed in
    let a = c.in-Ok.ensures in
    let core_is : plain_program c.in_ok-core.core ≡ core_of typed = c.in_ok-core.ensures.core in
    let plan = c.in_ok-analysed.analysed.plan in
    let code = c.in_ok-code.code in
    record {
      accepted = a;
      are_parts = record {
        core_is = core_is;
        laid = c.in_ok-core.ensures.laid source nodes a;
        named = c.in_ok-core.ensures.named source nodes a;
        few_sites = c.in_ok-analysed.ensures.within;
        flow_is = c.in_ok-analysed.ensures.flow;
        delays_are = c.in_ok-analysed.ensures.delays;
        plan_is = c.in_ok-analysed.ensures.plan;
        few_locals = c.in_ok-code.ensures.within;
        code_is = c.in_ok-code.ensures.code;
        begins = subst (λ (p : Program). IsCodeOf plan p code → BeginsInMain p code) (sym core_is)
            (begins_in_main source nodes accepted.names typed accepted.layout a plan code) c.in_ok-code.ensures.code;
      };
    }
