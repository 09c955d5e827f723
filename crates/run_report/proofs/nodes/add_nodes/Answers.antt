use Rattle.std.proofs.Common.{◌≡◌, ◌++◌, Option, Some, None, [], slice_get, ap, ◌∙◌, sym}
use Rattle.std.specs.Option.{option_map_or}
use Rattle.std.proofs.lemmas.Option.{slice_get-get_or}
use Rattle.sc_isa.specs.declared.results.NodeResult.{NodeResult}
use Rattle.run_report.specs.Report.{node_lines, ends_in, texts_in}
use Rattle.run_report.proofs.Lines.{each_added}
use Rattle.run_report.proofs.nodes.add_nodes.Goals as goal

pub loop-number-preserved : goal.loop-number-preserved
loop-number-preserved c =
    let here : slice_get c.args.nodes.now c.loop-number.number ≡ Some c.index-nodes-number.result = slice_get-get_or
    c.args.nodes.now c.loop-number.number c.index-nodes-number.result c.loop-number-test.true
    ∙ ap Some (sym c.index-nodes-number.is) in
    each_added _ _ _ c.loop-number.number (λ n. node_lines n (ends_in c.args.nodes.now n) (texts_in c.args.nodes.now n))
    (c.in_ok-add_node.ensures
    ∙ ap (λ (o : Option NodeResult). c.loop-number.to.items ++ node_lines c.loop-number.number
    (option_map_or (λ n. Some n.end) o None) (option_map_or (λ n. n.printed) o [])) (sym here))
    c.loop-number.invariant
