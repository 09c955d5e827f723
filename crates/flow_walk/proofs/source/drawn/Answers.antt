use Rattle.std.proofs.Common.{◌∙◌, ap, arith}
use Rattle.sc_core.specs.ViewStatements.{plain_program}
use Rattle.site_graph.specs.Rising.{rising, edge_before}
use Rattle.flow_walk.specs.Sources.{walk_source}
use Rattle.flow_walk.proofs.Sourcing.{lists_are, is_kept}
use Rattle.flow_walk.proofs.source.drawn.Goals as goal

pub made-requires : goal.made-requires
made-requires c =
    let program = plain_program c.args.program.now in
    let x = c.in_ok-walk.walk in
    let is = lists_are c.args.nodes program c.args.whole.now x c.rising_edges.result c.in_ok-exposed.exposed c.requires.whole
    (c.in_ok-walk.ensures ∙ ap (λ es. walk_source es c.args.nodes program) c.as_slice.ensures)
    (c.rising_edges.ensures ∙ ap (rising edge_before) (c.in_ok-edges.ensures.items ∙ c.as_slice-2.ensures)) c.in_ok-exposed.ensures in
    is_kept c.args.nodes program c.args.whole.now _ c.requires.whole (omega arith) c.requires.few is

pub returns : goal.returns
returns c =
    let program = plain_program c.args.program.now in
    let x = c.in_ok-walk.walk in
    c.made.ensures
    ∙ lists_are c.args.nodes program c.args.whole.now x c.rising_edges.result c.in_ok-exposed.exposed c.requires.whole
    (c.in_ok-walk.ensures ∙ ap (λ es. walk_source es c.args.nodes program) c.as_slice.ensures)
    (c.rising_edges.ensures ∙ ap (rising edge_before) (c.in_ok-edges.ensures.items ∙ c.as_slice-2.ensures)) c.in_ok-exposed.ensures
