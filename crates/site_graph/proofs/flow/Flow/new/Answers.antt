use Rattle.std.proofs.lemmas.Bool.{both_ways}
use Rattle.site_graph.specs.Made.{graph_of}
use Rattle.site_graph.proofs.MadeLaws.{made_from, made_to}
use Rattle.site_graph.proofs.flow.Flow.new.Goals as goal

pub returns-then-not-are_kept : goal.returns-then-not-are_kept
returns-then-not-are_kept c = λ f.
    both_ways c.are_kept.result c.if-not-are_kept.true
    (c.are_kept.ensures.1
    (made_to (graph_of c.args.points c.args.edges c.args.sites c.args.exposed) c.as_slice.result.now c.as_slice-2.result.now c.len.result c.as_slice-3.result.now
    c.as_slice.ensures c.as_slice-2.ensures c.len.ensures c.as_slice-3.ensures f))

pub invariant_of-result : goal.invariant_of-result
invariant_of-result c =
    made_from (graph_of c.args.points c.args.edges c.args.sites c.args.exposed) c.as_slice.result.now c.as_slice-2.result.now c.len.result c.as_slice-3.result.now
    c.as_slice.ensures c.as_slice-2.ensures c.len.ensures c.as_slice-3.ensures (c.are_kept.ensures.0 c.if-not-are_kept.false)
