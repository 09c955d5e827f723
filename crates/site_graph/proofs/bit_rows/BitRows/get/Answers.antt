use Rattle.site_graph.proofs.Rows.{answer}
use Rattle.site_graph.proofs.bit_rows.BitRows.get.Goals as goal

pub returns : goal.returns
returns c =
    answer c.self.inside c.args.self.now c.args.row c.args.column c.has_bit.result c.index-word.result.now c.place_of.result c.self.invariant
    c.self.view_is c.requires.row c.requires.column c.place_of.ensures c.index-word.ensures c.has_bit.ensures
