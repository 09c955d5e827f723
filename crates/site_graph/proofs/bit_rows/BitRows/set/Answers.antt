use Rattle.site_graph.proofs.Rows.{rows_set, bits_set}
use Rattle.site_graph.proofs.bit_rows.BitRows.set.Goals as goal

pub invariant_of-self : goal.invariant_of-self
invariant_of-self c =
    rows_set c.self.inside c.args.self.now c.args.row c.args.column c.place_of-place.result c.index-word.result.now c.with_bit.result c.self.invariant
    c.self.view_is c.requires.row c.requires.column c.place_of-place.ensures c.index-word.ensures c.with_bit.ensures

pub returns : goal.returns
returns c =
    bits_set c.self.inside c.args.self.now c.args.row c.args.column c.place_of-place.result c.index-word.result.now c.with_bit.result c.self.invariant
    c.self.view_is c.requires.row c.requires.column c.place_of-place.ensures c.index-word.ensures c.with_bit.ensures
