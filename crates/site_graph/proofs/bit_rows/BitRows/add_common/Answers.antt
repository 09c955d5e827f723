use Rattle.site_graph.proofs.Rows.{rows_add_common, bits_add_common}
use Rattle.site_graph.proofs.bit_rows.BitRows.add_common.Goals as goal

pub invariant_of-self : goal.invariant_of-self
invariant_of-self c =
    rows_add_common c.self.inside c.a.inside c.b.inside c.args.self.now c.args.a.now c.args.b.now c.args.row c.args.a_row c.args.b_row c.place_of-to.result
    c.place_of-from_a.result c.place_of-from_b.result c.row_width-width.result c.deref_mut.result.now c.deref.result.now c.deref-2.result.now c.add_words.new.words
    c.self.invariant c.a.invariant c.self.view_is c.a.view_is c.b.view_is c.requires.a_row c.requires.a_columns c.requires.b_columns c.deref_mut.ensures.value
    c.deref.ensures.value c.deref-2.ensures.value c.place_of-to.ensures c.place_of-from_a.ensures c.place_of-from_b.ensures c.row_width-width.ensures
    (record { same_length = c.add_words.ensures.same_length; inside = c.add_words.ensures.inside; outside = c.add_words.ensures.outside })

pub returns : goal.returns
returns c =
    bits_add_common c.self.inside c.a.inside c.b.inside c.args.self.now c.args.a.now c.args.b.now c.args.row c.args.a_row c.args.b_row c.place_of-to.result
    c.place_of-from_a.result c.place_of-from_b.result c.row_width-width.result c.deref_mut.result.now c.deref.result.now c.deref-2.result.now c.add_words.new.words
    c.self.view_is c.a.view_is c.b.view_is c.requires.row c.requires.a_row c.requires.b_row c.requires.a_columns c.requires.b_columns c.deref_mut.ensures.value
    c.deref.ensures.value c.deref-2.ensures.value c.place_of-to.ensures c.place_of-from_a.ensures c.place_of-from_b.ensures c.row_width-width.ensures
    (record { same_length = c.add_words.ensures.same_length; inside = c.add_words.ensures.inside; outside = c.add_words.ensures.outside })
