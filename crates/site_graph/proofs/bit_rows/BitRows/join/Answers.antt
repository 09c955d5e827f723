use Rattle.site_graph.specs.BitWords.{words_a_row}
use Rattle.site_graph.proofs.Rows.{rows_apart, rows_join, bits_join, gains_answer}
use Rattle.site_graph.proofs.bit_rows.BitRows.join.Goals as goal

pub join_words-requires-clause-apart : goal.join_words-requires-clause-apart
join_words-requires-clause-apart c =
    rows_apart c.args.row c.args.from c.place_of-to.result c.place_of-from.result (words_a_row c.self.inside.columns) c.row_width-width.result
    c.place_of-to.ensures c.place_of-from.ensures c.row_width-width.ensures

pub invariant_of-self : goal.invariant_of-self
invariant_of-self c =
    rows_join c.self.inside c.args.self.now c.args.row c.args.from c.place_of-to.result c.place_of-from.result c.row_width-width.result
    c.deref_mut.result.now c.join_words.new.words c.self.invariant c.self.view_is c.requires.from c.deref_mut.ensures.value c.place_of-to.ensures
    c.place_of-from.ensures c.row_width-width.ensures c.join_words.ensures.joined

pub returns-clause-joined : goal.returns-clause-joined
returns-clause-joined c =
    bits_join c.self.inside c.args.self.now c.args.row c.args.from c.place_of-to.result c.place_of-from.result c.row_width-width.result
    c.deref_mut.result.now c.join_words.new.words c.self.view_is c.requires.row c.requires.from c.deref_mut.ensures.value c.place_of-to.ensures
    c.place_of-from.ensures c.row_width-width.ensures c.join_words.ensures.joined

pub returns-clause-gains : goal.returns-clause-gains
returns-clause-gains c =
    gains_answer c.self.inside c.args.self.now c.args.row c.args.from c.place_of-to.result c.place_of-from.result c.row_width-width.result
    c.deref_mut.result.now c.join_words.result c.self.invariant c.self.view_is c.requires.row c.requires.from c.deref_mut.ensures.value c.place_of-to.ensures
    c.place_of-from.ensures c.row_width-width.ensures c.join_words.ensures.gains
