use Rattle.site_graph.proofs.Words.{bits_empty}
use Rattle.site_graph.proofs.Rows.{zeros_of}
use Rattle.site_graph.proofs.bit_rows.BitRows.new.Goals as goal

pub returns : goal.returns
returns c =
    bits_empty (record { rows = c.args.rows; columns = c.args.columns; words = c.in-Ok.words })
    (zeros_of c.place_of.result c.in-Ok.words.items (c.in-Ok.ensures.items_if_clones_equal (λ y e. e)))
