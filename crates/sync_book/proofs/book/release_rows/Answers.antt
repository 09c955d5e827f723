use Rattle.std.proofs.lemmas.List.Edits.{map_over_more}
use Rattle.sync_book.specs.Book.{released_node}
use Rattle.sync_book.proofs.book.release_rows.Goals as goal

pub loop-row-preserved : goal.loop-row-preserved
loop-row-preserved c =
    rw (c.release.ensures, ← c.row-item.is)
    (map_over_more released_node _ _ _ _ c.loop-row-test.true c.loop-row.invariant c.row-item.is)
