use Rattle.std.proofs.Common.{◌≡◌, List, length, sym, subst}
use Rattle.std.proofs.Math.ListN.{length-map}
use Rattle.std.specs.List.{All}
use Rattle.std.proofs.lemmas.List.{with_items_is}
use Rattle.std.proofs.lemmas.List.Elements.{All-map}
use Rattle.sync_book.specs.Book.{NodeBook, HasCounters, released_node}
use Rattle.sync_book.proofs.book.SyncBook.release.Goals as goal

-- every node keeps its counters
pub invariant_of-self : goal.invariant_of-self
invariant_of-self c =
    let rows = c.self.inside.rows in
    let new = c.release_rows.new.rows in
    let old = c.as_mut_slice.result.now in
    let sites = c.self.inside.sites in
    let counted : All (HasCounters sites) old = rw c.as_mut_slice.ensures.value c.self.invariant.1 in
    let kept : All (HasCounters sites) new =
    rw c.release_rows.ensures (All-map (HasCounters sites) released_node old counted) in
    let as_many : length new ≡ rows.len =
    rw (c.release_rows.ensures, length-map, c.as_mut_slice.ensures.value) (sym rows.ok.0) in (
      c.self.invariant.0,
      subst (λ (xs : List NodeBook). All (HasCounters sites) xs) (sym (with_items_is rows new as_many)) kept,
      c.self.invariant.2,
    )
