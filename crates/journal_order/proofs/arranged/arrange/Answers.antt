use Rattle.std.proofs.Common.{◌<◌, length, All, sym, subst}
use Rattle.journal_order.proofs.ByEdges.{numbers_within}
use Rattle.journal_order.proofs.arranged.arrange.Goals as goal

pub with_numbers-requires : goal.with_numbers-requires
with_numbers-requires c =
    let found = rw c.in-Some.is at c.in_ok-numbers.ensures in
    subst (All (λ number. number < length c.args.items.now)) (sym c.as_slice.ensures.value)
    (numbers_within c.args.edges.now (length c.args.items.now) c.in-Some.numbers.items found)
