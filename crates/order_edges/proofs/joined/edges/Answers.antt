use Rattle.std.proofs.Common.{All, length, reverse, sym, subst, ap, ◌∙◌}
use Rattle.least_order.specs.Least.{IsWithin}
use Rattle.least_order.specs.Ways.{AreWays}
use Rattle.source_order.specs.Items.{items as items_of}
use Rattle.journal_order.specs.Ordering.{before_at}
use Rattle.order_edges.specs.Whole.{all_edges}
use Rattle.order_edges.proofs.Bounds.{edges_within}
use Rattle.order_edges.proofs.Whole.{ways}
use Rattle.order_edges.proofs.joined.edges.Goals as goal

pub returns-in-Ok-clause-bounds : goal.returns-in-Ok-clause-bounds
returns-in-Ok-clause-bounds c =
    subst (All (IsWithin (length c.args.items.now))) (sym c.in-Ok.ensures) (edges_within (reverse c.args.journal.now) c.args.nodes c.args.items.now)

pub returns-in-Ok-clause-ways : goal.returns-in-Ok-clause-ways
returns-in-Ok-clause-ways c = λ processes machine n can is.
    let past = reverse c.args.journal.now in
    let items = c.args.items.now in
    subst (λ edges. AreWays edges (length items) (before_at processes.start past items)) (sym c.in-Ok.ensures)
    (subst (λ nodes. AreWays (all_edges past nodes items) (length items) (before_at processes.start past items)) n
    (ways processes machine c.args.journal.now items can (is ∙ ap (λ nodes. items_of processes.start nodes past) (sym n))))
