use Rattle.std.proofs.Common.{◌∙◌, ap}
use Rattle.msg_pool.specs.Pool.{empty_pool}
use Rattle.sync_book.specs.Book.{empty_book}
use Rattle.fabric.proofs.Beginning.{new_kept}
use Rattle.fabric.proofs.state.Fabric.new.Goals as goal

pub invariant_of-result : goal.invariant_of-result
invariant_of-result c =
    new_kept c.args.layout.now c.in_ok-memory.memory c.in_ok-pool.pool c.in_ok-book.book c.new-5.result c.in_ok-log.log c.args.sites
    c.in_ok-memory.ensures.layout c.in_ok-memory.ensures.holds
    (c.in_ok-pool.ensures ∙ ap empty_pool c.nodes-nodes.ensures)
    (c.in_ok-book.ensures ∙ ap (λ n. empty_book n c.args.sites) c.nodes-nodes.ensures)
    c.new-5.ensures c.in_ok-log.ensures.past (c.in_ok-log.ensures.nodes ∙ c.nodes-nodes.ensures)
