use Rattle.std.proofs.Common.{rules, ◌≡◌, replicate}
use Rattle.replay_tables.proofs.Start.{object_is}
use Rattle.replay_tables.proofs.cells.object_at_start.Goals as goal

pub returns : goal.returns
returns c =
    let cells : c.from_vec.result ≡ replicate c.extent-extent.result c.start_of-value.result = search rules in
    object_is c.args.layout.now c.args.node c.args.object c.from_vec.result c.extent-extent.result c.start_of-value.result
    c.requires.object c.extent-extent.ensures c.start_of-value.ensures cells
