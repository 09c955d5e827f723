use Rattle.std.proofs.Common.{get_or}
use Rattle.std.proofs.lemmas.Option.{slice_get-get_or}
use Rattle.site_graph.proofs.Opened.{more_begun}
use Rattle.site_graph.proofs.reaching.open_from_all.Goals as goal

pub loop-number-preserved : goal.loop-number-preserved
loop-number-preserved c =
    more_begun c.args.flow.now c.args.starts.now c.loop-number.number (get_or c.args.starts.now c.loop-number.number 0) c.args.found.now c.loop-number.found
    c.open_from.new.found c.args.todo.now.items c.loop-number.todo.items c.open_from.new.todo.items
    (slice_get-get_or c.args.starts.now c.loop-number.number 0 c.loop-number-test.true) c.loop-number.invariant c.in_ok-open_from.ensures
