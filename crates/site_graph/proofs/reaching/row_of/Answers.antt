use Rattle.site_graph.proofs.Starts.{row_set_as, row_kept_as, row_whole}
use Rattle.site_graph.proofs.reaching.row_of.Goals as goal
use Rattle.site_graph.proofs.reaching.row_of.Goals.{then-stop, else-stop}

pub loop-point-preserved : goal.loop-point-preserved
loop-point-preserved c =
    elim c.if-stop.branch [
      | then-stop w ↦
          row_set_as c.args.stops.now c.loop-point.row w.set.new.self c.if-stop.row c.loop-point.point w.row-is c.loop-point.invariant c.loop-point-test.true w.if-stop.true w.set.ensures
      | else-stop w ↦ row_kept_as c.args.stops.now c.loop-point.row c.if-stop.row c.loop-point.point w.row-is c.loop-point.invariant w.if-stop.false
    ]

pub returns : goal.returns
returns c = row_whole c.args.stops.now c.loop-point.row c.loop-point.point c.loop-point.invariant c.loop-point-test.false
