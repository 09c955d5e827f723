use Rattle.std.proofs.Common.{◌+◌, None, get_or, sym, subst}
use Rattle.std.proofs.lemmas.Bool.{both_ways}
use Rattle.std.proofs.lemmas.Option.{slice_get-get_or}
use Rattle.sync_place.specs.Demanding.{IsMarked}
use Rattle.sync_place.proofs.Demands.{one_marked, not_marked}
use Rattle.sync_place.proofs.demanding.mark_demands.Goals as goal
use Rattle.sync_place.proofs.demanding.mark_demands.Goals.{then-demands, else-demands}

pub loop-site-preserved : goal.loop-site-preserved
loop-site-preserved c =
    let b = get_or c.args.sites.now c.loop-site.site-index (record { site = 0; fills = None; function = 0 }) in
    let read = slice_get-get_or c.args.sites.now c.loop-site.site-index (record { site = 0; fills = None; function = 0 }) c.loop-site-test.true in
    elim c.if-demands.branch [
      | then-demands w ↦
          subst (IsMarked c.args.point.now c.args.at c.args.sites.now (c.loop-site.site-index + 1) c.args.delays.now c.args.demand.now) (sym w.demand-is)
          (one_marked c.args.point.now c.args.at c.args.sites.now c.loop-site.site-index b c.args.delays.now c.args.demand.now c.loop-site.demand w.set.new.self read
          (c.demands.ensures.0 w.if-demands.true) w.set.ensures c.loop-site.invariant)
      | else-demands w ↦
          subst (IsMarked c.args.point.now c.args.at c.args.sites.now (c.loop-site.site-index + 1) c.args.delays.now c.args.demand.now) (sym w.demand-is)
          (not_marked c.args.point.now c.args.at c.args.sites.now c.loop-site.site-index b c.args.delays.now c.args.demand.now c.loop-site.demand read
          (λ d. both_ways _ w.if-demands.false (c.demands.ensures.1 d)) c.loop-site.invariant)
    ]
