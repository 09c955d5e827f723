use Rattle.std.proofs.Common.{◌+◌, subst, sym}
use Rattle.std.proofs.lemmas.Bool.{both_ways}
use Rattle.phase_map.specs.Phasing.{IsWithPairs}
use Rattle.phase_map.proofs.Pairs.{pairs_more, pairs_left}
use Rattle.phase_map.proofs.meeting.add_pairs.Goals.{then-get, else-get}
use Rattle.phase_map.proofs.meeting.add_pairs.Goals as goal

pub loop-site-preserved : goal.loop-site-preserved
loop-site-preserved c =
    elim c.if-get.branch [
      | then-get w ↦ subst (IsWithPairs c.args.sites.now (c.loop-site.site + 1) c.args.meets.now) (sym w.meets-is)
          (pairs_more c.args.sites.now c.args.meets.now c.loop-site.meets _ c.loop-site.site (c.get.ensures.0 w.if-get.true) c.loop-site.invariant w.add_common.ensures)
      | else-get w ↦ subst (IsWithPairs c.args.sites.now (c.loop-site.site + 1) c.args.meets.now) (sym w.meets-is)
          (pairs_left c.args.sites.now c.args.meets.now c.loop-site.meets c.loop-site.site (λ s. both_ways _ w.if-get.false (c.get.ensures.1 s)) c.loop-site.invariant)
    ]
