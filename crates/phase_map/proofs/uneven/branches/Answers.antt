use Rattle.std.proofs.Common.{subst, arith}
use Rattle.std.proofs.lemmas.Bool.{leb-true, le-leb}
use Rattle.site_graph.specs.Kept.{IsFlow}
use Rattle.phase_map.proofs.Branching.{branches_from, branches_to}
use Rattle.phase_map.proofs.uneven.branches.Goals as goal

pub returns : goal.returns
returns c = (
  λ e. let two = leb-true 2 _ e in
      branches_from c.args.flow.now c.args.firsts.now c.args.at (subst IsFlow c.flow.view_is c.flow.invariant) c.requires.firsts c.requires.at (omega (arith, two, c.saturating_sub.ensures)),
  λ b. let two = branches_to c.args.flow.now c.args.firsts.now c.args.at c.requires.firsts c.requires.at b in
      le-leb 2 _ (omega (arith, two, c.saturating_sub.ensures)),
)
