use Rattle.std.proofs.lemmas.Bool.{false≢true, both_ways}
use Rattle.site_graph.proofs.MadeLaws.{all_of}
use Rattle.site_graph.proofs.making.are_kept.Goals as goal

pub returns-then-not-are_counted : goal.returns-then-not-are_counted
returns-then-not-are_counted c = (λ t. absurd (false≢true t), λ k. absurd (both_ways _ c.if-not-are_counted.true (c.are_counted.ensures.1 k.0)))

pub returns : goal.returns
returns c =
    all_of _ _ _ _ _ _ _ _ _ (c.are_counted.ensures.0 c.if-not-are_counted.false) c.are_points-points_hold.ensures c.each_has_one-sites_hold.ensures
    c.are_edges-edges_hold.ensures c.rises.ensures
