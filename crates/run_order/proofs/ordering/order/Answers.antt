use Rattle.std.proofs.Common.{sym, ◌∙◌}
use Rattle.run_order.proofs.Arranged.{never_none, is_source_order}
use Rattle.run_order.proofs.ordering.order.Goals as goal

pub unreachable-requires : goal.unreachable-requires
unreachable-requires c = never_none _ _ _ _ c.in_ok-history.ensures c.requires.orderable c.in_default.is

pub returns : goal.returns
returns c = is_source_order _ _ _ _ _ c.in_ok-history.ensures c.in-Some.is
