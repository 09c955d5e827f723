use Rattle.compiled_order.proofs.Ordered.{are_on, are_numbered, is_orderable, is_order}
use Rattle.compiled_order.proofs.ordering.order.Goals as goal

pub order-requires-clause-on : goal.order-requires-clause-on
order-requires-clause-on c = are_on _ _ _ c.requires.compiled c.requires.run _ c.as_slice.ensures

pub order-requires-clause-numbered : goal.order-requires-clause-numbered
order-requires-clause-numbered c = are_numbered _ _ _ c.requires.compiled c.requires.run _ c.as_slice.ensures

pub order-requires-clause-orderable : goal.order-requires-clause-orderable
order-requires-clause-orderable c = is_orderable _ _ _ c.requires.compiled c.requires.run _ c.as_slice.ensures

pub returns : goal.returns
returns c = is_order _ _ _ c.requires.compiled c.requires.run _ c.as_slice.ensures _ c.in_ok-history.ensures
