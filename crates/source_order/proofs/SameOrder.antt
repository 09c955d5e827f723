-- The source order is that of the laws on orders, by definition.
use Rattle.std.proofs.Common.{refl}
use Rattle.effect_order.specs.Flow.{Flow}
use Rattle.sc_meaning.specs.declared.event.SourceEvent.{SourceEvent}
use Rattle.source_order.specs.Story.{IsThatOrder}

pub same_order : {S : Type 0} (flow : Flow S) (point : SourceEvent → S) → IsThatOrder flow point
same_order flow point processes journal = refl
