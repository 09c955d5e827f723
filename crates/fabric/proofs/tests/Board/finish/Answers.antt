use Rattle.std.proofs.Common.{◌∙◌, ◌∷◌, refl, ap}
use Rattle.sc_base.specs.declared.value.End.TheVariants.{Ended}
use Rattle.sc_isa.specs.declared.journal.Entry.TheVariants.{Finished}
use Rattle.fabric.specs.State.{State}
use Rattle.fabric.proofs.Knowing.{knows_finished}
use Rattle.fabric.proofs.tests.Board.finish.Goals as goal

pub invariant_of-self-2 : goal.invariant_of-self-2
invariant_of-self-2 c =
    knows_finished c.self.inside.fabric c.finish.new.self c.self.inside.running.items _ c.self.inside.away.items c.self.inside.layout c.self.inside.sites c.args.node Ended c.self.invariant
    (c.finish.ensures.past ∙ ap (λ (s : State). Finished c.args.node Ended ∷ s.past) c.reserve.ensures.rest) refl
    (ap (λ (s : State). s.memory.layout) c.finish.ensures.rest ∙ ap (λ (s : State). s.memory.layout) c.reserve.ensures.rest)
    (c.finish.ensures.sites ∙ ap (λ (s : State). s.book.sites) c.reserve.ensures.rest)
