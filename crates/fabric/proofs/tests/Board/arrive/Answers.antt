use Rattle.std.proofs.Common.{◌≡◌, ◌∙◌, ◌∷◌, Some, true, refl, sym, ap}
use Rattle.std.specs.Prelude.{slice_get}
use Rattle.sc_isa.specs.declared.journal.Entry.TheVariants.{Arrived}
use Rattle.fabric.specs.State.{State}
use Rattle.fabric.proofs.Knowing.{knows_arrived}
use Rattle.fabric.proofs.tests.Board.arrive.Goals as goal

pub invariant_of-self-2 : goal.invariant_of-self-2
invariant_of-self-2 c =
    let free : slice_get c.self.inside.away.items c.args.node ≡ Some true =
    ap (λ l. slice_get l c.args.node) (sym c.as_slice-2.ensures.value) ∙ sym c.flag-2.ensures ∙ c.in-Some-true-flag.is ∙ ap Some c.in-Some-true-flag.field-0-test in
    knows_arrived c.self.inside.fabric c.arrive.new.self c.self.inside.running.items c.self.inside.away.items _ c.self.inside.layout c.self.inside.sites c.args.node c.args.stores c.self.invariant
    (c.arrive.ensures.past ∙ ap (λ (s : State). Arrived c.args.node c.args.stores ∷ s.past) c.reserve.ensures.rest)
    (c.self.invariant.is_away c.args.node free) refl
    (ap (λ (s : State). s.memory.layout) c.arrive.ensures.rest ∙ ap (λ (s : State). s.memory.layout) c.reserve.ensures.rest)
    (c.arrive.ensures.sites ∙ ap (λ (s : State). s.book.sites) c.reserve.ensures.rest)
