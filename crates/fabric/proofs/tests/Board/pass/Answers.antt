use Rattle.std.proofs.Common.{◌≡◌, ◌∙◌, Some, true, false, refl, sym, ap}
use Rattle.std.specs.Prelude.{slice_get}
use Rattle.fabric.specs.Known.{Knows}
use Rattle.fabric.specs.State.{State}
use Rattle.fabric.proofs.Knowing.{same_past, knows_same, knows_passed, node_runs}
use Rattle.fabric.proofs.tests.Board.pass.Goals as goal

pub invariant_of-self-in-Yes : goal.invariant_of-self-in-Yes
invariant_of-self-in-Yes c =
    let s : State = c.reserve.new.self in
    let known : Knows s c.self.inside.running.items c.self.inside.away.items c.self.inside.layout c.self.inside.sites =
    knows_same c.self.inside.fabric s c.self.inside.running.items c.self.inside.away.items c.self.inside.layout c.self.inside.sites c.self.invariant
    (same_past c.self.inside.fabric.past s.past (ap (λ (x : State). x.past) c.reserve.ensures.rest))
    (ap (λ (x : State). x.memory.layout) c.reserve.ensures.rest) (ap (λ (x : State). x.book.sites) c.reserve.ensures.rest) in
    let runs : slice_get c.self.inside.running.items c.args.node ≡ Some true =
    ap (λ l. slice_get l c.args.node) (sym c.as_slice.ensures.value) ∙ sym c.flag.ensures ∙ c.in-Some-true.is ∙ ap Some c.in-Some-true.field-0-test in
    let stood : slice_get c.self.inside.away.items c.args.node ≡ Some false =
    ap (λ l. slice_get l c.args.node) (sym c.as_slice-2.ensures.value) ∙ sym c.flag-2.ensures ∙ c.in-Some-false.is ∙ ap Some c.in-Some-false.field-0-test in
    let rest = c.try_pass.ensures.rest c.in-Yes.is in
    knows_passed s c.try_pass.new.self c.self.inside.running.items c.self.inside.away.items _ c.self.inside.layout c.self.inside.sites c.args.node known
    c.entries-entries.ensures.of_journal
    (node_runs s c.self.inside.running.items c.self.inside.away.items c.self.inside.layout c.self.inside.sites c.args.node known runs).node_within
    (c.try_pass.ensures.past c.in-Yes.is) (known.arrived c.args.node stood) refl
    (ap (λ (x : State). x.memory.layout) rest) c.try_pass.ensures.sites
