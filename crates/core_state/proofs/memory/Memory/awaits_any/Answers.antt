use Rattle.std.proofs.Common.{◌≡◌, ◌-◌, length, slice_get, is_none, sym, ap, ◌∙◌}
use Rattle.std.specs.List.{list_any}
use Rattle.sc_meaning.specs.Memory.{top}
use Rattle.core_machine.specs.Moves.{any_awaited}
use Rattle.core_state.proofs.Frames.{any_is, newest_is}
use Rattle.core_state.proofs.memory.Memory.awaits_any.Goals as goal

pub returns-in-Some : goal.returns-in-Some
returns-in-Some c =
    let frames = c.self.inside.frames.items in
    let frame = c.in-Some.frame.now in
    c.any_awaits.ensures ∙ ap (list_any is_none) c.as_slice.ensures ∙ any_is frame
    ∙ ap any_awaited (sym (newest_is frames frame
    (ap (λ l. slice_get l (length l - 1)) (sym c.deref.ensures.value) ∙ sym c.in-Some.ensures.value))
    ∙ ap (λ v. top v.frames) c.self.view_is)
