use Rattle.std.proofs.Common.{length, take, reverse, ap, sym, ◌∙◌}
use Rattle.std.proofs.lemmas.List.{length-reverse}
use Rattle.node_state.proofs.Landings.{length_below}
use Rattle.node_state.proofs.frames.Frames.depth.Goals as goal

pub returns : goal.returns
returns c =
    c.len.ensures ∙ c.self.inside.callers.ok.0
    ∙ sym (length_below (take c.self.inside.base c.self.inside.stack.items) (take c.self.inside.first c.self.inside.slots.items)
    (reverse c.self.inside.callers.items) ∙ length-reverse c.self.inside.callers.items)
    ∙ ap (λ v. length v.callers) c.self.view_is
