use Rattle.std.proofs.Common.{slice_set, ap, ◌∙◌}
use Rattle.std.proofs.lemmas.List.{drop-set-add}
use Rattle.node_state.proofs.frames.Frames.set_local.Goals as goal

pub returns-then-place-len-clause-locals : goal.returns-then-place-len-clause-locals
returns-then-place-len-clause-locals c =
    drop-set-add c.self.inside.first c.self.inside.slots.items c.args.local c.args.slot
    ∙ ap (λ v. slice_set v.locals c.args.local c.args.slot) c.self.view_is
