use Rattle.std.proofs.Common.{◌≡◌, ◌≤◌, length, map, reverse, slice_get, slice_set, Some, sym, ap, ◌∙◌, arith}
use Rattle.std.proofs.lemmas.Option.{slice_get_read}
use Rattle.core_state.specs.Locals.{slot_in, put_at}
use Rattle.core_state.proofs.Lists.{length_by, set_past}
use Rattle.core_state.proofs.Frames.{put_seen, put_past}
use Rattle.core_state.proofs.memory.Memory.put.Goals as goal

pub returns-then-local-len-clause-frames : goal.returns-then-local-len-clause-frames
returns-then-local-len-clause-frames c =
    let frames = c.self.inside.frames.items in
    let frame = c.index_mut-frame.result.now in
    ap (λ f. reverse (map (map slot_in) (slice_set frames c.args.level f))) c.set.ensures
    ∙ put_seen frames c.args.level c.args.local c.args.slot frame
    (slice_get_read frames c.len.result c.args.level frame (c.len.ensures ∙ c.self.inside.frames.ok.0) c.if-level-len.true c.index_mut-frame.ensures.value)
    ∙ ap (put_at c.args.level c.args.local (slot_in c.args.slot)) (ap (λ v. v.frames) c.self.view_is)

pub returns-else-local-len-clause-frames : goal.returns-else-local-len-clause-frames
returns-else-local-len-clause-frames c =
    let frames = c.self.inside.frames.items in
    let frame = c.index_mut-frame.result.now in
    ap (λ f. reverse (map (map slot_in) (slice_set frames c.args.level f)))
    (sym (set_past frame c.args.local c.args.slot (omega arith)))
    ∙ put_seen frames c.args.level c.args.local c.args.slot frame
    (slice_get_read frames c.len.result c.args.level frame (c.len.ensures ∙ c.self.inside.frames.ok.0) c.if-level-len.true c.index_mut-frame.ensures.value)
    ∙ ap (put_at c.args.level c.args.local (slot_in c.args.slot)) (ap (λ v. v.frames) c.self.view_is)

pub returns-else-level-len-clause-frames : goal.returns-else-level-len-clause-frames
returns-else-level-len-clause-frames c =
    let seen = ap (λ v. v.frames) c.self.view_is in
    sym (put_past c.args.self.now.frames c.args.level c.args.local (slot_in c.args.slot)
    (omega (arith, ap length seen, length_by (map slot_in) c.self.inside.frames.items)))
