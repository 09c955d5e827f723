use Rattle.std.proofs.Common.{◌+◌, ◌≤◌, length, take, reverse, ap, ◌∙◌, arith}
use Rattle.node_state.proofs.Segments.{cut_slice}
use Rattle.node_state.proofs.frames.Frames.topmost.Goals as goal

pub returns-clause-operands : goal.returns-clause-operands
returns-clause-operands c =
    let xs = c.self.inside.stack.items in
    let base = c.self.inside.base in
    let within : base + c.args.count ≤ length xs = omega arith in
    cut_slice xs c.as_slice.result.now base c.args.count c.len-2.result within c.as_slice.ensures.value
    (c.len-2.ensures ∙ c.self.inside.stack.ok.0)
    ∙ ap (λ v. reverse (take c.args.count v.stack)) c.self.view_is
