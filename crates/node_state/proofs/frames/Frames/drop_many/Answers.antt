use Rattle.std.proofs.Common.{◌+◌, ◌-◌, ◌≤◌, length, take, drop, reverse, ap, ◌∙◌, arith, length-drop}
use Rattle.std.proofs.lemmas.List.{length-reverse}
use Rattle.node_state.proofs.Segments.{cut_left}
use Rattle.node_state.proofs.frames.Frames.drop_many.Goals as goal

pub returns-clause-stack : goal.returns-clause-stack
returns-clause-stack c =
    let xs = c.self.inside.stack.items in
    let base = c.self.inside.base in
    let seen = ap (λ v. v.stack) c.self.view_is in
    let within : base + c.args.count ≤ length xs =
    omega (arith, ap length seen, length-reverse (drop base xs), length-drop base xs) in
    ap (λ s. reverse (drop base s)) (c.truncate.ensures.items ∙ ap (λ n. take (n - c.args.count) xs) (c.len.ensures ∙ c.self.inside.stack.ok.0))
    ∙ cut_left xs base c.args.count within ∙ ap (drop c.args.count) seen
