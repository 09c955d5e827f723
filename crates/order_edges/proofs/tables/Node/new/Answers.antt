use Rattle.std.proofs.Common.{◌≡◌, ◌-◌, ℕ, List, Option, suc, length, reverse, ap, subst, arith}
use Rattle.order_edges.specs.declared.line.Line.{Line}
use Rattle.order_edges.specs.Lines.{position, look, Tells, next_from}
use Rattle.order_edges.proofs.StepsAt.{steps_length}
use Rattle.order_edges.proofs.Loops.{same_node}
use Rattle.order_edges.proofs.tables.Node.new.Goals as goal

pub returns : goal.returns
returns c =
    let past = reverse c.args.journal.now in
    let items = c.args.items.now in
    let size : suc (c.len.result - 1) ≡ length c.in_ok-steps.steps.items =
    (let a = c.len.ensures in let b = c.in_ok-steps.steps.ok.0 in let d = steps_length c.args.node past in
    let e = ap length c.in_ok-steps.ensures in omega (arith, a, b, d, e)) in
    same_node past items c.args.node (c.len.result - 1) c.in_ok-steps.steps.items c.in_ok-own.own.items c.in_ok-issues.issues.items
    c.in_ok-syncs.syncs.items c.in_ok-syncs-2.syncs.items c.in_ok-steps.ensures size
    (subst (λ (l : Line). Tells c.in_ok-own.own.items (suc l.last) (position l items)) c.line_of.ensures c.in_ok-own.ensures)
    (subst (λ (l : Line). Tells c.in_ok-issues.issues.items (suc l.last) (position l items)) c.line_of-2.ensures c.in_ok-issues.ensures)
    (subst (λ (l : Line). Tells c.in_ok-syncs.syncs.items (suc l.last) (position l items)) c.line_of-3.ensures c.in_ok-syncs.ensures)
    (subst (λ (t : List (Option ℕ)). Tells c.in_ok-syncs-2.syncs.items (length t) (next_from (look t) (length t))) c.as_slice.ensures.value
    c.in_ok-syncs-2.ensures)
