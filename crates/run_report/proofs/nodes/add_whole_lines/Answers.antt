use Rattle.std.proofs.Common.{◌≡◌, ◌-◌, Some, [], length, slice_get, ap}
use Rattle.run_report.proofs.Lines.{newline_after, whole_lines-open, whole_lines-closed}
use Rattle.run_report.proofs.nodes.add_whole_lines.Goals as goal

pub returns-then-last-eq10 : goal.returns-then-last-eq10
returns-then-last-eq10 c =
    let here : Some c.in-Some.last.now ≡ slice_get c.args.text.now (length c.args.text.now - 1) =
    c.in-Some.ensures.value in
    let closed : newline_after (Some c.in-Some.last.now) ≡ [] = ap (λ x. newline_after (Some x)) c.if-last-eq10.true in
    whole_lines-closed _ c.args.to.now.items c.args.text.now (Some c.in-Some.last.now) here closed
    c.in_ok-extend_from_slice.ensures.items

pub returns : goal.returns
returns c =
    let here : Some c.in-Some.last.now ≡ slice_get c.args.text.now (length c.args.text.now - 1) =
    c.in-Some.ensures.value in
    whole_lines-open _ _ c.args.to.now.items c.args.text.now c.in-Some.last.now here c.if-last-eq10.false
    c.in_ok-extend_from_slice.ensures.items c.in_ok-push.ensures.items
