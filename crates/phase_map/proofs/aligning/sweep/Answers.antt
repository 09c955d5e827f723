use Rattle.std.proofs.Common.{◌≡◌, ◌<◌, ◌-◌, ◌∙◌, length, get_or, Some, ap, sym, arith}
use Rattle.std.specs.List.{slice_get}
use Rattle.std.proofs.lemmas.Option.{slice_get-get_or}
use Rattle.site_graph.specs.declared.flow.Edge.{Edge}
use Rattle.site_graph.specs.Graph.{Graph}
use Rattle.phase_map.proofs.Sweeping.{sweep_more}
use Rattle.phase_map.proofs.aligning.sweep.Goals as goal

pub loop-number-preserved : goal.loop-number-preserved
loop-number-preserved c =
    let edges = c.as_slice-edges.ensures ∙ ap (λ (g : Graph). g.edges) c.flow.view_is in
    let none : Edge = record { from = 0; to = 0 } in
    let within : c.loop-number.number - 1 < length c.as_slice-edges.result.now = omega (arith, c.loop-number-test.true, c.loop-number.auto.number) in
    let at : slice_get c.args.flow.now.edges (c.loop-number.number - 1) ≡ Some (get_or c.as_slice-edges.result.now (c.loop-number.number - 1) none) =
    ap (λ xs. slice_get xs (c.loop-number.number - 1)) (sym edges) ∙ slice_get-get_or c.as_slice-edges.result.now (c.loop-number.number - 1) none within in
    sweep_more c.args.flow.now c.loop-number.number (c.loop-number.number - 1) (get_or c.as_slice-edges.result.now (c.loop-number.number - 1) none)
    c.args.ahead.now c.loop-number.ahead c.pass_back-changed.new.ahead c.loop-number.changed c.pass_back-changed.result (omega (arith, c.loop-number-test.true)) at
    c.loop-number.invariant c.pass_back-changed.ensures
