use Rattle.std.proofs.Common.{◌≡◌, ◌+◌, ◌-◌, ◌^◌, ◌<◌, ◌≤◌, sym, ap, ◌∙◌, arith}
use Rattle.run_report.specs.Memory.{held_in, value_or_zero}
use Rattle.run_report.specs.Report.{count_of}
use Rattle.run_report.proofs.Counts.{below_count, past_count, count_fits}
use Rattle.run_report.proofs.Places.{is_place}
use Rattle.run_report.proofs.CellTexts.{cell_added, all_cells}
use Rattle.run_report.proofs.objects.add_cells.Goals as goal

pub read-requires : goal.read-requires
read-requires c =
    rw c.requires.laid (is_place c.args.layout.now c.args.node c.args.object c.loop-place.index c.in-Some.place
    c.count-objects.ensures.lawful c.requires.node (sym c.in-Some.ensures))

pub overflow_add-index : goal.overflow_add-index
overflow_add-index c =
    let below : c.loop-place.index < count_of c.args.layout.now c.args.object = below_count c.args.layout.now
    c.args.node c.args.object c.loop-place.index c.in-Some.place (sym c.in-Some.ensures) in
    let nodes : c.args.layout.now.nodes < 2 ^ 32 = omega (arith, c.nodes-nodes.ensures) in
    let fits : count_of c.args.layout.now c.args.object < 2 ^ 64 = count_fits c.args.layout.now c.args.object
    c.count-objects.ensures.lawful nodes in
    omega arith

pub loop-place-smaller : goal.loop-place-smaller
loop-place-smaller c =
    let below : c.loop-place.index < count_of c.args.layout.now c.args.object = below_count c.args.layout.now
    c.args.node c.args.object c.loop-place.index c.in-Some.place (sym c.in-Some.ensures) in
    let less : count_of c.args.layout.now c.args.object - (c.loop-place.index + 1) < count_of c.args.layout.now
    c.args.object - c.loop-place.index = omega arith in
    less

pub loop-place-preserved : goal.loop-place-preserved
loop-place-preserved c =
    let below : c.loop-place.index < count_of c.args.layout.now c.args.object = below_count c.args.layout.now
    c.args.node c.args.object c.loop-place.index c.in-Some.place (sym c.in-Some.ensures) in
    let within : c.loop-place.index + 1 ≤ count_of c.args.layout.now c.args.object = omega arith in (
      within,
      cell_added _ _ _ c.args.names.now c.args.layout.now (held_in c.args.memory.now) c.args.node
          c.args.object c.loop-place.index c.in-Some.place c.read.result c.in_ok-add_cell.ensures
          (sym (ap value_or_zero c.read.ensures.holds)) c.in-Some.ensures c.loop-place.invariant.1,
    )

pub returns : goal.returns
returns c =
    let past : count_of c.args.layout.now c.args.object ≤ c.loop-place.index = past_count c.args.layout.now
    c.args.node c.args.object c.loop-place.index (sym c.place_of.ensures ∙ c.in_default.is) in
    let all : c.loop-place.index ≡ count_of c.args.layout.now c.args.object = omega (arith, c.loop-place.invariant.0) in
    all_cells _ _ c.args.names.now c.args.layout.now (held_in c.args.memory.now) c.args.node c.args.object
    c.loop-place.index all c.loop-place.invariant.1
