use Rattle.std.proofs.Common.{rules, w64}
use Rattle.std.specs.Int.{w128}
use Rattle.std.specs.Prelude.{FitsSigned}
use Rattle.std.proofs.lemmas.Int.{to_z-of_z}
use Rattle.alias_conflicts.proofs.NodeNumbers.{steps_are}
use Rattle.alias_conflicts.proofs.nodes.steps_to.Goals as goal

pub returns : goal.returns
returns c = λ q e.
    (let k0 : FitsSigned w64 c.args.k = search rules in
    let c0 : FitsSigned w64 c.args.c = search rules in
    let g : FitsSigned w128 c.gap_to.result = search rules in
    let gap = simp to_z-of_z at c.gap_to.ensures in
    let size = simp to_z-of_z at c.unsigned_abs.ensures.value in
    let width = simp to_z-of_z at c.unsigned_abs-2.ensures.value in
    let same = c.from.ensures in
    let steps = steps_are c.args.k c.args.c q c.args.index c.requires e in
    cc)
