use Rattle.std.proofs.Common.{◌∙◌, ap, subst, rules, w64, pos, ◌-ℤ◌}
use Rattle.std.specs.Int.{int_rem_euclid, w128}
use Rattle.std.specs.Prelude.{FitsSigned}
use Rattle.std.proofs.lemmas.Int.{to_z-of_z}
use Rattle.alias_conflicts.specs.declared.region.Indices.{Indices}
use Rattle.alias_conflicts.specs.Regions.{IsBelow}
use Rattle.alias_conflicts.proofs.NodeNumbers.{only_on_line, only_mine, only_mine_left}
use Rattle.alias_conflicts.proofs.nodes.only_index_node.Goals as goal

pub returns-in-Linear-One : goal.returns-in-Linear-One
returns-in-Linear-One c =
    (let k0 : FitsSigned w64 c.in-Linear-One.k = search rules in
    let c0 : FitsSigned w64 c.in-Linear-One.c = search rules in
    let only = simp to_z-of_z at c.node_on_line.ensures in
    only_on_line c.args.nodes c.args.indices c.args.form c.in-Linear-One.k c.in-Linear-One.c c.in-Linear-One.index c.node_on_line.result c.in-Linear-One.is-0 c.in-Linear-One.is-1
    only)

pub returns-in-Mine-One : goal.returns-in-Mine-One
returns-in-Mine-One c =
    (let c0 : FitsSigned w64 c.in-Mine-One.c = search rules in
    let v : FitsSigned w128 c.gap_to.result = search rules in
    let value = simp to_z-of_z at c.gap_to.ensures in
    let left = simp to_z-of_z at c.remainder_of.ensures in
    only_mine c.args.nodes c.args.indices c.args.form c.in-Mine-One.c c.in-Mine-One.index c.remainder_of.result c.requires.some_node c.in-Mine-One.is-0 c.in-Mine-One.is-1
    (left ∙ ap (λ z. int_rem_euclid z (pos c.args.nodes)) value))

pub returns-in-Mine-Remainder : goal.returns-in-Mine-Remainder
returns-in-Mine-Remainder c =
    (let c0 : FitsSigned w64 c.in-Mine-Remainder.c = search rules in
    let v : FitsSigned w128 c.gap_to-in-Mine-Remainder.result = search rules in
    let value = simp to_z-of_z at c.gap_to-in-Mine-Remainder.ensures in
    let left = simp to_z-of_z at c.remainder_of-in-Mine-Remainder.ensures in
    let given = subst (λ (j : Indices). IsBelow c.args.nodes j) c.in-Mine-Remainder.is-1 c.requires.indices in
    only_mine_left c.args.nodes c.args.indices c.args.form c.in-Mine-Remainder.c c.in-Mine-Remainder.remainder c.remainder_of-in-Mine-Remainder.result c.requires.some_node given
    c.in-Mine-Remainder.is-0 c.in-Mine-Remainder.is-1
    (left ∙ ap (λ z. int_rem_euclid z (pos c.args.nodes)) (value ∙ ap (λ n. pos n -ℤ c.in-Mine-Remainder.c) c.from.ensures)))
