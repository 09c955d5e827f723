use Rattle.std.proofs.Common.{◌∙◌, ap, rules, w64, pos}
use Rattle.std.specs.Int.{int_rem_euclid, w128}
use Rattle.std.specs.Prelude.{FitsSigned}
use Rattle.std.proofs.lemmas.Int.{to_z-of_z}
use Rattle.alias_conflicts.specs.May.{linear}
use Rattle.alias_conflicts.proofs.Remainders.{wrapped, mine}
use Rattle.alias_conflicts.proofs.region.indices_of.Goals as goal

pub returns-in-Linear-clause-below : goal.returns-in-Linear-clause-below
returns-in-Linear-clause-below c = c.one_index.ensures.below c.args.nodes

pub returns-in-Wrapped-clause-exact : goal.returns-in-Wrapped-clause-exact
returns-in-Wrapped-clause-exact c = λ index fits.
    (let k : FitsSigned w64 c.in-Wrapped.k = search rules in
    let c0 : FitsSigned w64 c.in-Wrapped.c = search rules in
    let v : FitsSigned w128 c.value_of-in-Wrapped.result = search rules in
    let value = simp to_z-of_z at c.value_of-in-Wrapped.ensures in
    let left = simp to_z-of_z at c.remainder_of-index.ensures in
    let w = wrapped (linear c.in-Wrapped.k c.in-Wrapped.c c.args.node) c.args.nodes c.remainder_of-index.result c.requires (left ∙ ap (λ z. int_rem_euclid z (pos c.args.nodes)) value) index in
    rw (c.in-Wrapped.is, c.from.ensures) w)

pub returns-in-Mine-clause-exact : goal.returns-in-Mine-clause-exact
returns-in-Mine-clause-exact c = λ index fits.
    (let c0 : FitsSigned w64 c.in-Mine.c = search rules in
    let v : FitsSigned w128 c.value_of-in-Mine.result = search rules in
    let value = simp to_z-of_z at c.value_of-in-Mine.ensures in
    let left = simp to_z-of_z at c.remainder_of.ensures in
    let w = mine c.in-Mine.c c.args.nodes c.args.node c.remainder_of.result c.requires (left ∙ ap (λ z. int_rem_euclid z (pos c.args.nodes)) value) index in
    rw c.in-Mine.is w)
