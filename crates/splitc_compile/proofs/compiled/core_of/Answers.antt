use Rattle.std.proofs.Common.{rules, ◌≡◌, ◌<◌, ◌≤◌, ◌^◌, sym, subst, length}
use Rattle.sc_core.specs.Core.{Program}
use Rattle.sc_core.specs.Lowering.{core_of}
use Rattle.sc_core.specs.ViewStatements.{plain_program}
use Rattle.sc_tree.specs.ViewTypedTree.{plain_typed_tree}
use Rattle.value_soundness.specs.Laws.{IsLaidSource}
use Rattle.splitc_compile.proofs.Begins.{laid_source, texts_enough}
use Rattle.splitc_compile.proofs.compiled.core_of.Goals as goal

pub returns-clause-laid : goal.returns-clause-laid
returns-clause-laid c = λ source nodes a.
    let typed = plain_typed_tree c.args.accepted.now.typed in
    let layout = c.args.accepted.now.layout in
    let is : plain_program c.in_ok-core.core ≡ core_of typed = c.in_ok-core.ensures in
    let few : layout.nodes < 2 ^ 32 = search rules in
    subst (λ (p : Program). IsLaidSource layout p) (sym is)
    (laid_source source nodes c.args.accepted.now.names typed layout a c.count-objects.ensures.lawful few)

pub returns-clause-named : goal.returns-clause-named
returns-clause-named c = λ source nodes a.
    let typed = plain_typed_tree c.args.accepted.now.typed in
    let layout = c.args.accepted.now.layout in
    let is : plain_program c.in_ok-core.core ≡ core_of typed = c.in_ok-core.ensures in
    subst (λ (p : Program). length p.functions ≤ length p.texts) (sym is)
    (texts_enough source nodes c.args.accepted.now.names typed layout a)
