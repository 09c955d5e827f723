use Rattle.std.proofs.Common.{sym, subst, List}
use Rattle.sc_base.specs.declared.shape.Shape.{Shape}
use Rattle.sc_core.specs.Lowering.{core_of}
use Rattle.sc_core.specs.Typed.{IsTyped}
use Rattle.sc_typing.specs.Program.{typed_of}
use Rattle.core_typing.proofs.Sources.{cores-typed}
use Rattle.core_typing.proofs.ProperTrees.{read-proper}
use Rattle.core_typing.proofs.Laid.{laid-shapes}
use Rattle.core_typing.proofs.laws.sources_have_typed_cores.Goals as goal

pub returns : goal.returns
returns c source nodes lexed tree layout is sentence laid typed =
    subst (λ (objects : List Shape). IsTyped objects (core_of (typed_of tree lexed.names lexed.texts)))
    (sym (laid-shapes tree.objects nodes layout laid))
    (cores-typed tree lexed.names lexed.texts (read-proper source lexed tree is sentence) typed)
