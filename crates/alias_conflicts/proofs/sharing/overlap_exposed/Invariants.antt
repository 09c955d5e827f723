use Rattle.std.proofs.Common.{take}
use Rattle.std.specs.Prelude.{All}
use Rattle.alias_conflicts.specs.Regions.{HasObject, Meets}
use Rattle.alias_conflicts.proofs.sharing.overlap_exposed.Given as goal

abbrev pub invariant-loop-object : goal.invariant-loop-object
invariant-loop-object l = All (λ o. HasObject l.exposed l.b.object o × Meets l.layout o l.a l.b → ⊥) (take l.object-index l.exposed)
