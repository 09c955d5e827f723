use Rattle.std.proofs.Common.{◌∙◌, ap, ◌++◌, ◌∷◌, []}
use Rattle.std.specs.Int.{w64}
use Rattle.std.proofs.lemmas.Int.{to_z-of_z}
use Rattle.sc_lexer.specs.Defined.{defined_value}
use Rattle.sc_lexer.proofs.DefinedLaws.{defined-added}
use Rattle.sc_lexer.proofs.defined.Defined.add.Goals as goal

pub invariant_of-self-in-Ok-add : goal.invariant_of-self-in-Ok-add
invariant_of-self-in-Ok-add c =
    let absent = ap (defined_value c.args.name.now) c.self.view_is ∙ c.requires in
    (defined-added c.args.name.now c.args.value c.self.inside.names c.add.new.self c.self.inside.values.items c.push.new.self.items c.self.invariant absent c.in-Ok-add.ensures.names (c.in-Ok.ensures.items ∙ ap (λ v. c.self.inside.values.items ++ v ∷ []) (to_z-of_z w64 c.args.value c.ranges.value))).same

pub returns : goal.returns
returns c =
    let absent = ap (defined_value c.args.name.now) c.self.view_is ∙ c.requires in
    (defined-added c.args.name.now c.args.value c.self.inside.names c.add.new.self c.self.inside.values.items c.push.new.self.items c.self.invariant absent c.in-Ok-add.ensures.names (c.in-Ok.ensures.items ∙ ap (λ v. c.self.inside.values.items ++ v ∷ []) (to_z-of_z w64 c.args.value c.ranges.value))).pairs
    ∙ ap (λ ds. ds ++ (c.args.name.now, c.args.value) ∷ []) c.self.view_is
