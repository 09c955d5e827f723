use Rattle.alias_conflicts.proofs.SharedCells.{one_object, exposed_objects}
use Rattle.alias_conflicts.proofs.sharing.overlap.Goals as goal

pub returns-then-has_object : goal.returns-then-has_object
returns-then-has_object c =
    let one = one_object c.args.layout.now c.args.exposed.now c.in-Some.object c.args.a.now c.args.b.now c.requires.lawful c.in-Some.is in
    (λ e. one.0 (c.has_object.ensures.0 c.if-has_object.true, c.meet.ensures.0 e), λ w. c.meet.ensures.1 (one.1 w).1)

pub returns-in-None : goal.returns-in-None
returns-in-None c =
    let all = exposed_objects c.args.layout.now c.args.exposed.now c.args.a.now c.args.b.now c.requires.lawful c.in-None.is in
    (λ e. all.0 (c.overlap_some.ensures.0 e), λ w. c.overlap_some.ensures.1 (all.1 w))
