use Rattle.std.proofs.Common.{sym, ap, ◌∙◌, subst}
use Rattle.journal_effects.specs.Occurred.{newest_first, ArePartsOf, IsWrittenBy}
use Rattle.journal_effects.proofs.Kept.{newest_push}
use Rattle.journal_effects.proofs.occurred.Occurred.with.Goals as goal

pub invariant_of-result : goal.invariant_of-result
invariant_of-result c =
    let was = newest_first c.self.inside.effects.items in
    let more = ap newest_first c.in-Ok.ensures.items ∙ newest_push c.self.inside.effects.items c.args.effect in (
      subst (ArePartsOf c.note_part.new.parts) (sym more) (c.in_ok-note_part.ensures was c.self.invariant.0),
      subst (IsWrittenBy c.note_written.new.written) (sym more) (c.in_ok-note_written.ensures was c.self.invariant.1),
    )
