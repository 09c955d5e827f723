use Rattle.std.proofs.Common.{◌∙◌, ap, sym}
use Rattle.index_form.specs.Chains.{stepped}
use Rattle.index_form.specs.Placing.{object_by}
use Rattle.index_form.proofs.Placed.{object_some}
use Rattle.index_form.proofs.form.named_object.Goals as goal

pub returns-in-Some : goal.returns-in-Some
unfolding stepped
returns-in-Some c =
    c.object_of.ensures ∙ ap object_by c.kind_of.ensures ∙ sym (object_some _ (stepped c.in-Some.step) (sym c.in-Some.ensures))
