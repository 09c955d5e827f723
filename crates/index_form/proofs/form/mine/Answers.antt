use Rattle.std.proofs.Common.{◌∙◌, sym}
use Rattle.index_form.proofs.Offsetting.{mine_some}
use Rattle.index_form.proofs.form.mine.Goals as goal

pub returns-in-Some : goal.returns-in-Some
returns-in-Some c =
    c.mine_by.ensures ∙ sym (mine_some _ _ c.in-Some.offset (sym c.in_ok-offset.ensures ∙ c.in-Some.is))
